use Rattle.std.proofs.Common.{◌≡◌, ◌++◌, drop, map}
use Rattle.sarif_entries.specs.Internal.Filing.{key_of_pair}
use Rattle.sarif_entries.proofs.message_keys.add_keys_with_uri.Given as goal

-- the keys so far, and then those of the fingerprints that are left
abbrev pub invariant-loop-pair : goal.invariant-loop-pair
invariant-loop-pair l =
    l.keys.items ++ map (key_of_pair l.uri) (drop l.pair-index l.pairs) ≡ l.fn.keys.items ++ map (key_of_pair l.uri) l.pairs
