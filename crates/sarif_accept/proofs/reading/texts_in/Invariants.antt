use Rattle.std.proofs.Common.{◌≡◌, ◌++◌}
use Rattle.serde_json.specs.View.{members_view}
use Rattle.sarif_entries.specs.Entries.{pairs_of}
use Rattle.sarif_accept.proofs.reading.texts_in.Given as goal

-- the pairs so far, and then those of the members that are left
abbrev pub invariant-loop-name : goal.invariant-loop-name
invariant-loop-name l =
    l.pairs ++ pairs_of (members_view l.name-iterator) ≡ pairs_of (members_view l.members.entries)
