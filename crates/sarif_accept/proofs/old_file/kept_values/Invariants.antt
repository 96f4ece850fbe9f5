use Rattle.std.proofs.Common.{◌≡◌, ◌++◌, map, drop}
use Rattle.serde_json.specs.View.{view}
use Rattle.sarif_accept.specs.Keeping.{chosen}
use Rattle.sarif_accept.proofs.Flags.{node_value}
use Rattle.sarif_accept.proofs.old_file.kept_values.Given as goal

-- the marked entries so far, and then those of the rest
abbrev pub invariant-loop-number : goal.invariant-loop-number
invariant-loop-number l =
    map view l.values.items ++ chosen (drop l.number l.kept) (map node_value (drop l.number l.entries))
    ≡ chosen l.kept (map node_value l.entries)
