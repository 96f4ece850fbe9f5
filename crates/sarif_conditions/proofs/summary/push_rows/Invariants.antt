use Rattle.std.proofs.Common.{◌≡◌, ◌++◌, drop, string_bytes}
use Rattle.std.specs.List.{flat_map}
use Rattle.sarif_conditions.specs.Summary.{condition_line}
use Rattle.sarif_conditions.proofs.summary.push_rows.Given as goal

-- the text so far, and then the lines of the conditions that are left
abbrev pub invariant-loop-condition : goal.invariant-loop-condition
invariant-loop-condition l =
    string_bytes l.text ++ flat_map condition_line (drop l.condition-index l.facts) ≡ string_bytes l.fn.text ++ flat_map condition_line l.facts
