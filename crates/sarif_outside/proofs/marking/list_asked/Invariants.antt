use Rattle.std.proofs.Common.{◌≡◌, ◌++◌, map, drop}
use Rattle.sarif_scope.specs.declared.gated.GatedChange.{GatedChange}
use Rattle.sarif_outside.specs.Internal.Asked.{AreLookedFor, mark_by, placed_looked}
use Rattle.sarif_outside.specs.Marks.{both, is_outside_at}
use Rattle.sarif_outside.proofs.marking.list_asked.Given as goal

abbrev pub invariant-loop-number : goal.invariant-loop-number
invariant-loop-number l = (change : GatedChange) → AreLookedFor change l.runs
    → map mark_by l.list.items
    ++ both (drop l.number l.asked) (map (is_outside_at change (map placed_looked l.runs)) (drop l.number l.spots))
    ≡ both l.asked (map (is_outside_at change (map placed_looked l.runs)) l.spots)
