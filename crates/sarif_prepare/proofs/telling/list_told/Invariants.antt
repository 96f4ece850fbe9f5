use Rattle.std.proofs.Common.{◌≡◌, ◌++◌, map, drop}
use Rattle.sarif_prepare.specs.Internal.Telling.{pair_at, placed_told, told_by, told_each}
use Rattle.sarif_prepare.proofs.telling.list_told.Given as goal

abbrev pub invariant-loop-number : goal.invariant-loop-number
invariant-loop-number l =
    map (told_by l.reporting) l.told.items
    ++ told_each l.reporting (map (pair_at (map placed_told l.runs)) (drop l.number l.spots)) (drop l.number l.drafts) (drop l.number l.states)
    ≡ told_each l.reporting (map (pair_at (map placed_told l.runs)) l.spots) l.drafts l.states
