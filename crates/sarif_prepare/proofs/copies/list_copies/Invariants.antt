use Rattle.std.proofs.Common.{◌≡◌, ◌++◌, map, drop}
use Rattle.sarif_runs.specs.Internal.Opened.{placed_of}
use Rattle.sarif_prepare.specs.Internal.Apart.{copy_drafts}
use Rattle.sarif_prepare.specs.Internal.Leftover.{found_at, leftover_draft}
use Rattle.sarif_prepare.proofs.copies.list_copies.Given as goal

abbrev pub invariant-loop-number : goal.invariant-loop-number
invariant-loop-number l =
    map leftover_draft l.copies.items
    ++ copy_drafts (drop l.number l.marks) (map (λ o. o.item) (drop l.number l.outcomes)) (map (found_at (map placed_of l.runs)) (drop l.number l.spots))
    ≡ copy_drafts l.marks (map (λ o. o.item) l.outcomes) (map (found_at (map placed_of l.runs)) l.spots)
