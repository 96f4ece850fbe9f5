use Rattle.std.proofs.Common.{◌≡◌, ◌++◌, map, drop}
use Rattle.sarif_results.specs.Drafts.{drafts_by, unapplied}
use Rattle.sarif_prepare.specs.Internal.Leftover.{found_at, leftover_draft, not_taken}
use Rattle.sarif_runs.specs.Internal.Opened.{placed_of}
use Rattle.sarif_prepare.proofs.leftovers.list_leftovers.Given as goal

abbrev pub invariant-loop-number : goal.invariant-loop-number
invariant-loop-number l =
    map leftover_draft l.left.items
    ++ not_taken (drop l.number l.taken)
    (drafts_by (λ _ own. own) unapplied (drop l.number l.records) (map (found_at (map placed_of l.runs)) (drop l.number l.spots)))
    ≡ not_taken l.taken (drafts_by (λ _ own. own) unapplied l.records (map (found_at (map placed_of l.runs)) l.spots))
