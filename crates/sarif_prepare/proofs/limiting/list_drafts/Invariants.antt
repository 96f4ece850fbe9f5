use Rattle.std.proofs.Common.{◌≡◌, ◌++◌, map, drop}
use Rattle.sarif_prepare.specs.Internal.Leftover.{found_at}
use Rattle.sarif_prepare.specs.Internal.Limiting.{drafts_again}
use Rattle.sarif_runs.specs.Internal.Opened.{placed_of}
use Rattle.sarif_prepare.proofs.limiting.list_drafts.Given as goal

abbrev pub invariant-loop-number : goal.invariant-loop-number
invariant-loop-number l =
    l.drafts.items
    ++ drafts_again l.file (drop l.number (map (λ r. r.now) l.records)) (drop l.number l.lists)
    (drop l.number (map (found_at (map placed_of l.runs)) l.spots))
    ≡ drafts_again l.file (map (λ r. r.now) l.records) l.lists (map (found_at (map placed_of l.runs)) l.spots)
