use Rattle.std.proofs.Common.{◌≡◌, ℕ, ◌<◌, ◌≤◌, slice_index_or}
use Rattle.sarif_inputs.specs.Snippets.{with_regions}
use Rattle.sarif_runs.specs.Internal.Opened.{placed_of}
use Rattle.sarif_runs.specs.declared.opened.OpenedRun.{OpenedRun}
use Rattle.sarif_inputs.proofs.snippets.read_all_regions.Given as goal

-- the runs before are read with regions, the others are as they were
abbrev pub invariant-loop-run : goal.invariant-loop-run
invariant-loop-run l =
    ((d : OpenedRun) (k : ℕ) → l.run-index ≤ k → slice_index_or l.run-items k d ≡ slice_index_or l.initial.run-items k d)
    × ((d : OpenedRun) (k : ℕ) → k < l.run-index
    → placed_of (slice_index_or l.run-items k d) ≡ with_regions (placed_of (slice_index_or l.initial.run-items k d)))
