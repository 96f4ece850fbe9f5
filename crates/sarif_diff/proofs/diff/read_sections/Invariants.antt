use Rattle.std.proofs.Common.{◌≡◌, ◌≤◌, ◌<◌, ◌+◌, length}
use Rattle.sarif_diff.specs.Lines.{lines_of}
use Rattle.sarif_diff.specs.Reading.{change_from, sections_of}
use Rattle.sarif_diff.proofs.diff.read_sections.Given as goal

abbrev pub invariant-loop-rest : goal.invariant-loop-rest
invariant-loop-rest l =
    (change_from l.number l.added l.reading l.draft (lines_of l.rest) ≡ sections_of l.bytes)
    × (l.number + length l.rest ≤ length l.bytes + 1) × (l.added < l.number)

abbrev pub decreases-loop-rest : goal.decreases-loop-rest
decreases-loop-rest l = length l.rest
