use Rattle.std.proofs.Common.{◌≡◌, drop}
use Rattle.sarif_streams.specs.Failing.{NoneFalls}
use Rattle.sarif_program.specs.Reports.{report_failures}
use Rattle.sarif_program.specs.Writing.{writers_in}
use Rattle.sarif_program.proofs.Written.{AreTakenTo}
use Rattle.sarif_program.proofs.writing.put_reports.Given as goal

-- the writers so far accepted their contents, and the others are unchanged
abbrev pub invariant-loop-number : goal.invariant-loop-number
invariant-loop-number g l = record {
  left : drop l.number l.writers ≡ drop l.number l.fn.writers;
  taken : AreTakenTo l.number g.P.Write.contents l.texts l.fn.writers l.writers;
  quiet : report_failures l.writers ≡ report_failures l.fn.writers;
  risen : NoneFalls (writers_in l.fn.writers) (writers_in l.writers);
}
