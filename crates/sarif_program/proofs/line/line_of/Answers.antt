use Rattle.sarif_program.specs.Line.{complaint_line}
use Rattle.sarif_program.proofs.Composed.{composed}
use Rattle.sarif_program.proofs.line.line_of.Goals as goal

pub returns-in-Ok : goal.returns-in-Ok
returns-in-Ok c = composed (λ line. line.bytes) (complaint_line c.args.complaint) c.new-line.result c.writeln.new.self c.new-line.ensures c.in-Ok.ensures.writes
