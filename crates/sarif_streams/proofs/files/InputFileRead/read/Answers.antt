use Rattle.std.proofs.Common.{rules, ap}
use Rattle.sarif_streams.proofs.files.InputFileRead.read.Goals.{in-Open+in_ok-taken-in-Open, in_default-stage}
use Rattle.sarif_streams.proofs.files.InputFileRead.read.Goals as goal

pub returns-else-taken-eq0-clause-open : goal.returns-else-taken-eq0-clause-open
returns-else-taken-eq0-clause-open g c some = elim c.match-self-2.branch [
  | in-Open+in_ok-taken-in-Open w ↦ (_, ap (λ self. self.stage) w.self-is)
  | in_default-stage w ↦ search rules
]
