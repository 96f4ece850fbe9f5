use Rattle.std.proofs.Common.{◌≡◌, ℕ, List, subst}
use Rattle.std.specs.Prelude.{IfOk}
use Rattle.sarif_findings.proofs.CodeLines.{blank_cut}
use Rattle.sarif_findings.proofs.code_lines.cut_line.Goals as goal

pub returns-then-line : goal.returns-then-line
returns-then-line c =
    subst (λ (cut : List ℕ). IfOk c.copy_of.result (λ text. text ≡ cut)) (blank_cut c.args.common c.args.line c.if-line.true) c.copy_of.ensures
