use Rattle.std.proofs.Common.{◌∙◌}
use Rattle.sarif_findings.proofs.CodeRows.{no_space}
use Rattle.sarif_findings.proofs.code.without_spaces.Goals as goal

pub returns : goal.returns
returns c = no_space c.loop-after.rest.now c.in_default.ensures ∙ c.loop-after.invariant.1
