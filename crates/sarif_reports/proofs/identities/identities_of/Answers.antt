use Rattle.sarif_reports.specs.GitlabParts.{identity_with}
use Rattle.sarif_share.proofs.Sharings.{each_mapped}
use Rattle.sarif_reports.proofs.identities.identities_of.Goals as goal

pub returns : goal.returns
returns g c = each_mapped _ _ identity_with (λ p u said. said) c.args.findings.now c.in_ok-made.made.items c.in_ok-made.ensures
