use Rattle.std.proofs.Common.{◌≡◌, subst}
use Rattle.std.specs.Prelude.{IfOk}
use Rattle.serde_json.specs.View.{view}
use Rattle.sarif_findings.proofs.AtLocation.{whole_at}
use Rattle.sarif_findings.proofs.whole.finding_of_whole.Goals as goal

pub returns : goal.returns
returns c =
    let same = whole_at c.args.reporting.now (view c.args.run.now)
    (view c.args.found.now) c.told_of-told.result c.args.level c.args.state c.told_of-told.ensures in
    subst (λ it. IfOk c.finding_of.result (λ finding. finding ≡ it)) same c.finding_of.ensures
