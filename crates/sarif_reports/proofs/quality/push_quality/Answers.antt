use Rattle.std.proofs.Common.{◌++◌, codes, ◌∙◌}
use Rattle.sarif_reports.specs.GitlabParts.{quoted_text, rule_text, location_text, severity_text}
use Rattle.sarif_reports.proofs.GitlabMore.{quality_parts, joined, joined_before}
use Rattle.sarif_reports.proofs.quality.push_quality.Goals as goal

pub returns : goal.returns
returns c =
    let f = c.args.finding.now in
    let ends = joined _ _ _ (location_text f) (severity_text f.level) c.in_ok-push_location.ensures c.in_ok-push_severity.ensures in
    let begins = joined_before _ _ _ (rule_text f) (codes ",\"fingerprint\":" ++ quoted_text c.args.mark.now)
    (location_text f ++ severity_text f.level) c.in_ok-push_rule.ensures c.in_ok-push_member.ensures in
    rw (quality_parts f c.args.mark.now) (ends ∙ begins)
