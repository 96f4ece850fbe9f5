use Rattle.std.proofs.Common.{rules, ◌≡◌, ◌++◌, codes, sym}
use Rattle.sarif_reports.specs.GitlabReport.{or_unknown}
use Rattle.sarif_reports.specs.GitlabParts.{quoted_text, rule_text}
use Rattle.sarif_reports.proofs.GitlabMore.{joined}
use Rattle.sarif_reports.proofs.quality.push_rule.Goals as goal

pub returns : goal.returns
unfolding rule_text
returns c =
    let rule : c.or_unknown-rule.result.now ≡ or_unknown c.args.finding.now.rule = search rules in
    let message : c.as_str-2.result.now ≡ c.args.finding.now.message = search rules in
    rw (sym rule, sym message)
    (joined _ _ _ (codes "{\"check_name\":" ++ quoted_text c.or_unknown-rule.result.now)
    (codes ",\"description\":" ++ quoted_text c.as_str-2.result.now) c.in_ok-push_member.ensures c.in_ok-push_member-2.ensures)
