use Rattle.std.proofs.Common.{rules, ◌≡◌, ◌∙◌, sym, ap}
use Rattle.serde_json.specs.View.{view}
use Rattle.sarif_policy.specs.declared.rating.Rating.TheVariants.{Missing}
use Rattle.sarif_findings.specs.Lookup.{descriptor_of}
use Rattle.sarif_ratings.specs.Ratings.{own_or, rule_rating}
use Rattle.sarif_findings.proofs.AtLocation.{descriptor_same}
use Rattle.sarif_ratings.proofs.OwnOr.{own_first}
use Rattle.sarif_ratings.proofs.rated_run.RatedRun.rating.Goals as goal

pub returns-in-Missing : goal.returns-in-Missing
returns-in-Missing c = λ found own refers.
    let run = view c.args.self.now in
    let missing : c.args.own.now ≡ Missing = search rules in
    c.rule_rating.ensures
    ∙ ap rule_rating (descriptor_same run found c.args.rule.now refers)
    ∙ ap (λ said. own_or said (rule_rating (descriptor_of run found))) (sym missing ∙ own)
    ∙ own_first found (descriptor_of run found)
