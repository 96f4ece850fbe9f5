use Rattle.std.proofs.Common.{rules, ◌≡◌, ◌∙◌, ap, List, Some, None, slice_get}
use Rattle.serde_json.specs.View.{view}
use Rattle.serde_json.specs.declared.value.Value.{Value}
use Rattle.sarif_findings.proofs.RulesMore.{by_extension}
use Rattle.sarif_ratings.specs.Ratings.{rule_rating}
use Rattle.sarif_ratings.proofs.rated_run.RatedRun.rule_rating.Goals as goal

pub returns-in-Some-rules_at : goal.returns-in-Some-rules_at
returns-in-Some-rules_at c =
    let extensions = c.self.inside.extensions.items in
    let own : List Value = c.in-Some-rules_at.rules.now in
    let found : Some own ≡ slice_get extensions c.in-Some.index = search rules in
    c.named_by-in-Some-rules_at.ensures
    ∙ ap rule_rating (by_extension (view c.args.self.now) c.args.rule.now c.in-Some.index extensions (Some own) (search rules) (search rules) found)

pub returns-in-None-rules_at : goal.returns-in-None-rules_at
returns-in-None-rules_at c =
    let extensions = c.self.inside.extensions.items in
    let found : None ≡ slice_get extensions c.in-Some.index = search rules in
    search rules
    ∙ ap rule_rating (by_extension (view c.args.self.now) c.args.rule.now c.in-Some.index extensions None (search rules) (search rules) found)
