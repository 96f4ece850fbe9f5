use Rattle.std.proofs.Common.{rules, ◌≡◌, ◌∙◌, map, List, Some, None, option_map, slice_get}
use Rattle.serde_json.specs.Data.{Data}
use Rattle.serde_json.specs.View.{view}
use Rattle.serde_json.specs.declared.value.Value.{Value}
use Rattle.sarif_findings.specs.Located.{own_id_at}
use Rattle.sarif_findings.specs.Lookup.{rule_by}
use Rattle.sarif_findings.proofs.RulesMore.{by_driver, by_extension}
use Rattle.sarif_findings.proofs.named_run.NamedRun.descriptor_of.Goals as goal

pub returns-in-None : goal.returns-in-None
returns-in-None c =
    by_driver (view c.args.self.now) c.args.rule.now (map view c.self.inside.driver) _ (search rules) (search rules) (search rules)

pub returns-in_err-rules_at-in-Some : goal.returns-in_err-rules_at-in-Some
returns-in_err-rules_at-in-Some c =
    let extensions = c.self.inside.extensions.items in
    let none : option_map {U = Data} (λ rule. view rule.now) c.from_residual.result ≡ None = search rules in
    let found : None ≡ slice_get extensions c.in-Some.index = search rules in
    none ∙ by_extension (view c.args.self.now) c.args.rule.now c.in-Some.index extensions None (search rules) (search rules) found

pub returns-in_ok-rules_at-in-Some : goal.returns-in_ok-rules_at-in-Some
returns-in_ok-rules_at-in-Some c =
    let r = c.args.rule.now in
    let extensions = c.self.inside.extensions.items in
    let own : List Value = c.in_ok-rules_at-in-Some.field-0.now in
    let named : option_map (λ rule. view rule.now) c.named_by-in-Some.result ≡ rule_by r.index (own_id_at r) (map view own) = search rules in
    let found : Some own ≡ slice_get extensions c.in-Some.index = search rules in
    named ∙ by_extension (view c.args.self.now) r c.in-Some.index extensions (Some own) (search rules) (search rules) found
