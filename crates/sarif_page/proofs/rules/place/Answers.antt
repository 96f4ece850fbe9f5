use Rattle.std.proofs.Common.{◌≡◌, take, ap, sym, refl, ◌∙◌}
use Rattle.std.specs.List.{insert}
use Rattle.std.proofs.lemmas.List.{take-map}
use Rattle.sarif_page.specs.HtmlRules.{most_rules, placed}
use Rattle.sarif_page.specs.Internal.Rules.{rule_in, rules_in}
use Rattle.sarif_page.proofs.RulesMore.{inserted}
use Rattle.sarif_page.proofs.rules.place.Goals as goal

pub returns : goal.returns
returns c =
    let items = c.args.ranked.now.items in
    let at = c.place_of-place.result in
    let r = rule_in c.args.rule in
    let here : placed r (rules_in items) ≡ insert (rules_in items) at r =
    ap (λ l. placed r (rules_in l)) (sym c.deref.ensures.value) ∙ c.place_of-place.ensures.place r refl
    ∙ ap (λ l. insert (rules_in l) at r) c.deref.ensures.value in
    ap rules_in c.truncate.ensures.items ∙ sym (take-map rule_in most_rules c.insert.new.self.items)
    ∙ ap (λ l. take most_rules (rules_in l)) c.in_ok-insert.ensures.items
    ∙ ap (take most_rules) (inserted rule_in items at c.args.rule)
    ∙ ap (take most_rules) (sym here)
