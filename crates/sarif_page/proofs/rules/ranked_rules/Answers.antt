use Rattle.std.proofs.Common.{◌≡◌, ◌+◌, ◌∷◌, drop, map, take, ap, sym, ◌∙◌, arith}
use Rattle.std.specs.List.{count_by}
use Rattle.std.proofs.lemmas.List.{drop_more, drop_all}
use Rattle.sarif_page.specs.HtmlRules.{all_placed, is_alike, most_rules, placed, rule_among}
use Rattle.sarif_page.specs.Internal.ByFile.{findings_in}
use Rattle.sarif_page.specs.Internal.Rules.{rules_in}
use Rattle.sarif_page.proofs.RulesMore.{kept_again, made_rule, of_key, placed_next}
use Rattle.sarif_page.proofs.rules.ranked_rules.Goals as goal

pub loop-first-init : goal.loop-first-init
loop-first-init c = record {
  told = λ results counts.
      ap (λ l. take most_rules (all_placed (rules_in l) (map (rule_among results) (findings_in c.args.firsts.now)))) c.new-ranked.ensures.items;
  kept = ap (λ l. take most_rules (rules_in l)) c.new-ranked.ensures.items ∙ sym (ap rules_in c.new-ranked.ensures.items);
}

pub loop-first-preserved : goal.loop-first-preserved
loop-first-preserved c = record {
  told = λ results counts.
      let fs = c.args.firsts.now in
      let i = c.loop-first.first-index in
      let first = c.first-item.result in
      let old = rules_in c.loop-first.ranked.items in
      let new = rules_in c.place.new.ranked.items in
      let number : c.number_at-number.result ≡ count_by (is_alike first.now) results =
      c.number_at-number.ensures ∙ counts c.key_of.result ∙ of_key c.key_of.result first.now results c.key_of.ensures.rule c.key_of.ensures.tool in
      let rest : drop i fs ≡ first ∷ drop (i + 1) fs =
      drop_more fs i first c.loop-first-test.true ∙ ap (λ x. x ∷ drop (i + 1) fs) (sym c.first-item.is) in
      placed_next most_rules (rule_among results first.now) (map (rule_among results) (findings_in (drop (i + 1) fs))) old new
      (c.in_ok-place.ensures ∙ ap (λ r. take most_rules (placed r old)) (made_rule results first.now c.number_at-number.result number))
      ∙ ap (λ l. take most_rules (all_placed old (map (rule_among results) (findings_in l)))) (sym rest)
      ∙ c.loop-first.invariant.told results counts;
  kept = kept_again most_rules (rules_in c.place.new.ranked.items) _ c.in_ok-place.ensures;
}

pub returns : goal.returns
returns c = λ results counts.
    let ranked = rules_in c.loop-first.ranked.items in
    sym c.loop-first.invariant.kept
    ∙ ap (λ l. take most_rules (all_placed ranked (map (rule_among results) (findings_in l))))
    (sym (drop_all c.loop-first.first-index c.args.firsts.now (omega (arith, c.loop-first-test.false))))
    ∙ c.loop-first.invariant.told results counts
