use Rattle.std.proofs.Common.{rules, ◌≡◌, ◌<◌, ◌^◌, ◌++◌, ◌∷◌, [], true, ap, sym, ◌∙◌, append-nil, ne_eqb, if◌then◌else◌, arith}
use Rattle.std.proofs.lemmas.List.{map-append}
use Rattle.std.proofs.lemmas.List.Sums.{count_by-le-length}
use Rattle.sarif_page.specs.HtmlRules.{first_if, has_rule}
use Rattle.sarif_page.specs.Internal.ByFile.{findings_in}
use Rattle.sarif_page.specs.Internal.Rules.{counted, is_of}
use Rattle.sarif_page.proofs.RulesMore.{next_tally}
use Rattle.sarif_page.proofs.rules.Rules.add.Goals as goal

pub returns-in_ok-push : goal.returns-in_ok-push
returns-in_ok-push c = λ results few tally.
    let f = c.args.finding.now in
    let key = c.key_of.result in
    let old = c.args.self.now in
    let some : has_rule f ≡ true = search rules in
    let room : counted old.counts key < 2 ^ 63 = omega (arith, tally.1 key, count_by-le-length (is_of key) results, few) in
    let first : first_if c.in_ok-before.before f ≡ f ∷ [] = ap (λ n. first_if n f) c.if-before-eq0.true in
    let pushed : findings_in c.push.new.self.items ≡ findings_in old.firsts.items ++ first_if c.in_ok-before.before f =
    ap findings_in c.in_ok-push.ensures.items ∙ map-append (λ x. x.now) old.firsts.items (c.args.finding ∷ [])
    ∙ ap (λ l. findings_in old.firsts.items ++ l) (sym first) in
    next_tally results f key old.counts c.count.new.counts c.in_ok-before.before (findings_in old.firsts.items) (findings_in c.push.new.self.items)
    some c.key_of.ensures.rule c.key_of.ensures.tool tally.0 tally.1 c.in_ok-before.ensures.before (c.in_ok-before.ensures.counted room) pushed

pub returns-else-before-eq0 : goal.returns-else-before-eq0
returns-else-before-eq0 c = λ results few tally.
    let f = c.args.finding.now in
    let key = c.key_of.result in
    let old = c.args.self.now in
    let some : has_rule f ≡ true = search rules in
    let room : counted old.counts key < 2 ^ 63 = omega (arith, tally.1 key, count_by-le-length (is_of key) results, few) in
    let later : first_if c.in_ok-before.before f ≡ [] = ap (λ b. if b then f ∷ [] else []) (ne_eqb c.in_ok-before.before 0 c.if-before-eq0.false) in
    let same : findings_in old.firsts.items ≡ findings_in old.firsts.items ++ first_if c.in_ok-before.before f =
    sym (append-nil (findings_in old.firsts.items)) ∙ ap (λ l. findings_in old.firsts.items ++ l) (sym later) in
    next_tally results f key old.counts c.count.new.counts c.in_ok-before.before (findings_in old.firsts.items) (findings_in old.firsts.items)
    some c.key_of.ensures.rule c.key_of.ensures.tool tally.0 tally.1 c.in_ok-before.ensures.before (c.in_ok-before.ensures.counted room) same
