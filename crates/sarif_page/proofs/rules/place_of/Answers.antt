use Rattle.std.proofs.Common.{◌≡◌, true, false, nat_lt, arith}
use Rattle.std.proofs.lemmas.Bool.{le-ltb}
use Rattle.std.proofs.lemmas.Bool.Decides.{nat_tests}
use Rattle.sarif_page.specs.Internal.Rules.{rule_in, rules_in}
use Rattle.sarif_page.proofs.RulesMore.{here_made, placed_here, placed_past}
use Rattle.sarif_page.proofs.rules.place_of.Goals as goal

pub returns-then-rule-number-clause-place : goal.returns-then-rule-number-clause-place
returns-then-rule-number-clause-place c = λ r is.
    let made = c.args.ranked.now in
    let s = rule_in c.rule-item.result in
    let here = here_made made c.loop-rule.place c.loop-rule.rule-index c.rule-item.result c.loop-rule.invariant.place c.loop-rule-test.true c.rule-item.is in
    let fewer = c.if-rule-number.true in
    let less : nat_lt s.number r.number ≡ true = grind (arith, nat_tests, fewer, is) in
    placed_here r s (rules_in made) c.loop-rule.place here.0 here.1 less (c.loop-rule.invariant.placed r is)

pub loop-rule-preserved : goal.loop-rule-preserved
loop-rule-preserved c = record {
  place = omega (arith, c.loop-rule.invariant.place);
  placed = λ r is.
      let made = c.args.ranked.now in
      let s = rule_in c.rule-item.result in
      let here = here_made made c.loop-rule.place c.loop-rule.rule-index c.rule-item.result c.loop-rule.invariant.place c.loop-rule-test.true c.rule-item.is in
      let more : nat_lt s.number r.number ≡ false = le-ltb s.number r.number (omega (arith, c.if-rule-number.false, is)) in
      placed_past r s (rules_in made) c.loop-rule.place here.0 here.1 more (c.loop-rule.invariant.placed r is);
}
