use Rattle.std.proofs.Common.{◌≡◌, ◌++◌, take, drop}
use Rattle.sarif_page.specs.HtmlRules.{Rule, placed}
use Rattle.sarif_page.specs.Internal.Rules.{rules_in}
use Rattle.sarif_page.proofs.rules.place_of.Given as goal

abbrev pub invariant-loop-rule : goal.invariant-loop-rule
invariant-loop-rule l = record {
  place : l.place ≡ l.rule-index;
  placed : (r : Rule) → r.number ≡ l.number
      → placed r (rules_in l.ranked) ≡ take l.place (rules_in l.ranked) ++ placed r (drop l.place (rules_in l.ranked));
}
