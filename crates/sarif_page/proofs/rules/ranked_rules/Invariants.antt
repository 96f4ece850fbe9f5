use Rattle.std.proofs.Common.{◌≡◌, List, drop, map, take}
use Rattle.sarif_findings.specs.declared.finding.Finding.{Finding}
use Rattle.sarif_page.specs.HtmlRules.{all_placed, most_first, most_rules, rule_among}
use Rattle.sarif_page.specs.Internal.ByFile.{findings_in}
use Rattle.sarif_page.specs.Internal.Rules.{AreCounted, rules_in}
use Rattle.sarif_page.proofs.rules.ranked_rules.Given as goal

abbrev pub invariant-loop-first : goal.invariant-loop-first
invariant-loop-first l = record {
  told : (results : List Finding) → AreCounted results l.counts
      → take most_rules (all_placed (rules_in l.ranked.items) (map (rule_among results) (findings_in (drop l.first-index l.firsts))))
      ≡ take most_rules (most_first (map (rule_among results) (findings_in l.firsts)));
  kept : take most_rules (rules_in l.ranked.items) ≡ rules_in l.ranked.items;
}
