-- The rules of a list, as the contracts of the functions that count them see them.
use Rattle.std.specs.Prelude.{◌≡◌, ℕ, Bool, ◌&&◌, List, [], bytes_eq, map, unwrap_or}
use Rattle.std.specs.HashMap.{HashMap, get}
use Rattle.std.specs.List.{count_by}
use Rattle.sarif_findings.specs.declared.finding.Finding.{Finding}
use Rattle.sarif_page.specs.declared.rules.Rule.{Rule as Made}
use Rattle.sarif_page.specs.declared.rules.RuleKey.{RuleKey}
use Rattle.sarif_page.specs.declared.rules.Rules.{Rules}
use Rattle.sarif_page.specs.contracts.rules.RuleKeyPartialEq.TheImpl as derived
use Rattle.sarif_page.specs.HtmlRules.{Rule, firsts_after}
use Rattle.sarif_page.specs.Internal.ByFile.{findings_in}

-- whether two keys are equal
abbrev pub same_rule : RuleKey → RuleKey → Bool
same_rule = derived.ghosts.eq

-- whether a result is of this rule and tool
abbrev pub is_of : RuleKey → Finding → Bool
is_of key f = bytes_eq key.rule.now f.rule && bytes_eq key.tool.now f.tool

-- how many results of a rule were counted
abbrev pub counted : {S : Type 0} → HashMap RuleKey ℕ S → RuleKey → ℕ
counted counts key = unwrap_or (get same_rule counts key) 0

-- these results are counted
abbrev pub AreCounted : {S : Type 0} → List Finding → HashMap RuleKey ℕ S → Type 0
AreCounted results counts = (key : RuleKey) → counted counts key ≡ count_by (is_of key) results

-- these results are counted, and the first of each rule is known
abbrev pub IsTally : List Finding → Rules → Type 0
IsTally results rules =
    (findings_in rules.firsts.items ≡ firsts_after [] results) × AreCounted results rules.counts

abbrev pub rule_in : Made → Rule
rule_in made = record { first = made.first.now; number = made.number }

abbrev pub rules_in : List Made → List Rule
rules_in made = map rule_in made
