-- The rules of the results of a list, with the number of results of each, and where they are on the page.
use Rattle.std.specs.Prelude.{ℕ, Bool, false, true, ◌&&◌, ◌==◌, List, [], ◌∷◌, ◌++◌, map, take, bytes_eq, nat_lt, if◌then◌else◌}
use Rattle.std.specs.List.{count_by, filter}
use Rattle.sarif_findings.specs.declared.finding.Finding.{Finding}

-- whether a result has a rule
abbrev pub has_text : List ℕ → Bool
has_text [] = false
has_text (b ∷ bs) = true

abbrev pub has_rule : Finding → Bool
has_rule f = has_text f.rule

-- whether a result is of this result's rule and tool
abbrev pub is_alike : Finding → Finding → Bool
is_alike f g = bytes_eq f.rule g.rule && bytes_eq f.tool g.tool

abbrev pub first_if : ℕ → Finding → List Finding
first_if before f = if before == 0 then f ∷ [] else []

-- the first result of each rule and tool among these, unless one is among `before`
abbrev pub firsts_after : List Finding → List Finding → List Finding
firsts_after before [] = []
firsts_after before (f ∷ fs) =
    first_if (count_by (is_alike f) before) f ++ firsts_after (before ++ f ∷ []) fs

-- a rule of a tool: its first result, and how many results it has
pub record Rule : Type 0 where
  pub first : Finding
  pub number : ℕ

abbrev pub rule_among : List Finding → Finding → Rule
rule_among results f = record { first = f; number = count_by (is_alike f) results }

-- the rules of these results, in the order of the first results
abbrev pub rules_among : List Finding → List Rule
rules_among results = map (rule_among results) (firsts_after [] results)

-- the rules of all results that have one
abbrev pub rules_of : List Finding → List Rule
rules_of results = rules_among (filter has_rule results)

-- ---- the rules with the most results first

-- a rule after those with as many results or more
abbrev pub placed : Rule → List Rule → List Rule
placed r [] = r ∷ []
placed r (s ∷ rs) = if nat_lt s.number r.number then r ∷ (s ∷ rs) else s ∷ placed r rs

-- these rules, in order, among those that are placed
abbrev pub all_placed : List Rule → List Rule → List Rule
all_placed ranked [] = ranked
all_placed ranked (r ∷ rs) = all_placed (placed r ranked) rs

-- the rules by their numbers of results, equal ones in their order
abbrev pub most_first : List Rule → List Rule
most_first rules = all_placed [] rules

-- the most rules that the index shows
abbrev pub most_rules : ℕ
most_rules = 100

unfoldable pub shown_rules : List Finding → List Rule
shown_rules results = take most_rules (most_first (rules_of results))
