-- Properties of the table of results in Markdown, for any strings of a log.
use Rattle.std.specs.Prelude.{◌≡◌, ℕ, ◌+◌, ◌<◌, ◌≤◌, ◌^◌, length, Bool, true, ◌&&◌, ◌==◌, List, [], ◌∷◌, Option, Some, None, IfSome, chars, if◌then◌else◌}
use Rattle.sarif_links.specs.Template.{is_template}
use Rattle.sarif_model.specs.declared.kinds.Level.{Level}
use Rattle.sarif_model.specs.declared.kinds.State.{State}
use Rattle.std.specs.List.{AllByRecursion}
use Rattle.sarif_conditions.specs.declared.facts.ConditionFacts.{ConditionFacts}
use Rattle.sarif_conditions.specs.declared.facts.PolicyFacts.{PolicyFacts}
use Rattle.sarif_reports.specs.MarkdownReport.{condition_rows, room_for}
use Rattle.sarif_scope.specs.Told.{outside_told}
use Rattle.sarif_scope.specs.declared.facts.ChangeFacts.{ChangeFacts}
use Rattle.sarif_shown.specs.Facts.{Facts}

-- whether each line ends and has this many bars; some of the first line's were read already
abbrev pub have_bars : ℕ → ℕ → List ℕ → Bool
have_bars count before [] = before == 0
have_bars count before (b ∷ bs) =
    if b == 10 then (before == count && have_bars count 0 bs) else (
    if b == 124 then have_bars count (before + 1) bs else have_bars count before bs)

-- places are linked by a template, if they are
abbrev pub AreLinks : Option (List ℕ) → Type 0
AreLinks link = IfSome link (λ template. is_template template ≡ true)

-- the numbers of a policy as the program holds them
pub record AreSmallOfPolicy (ruling : PolicyFacts) : Type 0 where
  pub hits : ruling.hits < 2 ^ 32
  pub reported : ruling.reported < 2 ^ 32
  pub filters : ruling.unused_filters < 2 ^ 32
  pub unchecked : ruling.unchecked < 2 ^ 32
  pub conditions : length ruling.conditions < 2 ^ 64

-- numbers as the program holds them: counts of 32 bits, and lists that fit into memory
pub record AreSmall (facts : Facts) : Type 0 where
  pub counts : (s : State) (l : Level) (b : Bool) → facts.count s l b < 2 ^ 32
  pub max : facts.policy.max < 2 ^ 32
  pub without : facts.without < 2 ^ 32
  pub unused : facts.unused < 2 ^ 32
  pub findings : length facts.findings < 2 ^ 64
  pub outside : outside_told facts.change < 2 ^ 32
  pub ruling : IfSome facts.ruling AreSmallOfPolicy

-- the most bytes of a report, which has one more sentence with a change; with a policy 62,000, unless the rows of its
-- conditions alone have more than 60,000
abbrev pub most_with : Option PolicyFacts → Option ChangeFacts → ℕ
most_with None None = 61000
most_with None (Some change) = 61100
most_with (Some ruling) change =
    room_for (Some ruling) + (length (condition_rows ruling.conditions) + 2000)

abbrev pub most_of : Facts → ℕ
most_of facts = most_with facts.ruling facts.change

-- conditions as a policy file may have them: at most 100, each with a name of at most 50 characters, and numbers of 32 bits,
-- but the limit, which a ratchet raises
pub record IsSmallCondition (c : ConditionFacts) : Type 0 where
  pub name : length (chars c.name) ≤ 50
  pub hits : c.hits < 2 ^ 32
  pub limit : c.limit < 2 ^ 64
  pub outside : IfSome c.outside (λ n. n < 2 ^ 32)

pub record AreFewConditions (ruling : PolicyFacts) : Type 0 where
  pub few : length ruling.conditions ≤ 100
  pub each : AllByRecursion IsSmallCondition ruling.conditions
