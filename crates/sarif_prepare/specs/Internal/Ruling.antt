-- What conditions of a policy make of matched results, from what they decide.
use Rattle.std.specs.Prelude.{◌≡◌, ℕ, List, Option, Some, None, length, option_map, take}
use Rattle.sarif_accept.specs.Choosing.{Marks}
use Rattle.sarif_conditions.specs.declared.decided.Decided.{Decided}
use Rattle.sarif_known.specs.declared.standing.Standing.{Standing}
use Rattle.sarif_log.specs.Internal.Copied.{masked}
use Rattle.sarif_options.specs.declared.policy.Policy.{Policy}
use Rattle.sarif_prepare.specs.Chosen.{absent_among, others_among, with_hits}
use Rattle.sarif_prepare.specs.Told.{any_policy}
use Rattle.sarif_prepare.specs.declared.outside.Narrowed.{Narrowed}
use Rattle.sarif_prepare.specs.declared.pairing.Paired.{Paired}
use Rattle.sarif_prepare.specs.declared.ruled.RuledSides.{RuledSides}

-- which results of logs aren't hits, the states of the hits, how many absent results are hits, and the standings
pub record IsRuled (decided : Decided) (paired : Paired) (ruled : RuledSides) : Type 0 where
  pub hidden : ruled.hidden.items ≡ others_among (length paired.states.items) decided
  pub states : ruled.states.items ≡ masked ruled.hidden.items paired.states.items
  pub absent : ruled.absent ≡ absent_among (length paired.states.items) decided
  pub standings : ruled.standings.items
      ≡ with_hits paired.standings.items (take (length paired.states.items) decided.known)

-- these if conditions decide, otherwise nothing
abbrev pub IsRuledIf : Option Decided → Paired → Option RuledSides → Type 0
IsRuledIf None paired ruled = ruled ≡ None
IsRuledIf (Some decided) paired None = ⊥
IsRuledIf (Some decided) paired (Some ruled) = IsRuled decided paired ruled

-- ---- what later merges need of it

-- which results of logs are hidden from the gate
abbrev pub hidden_as : Option RuledSides → Option Narrowed → Marks
hidden_as None narrowed = option_map (λ n. n.marks.items) narrowed
hidden_as (Some ruled) narrowed = Some ruled.hidden.items

abbrev pub absent_by : Option RuledSides → Option ℕ
absent_by ruled = option_map (λ r. r.absent) ruled

abbrev pub standings_by : Option RuledSides → Paired → List Standing
standings_by None paired = paired.standings.items
standings_by (Some ruled) paired = ruled.standings.items

-- with conditions each result that isn't hidden is a hit
abbrev pub policy_by : Option RuledSides → Policy → Policy
policy_by None policy = policy
policy_by (Some ruled) policy = any_policy
