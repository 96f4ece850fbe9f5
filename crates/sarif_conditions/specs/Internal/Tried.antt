-- Which results the filters of a condition match, and how many filters match none.
use Rattle.std.specs.Prelude.{◌≡◌, Bool, not, ◌&&◌, List, [], ◌∷◌, map, unwrap_or}
use Rattle.std.specs.List.{count_by}
use Rattle.sarif_entries.specs.declared.entry.Entry.{Entry}
use Rattle.sarif_model.specs.declared.record.Record.{Record}
use Rattle.sarif_policy.specs.Condition.{any_matches, is_chosen}
use Rattle.sarif_policy.specs.declared.condition.GateCondition.{GateCondition}
use Rattle.sarif_conditions.specs.Decided.{is_unused}
use Rattle.sarif_conditions.specs.Internal.Deciding.{outcome_if}
use Rattle.sarif_conditions.specs.Judged.{Judged}
use Rattle.sarif_conditions.specs.declared.outcome.Outcome.{Outcome}
use Rattle.sarif_conditions.specs.declared.trying.TriedCondition.{TriedCondition}
use Rattle.sarif_conditions.specs.declared.trying.TriedFilters.{TriedFilters}

-- which of these results pass a test of their records
abbrev pub passing : (Record → Bool) → List Judged → List Bool
passing test rs = map (λ (r : Judged). test r.found) rs

-- which results pass the test, and how many of the filters match no current result
pub record IsTried (test : Record → Bool) (filters : List Entry) (rs : List Judged) (tried : TriedFilters)
    : Type 0 where
  pub matched : tried.matched.items ≡ passing test rs
  pub unused : tried.unused ≡ count_by (is_unused rs) filters

-- both lists of filters of a condition; without `only` each result is chosen
pub record AreTried (c : GateCondition) (rs : List Judged) (tried : TriedCondition) : Type 0 where
  pub only : IsTried (is_chosen c.only) (unwrap_or c.only []) rs tried.only
  pub except : IsTried (any_matches c.except) c.except rs tried.except

-- what a condition decides about each result, by which of them `only` chooses, and which `except` leaves out
abbrev pub outcomes_by : GateCondition → List Judged → List Bool → List Bool → List Outcome
outcomes_by c [] only except = []
outcomes_by c (r ∷ rs) [] except = []
outcomes_by c (r ∷ rs) (chosen ∷ only) [] = []
outcomes_by c (r ∷ rs) (chosen ∷ only) (left ∷ except) =
    outcome_if (chosen && not left) c r ∷ outcomes_by c rs only except
