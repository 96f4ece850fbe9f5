-- Reading states in order, as a loop does.
use Rattle.std.proofs.Common.{◌≡◌, ℕ, ◌+◌, ◌<◌, ◌≤◌, List, [], ◌∷◌, map, length, drop, slice_index_or, Some, None, option_and_then, refl}
use Rattle.std.proofs.lemmas.List.{at_drop_all}
use Rattle.serde_json.specs.declared.value.Value.{Value}
use Rattle.serde_json.specs.Find.{as_str}
use Rattle.serde_json.specs.View.{view}
use Rattle.sarif_model.specs.State.{state_named}
use Rattle.sarif_options.specs.declared.policy.States.{States}
use Rattle.sarif_policy.specs.Reading.{one_more, states_from}
use Rattle.sarif_policy.proofs.FromFilters.{left_of}

module _ (states : States) (values : List Value) (n : ℕ) (value : Value) where
  pub goes_on : (more : States) → n < length values → value ≡ slice_index_or values n value
      → option_and_then (one_more states) (option_and_then state_named (as_str (view value))) ≡ Some more
      → states_from more (map view (drop (n + 1) values)) ≡ states_from states (map view (drop n values))
  unfolding states_from
  goes_on more within is read =
      let split : drop n values ≡ value ∷ drop (n + 1) values = left_of values n value within is in
      rw (split, read) refl

  pub stops : n < length values → value ≡ slice_index_or values n value
      → option_and_then (one_more states) (option_and_then state_named (as_str (view value))) ≡ None
      → states_from states (map view (drop n values)) ≡ None
  unfolding states_from
  stops within is read =
      let split : drop n values ≡ value ∷ drop (n + 1) values = left_of values n value within is in
      rw (split, read) refl

pub at_end : (states : States) (values : List Value) (n : ℕ) → length values ≤ n
    → states_from states (map view (drop n values)) ≡ Some states
unfolding states_from
at_end states values n past =
    let none : drop n values ≡ [] = at_drop_all (λ vs. vs) values n past in
    rw none refl
