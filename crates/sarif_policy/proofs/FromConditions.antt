-- Reading conditions in order, as a loop does.
use Rattle.std.proofs.Common.{◌≡◌, Bool, ℕ, ◌+◌, ◌<◌, ◌≤◌, List, [], ◌∷◌, ◌++◌, map, length, drop, slice_index_or, Ok, Err, refl}
use Rattle.std.proofs.lemmas.List.{at_drop_all}
use Rattle.serde_json.specs.declared.value.Value.{Value}
use Rattle.serde_json.specs.View.{view}
use Rattle.sarif_policy.specs.declared.condition.GateCondition.{GateCondition}
use Rattle.sarif_policy.specs.Reading.{condition_of}
use Rattle.sarif_policy.specs.File.{conditions_from}
use Rattle.sarif_policy.specs.declared.fault.PolicyFault.{PolicyFault}
use Rattle.sarif_policy.proofs.FromFilters.{left_of}

module _ (diff : Bool) (cs : List GateCondition) (values : List Value) (n : ℕ) (value : Value) where
  pub goes_on : (c : GateCondition) → n < length values → value ≡ slice_index_or values n value → condition_of diff n cs (view value) ≡ Ok c
      → conditions_from diff (n + 1) (cs ++ c ∷ []) (map view (drop (n + 1) values)) ≡ conditions_from diff n cs (map view (drop n values))
  unfolding conditions_from
  goes_on c within is read =
      let split : drop n values ≡ value ∷ drop (n + 1) values = left_of values n value within is in
      rw (split, read) refl

  pub stops : (fault : PolicyFault) → n < length values → value ≡ slice_index_or values n value → condition_of diff n cs (view value) ≡ Err fault
      → conditions_from diff n cs (map view (drop n values)) ≡ Err fault
  unfolding conditions_from
  stops fault within is read =
      let split : drop n values ≡ value ∷ drop (n + 1) values = left_of values n value within is in
      rw (split, read) refl

pub at_end : (diff : Bool) (cs : List GateCondition) (values : List Value) (n : ℕ) → length values ≤ n
    → conditions_from diff n cs (map view (drop n values)) ≡ Ok cs
unfolding conditions_from
at_end diff cs values n past =
    let none : drop n values ≡ [] = at_drop_all (λ vs. vs) values n past in
    rw none refl
