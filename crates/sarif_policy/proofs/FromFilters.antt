-- Reading filters in order, as a loop does.
use Rattle.std.proofs.Common.{◌≡◌, ℕ, ◌+◌, ◌<◌, ◌≤◌, List, [], ◌∷◌, ◌++◌, map, length, drop, slice_index_or, Ok, Err, refl, sym, ap, ◌∙◌}
use Rattle.std.proofs.lemmas.List.{drop_more, at_drop_all}
use Rattle.serde_json.specs.declared.value.Value.{Value}
use Rattle.serde_json.specs.View.{view}
use Rattle.sarif_entries.specs.declared.entry.Entry.{Entry}
use Rattle.sarif_policy.specs.Reading.{filter_of, filters_from}
use Rattle.sarif_policy.specs.declared.fault.FilterList.{FilterList}
use Rattle.sarif_policy.specs.declared.fault.PolicyFault.{PolicyFault}

-- what is left begins with the value at the number
pub left_of : (values : List Value) (n : ℕ) (value : Value) → n < length values → value ≡ slice_index_or values n value
    → drop n values ≡ value ∷ drop (n + 1) values
left_of values n value within is = drop_more values n value within ∙ ap (λ v. v ∷ drop (n + 1) values) (sym is)

module _ (c : ℕ) (list : FilterList) (es : List Entry) (values : List Value) (n : ℕ) (value : Value) where
  pub goes_on : (e : Entry) → n < length values → value ≡ slice_index_or values n value → filter_of c list n (view value) ≡ Ok e
      → filters_from c list (n + 1) (es ++ e ∷ []) (map view (drop (n + 1) values)) ≡ filters_from c list n es (map view (drop n values))
  unfolding filters_from
  goes_on e within is read =
      let split : drop n values ≡ value ∷ drop (n + 1) values = left_of values n value within is in
      rw (split, read) refl

  pub stops : (fault : PolicyFault) → n < length values → value ≡ slice_index_or values n value → filter_of c list n (view value) ≡ Err fault
      → filters_from c list n es (map view (drop n values)) ≡ Err fault
  unfolding filters_from
  stops fault within is read =
      let split : drop n values ≡ value ∷ drop (n + 1) values = left_of values n value within is in
      rw (split, read) refl

pub at_end : (c : ℕ) (list : FilterList) (es : List Entry) (values : List Value) (n : ℕ) → length values ≤ n
    → filters_from c list n es (map view (drop n values)) ≡ Ok es
unfolding filters_from
at_end c list es values n past =
    let none : drop n values ≡ [] = at_drop_all (λ vs. vs) values n past in
    rw none refl
