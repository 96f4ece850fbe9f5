-- Reading the conditions of an entry in the order of their kinds, as a loop does.
use Rattle.std.proofs.Common.{◌≡◌, ℕ, ◌+◌, ◌<◌, ◌≤◌, List, [], ◌∷◌, ◌++◌, length, drop, slice_index_or, Some, None, Result, Ok, Err, refl, sym, ap, ◌∙◌}
use Rattle.std.proofs.lemmas.List.{append-nil, drop_more, at_drop_all}
use Rattle.serde_json.specs.Data.{Data}
use Rattle.sarif_model.specs.Members.{result_map}
use Rattle.sarif_model.proofs.ReadEach.{before, before-push}
use Rattle.sarif_entries.specs.declared.condition.Condition.{Condition}
use Rattle.sarif_entries.specs.declared.condition.ConditionKind.{ConditionKind}
use Rattle.sarif_entries.specs.declared.fault.FileFault.{FileFault}
use Rattle.sarif_entries.specs.Entries.{condition_at, conditions_from, with_condition}

module _ (wrong : FileFault) (d : Data) (front : List Condition) (kinds : List ConditionKind) (n : ℕ) (kind : ConditionKind) where
  left_of : n < length kinds → kind ≡ slice_index_or kinds n kind → drop n kinds ≡ kind ∷ drop (n + 1) kinds
  left_of within is = drop_more kinds n kind within ∙ ap (λ k. k ∷ drop (n + 1) kinds) (sym is)

  nothing : (r : Result (List Condition) FileFault) → result_map (with_condition None) r ≡ r
  nothing (Ok cs) = refl
  nothing (Err fault) = refl

  pub one_more : (c : Condition) → n < length kinds → kind ≡ slice_index_or kinds n kind → condition_at wrong d kind ≡ Ok (Some c)
      → before (front ++ c ∷ []) (conditions_from wrong d (drop (n + 1) kinds)) ≡ before front (conditions_from wrong d (drop n kinds))
  one_more c within is read =
      rw (left_of within is, read) (sym (before-push front c (conditions_from wrong d (drop (n + 1) kinds))))

  pub none_more : n < length kinds → kind ≡ slice_index_or kinds n kind → condition_at wrong d kind ≡ Ok None
      → before front (conditions_from wrong d (drop (n + 1) kinds)) ≡ before front (conditions_from wrong d (drop n kinds))
  none_more within is read =
      rw (left_of within is, read) (ap (before front) (sym (nothing (conditions_from wrong d (drop (n + 1) kinds)))))

  pub stops : (fault : FileFault) → n < length kinds → kind ≡ slice_index_or kinds n kind → condition_at wrong d kind ≡ Err fault
      → before front (conditions_from wrong d (drop n kinds)) ≡ Err fault
  stops fault within is read = rw (left_of within is, read) refl

pub at_end : (wrong : FileFault) (d : Data) (front : List Condition) (kinds : List ConditionKind) (n : ℕ) → length kinds ≤ n
    → before front (conditions_from wrong d (drop n kinds)) ≡ Ok front
at_end wrong d front kinds n past =
    let none : drop n kinds ≡ [] = at_drop_all (λ ks. ks) kinds n past in
    rw (none, append-nil) refl
