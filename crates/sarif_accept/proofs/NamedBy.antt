-- The conditions of a list of kinds, one kind at a time.
use Rattle.std.proofs.Common.{◌≡◌, ℕ, ◌+◌, ◌<◌, ◌≤◌, List, [], ◌∷◌, ◌++◌, length, drop, slice_index_or, Option, Some, None, option_map, refl, sym, ap, ◌∙◌, arith}
use Rattle.std.proofs.lemmas.List.{append-nil, append_assoc, at_drop_all}
use Rattle.serde_json.specs.Data.{Members, no_members}
use Rattle.sarif_model.specs.Written.{with_value}
use Rattle.sarif_entries.specs.declared.condition.Condition.{Condition}
use Rattle.sarif_entries.specs.declared.condition.ConditionKind.{ConditionKind}
use Rattle.sarif_entries.specs.Condition.{name_of}
use Rattle.sarif_accept.specs.Entry.{named_by, value_of, members_from, rows_of}
use Rattle.sarif_accept.proofs.Flags.{left_of}

module _ (f : ConditionKind → Option Condition) (kinds : List ConditionKind) (n : ℕ) (kind : ConditionKind) where
  pub one_more : (front : List Condition) (c : Condition) → n < length kinds → kind ≡ slice_index_or kinds n kind → Some c ≡ f kind
      → (front ++ c ∷ []) ++ named_by f (drop (n + 1) kinds) ≡ front ++ named_by f (drop n kinds)
  one_more front c within is asked =
      rw (left_of kinds n kind within is, sym asked) (append_assoc front (c ∷ []) (named_by f (drop (n + 1) kinds)))

  pub none_more : (front : List Condition) → n < length kinds → kind ≡ slice_index_or kinds n kind → None ≡ f kind
      → front ++ named_by f (drop (n + 1) kinds) ≡ front ++ named_by f (drop n kinds)
  none_more front within is asked = rw (left_of kinds n kind within is, sym asked) refl

  pub rows_step : (new old : Members) → n < length kinds → kind ≡ slice_index_or kinds n kind
      → new ≡ with_value (name_of kind) (option_map value_of (f kind)) old → old ≡ members_from (rows_of f (drop (n + 1) kinds))
      → new ≡ members_from (rows_of f (drop n kinds))
  rows_step new old within is set so_far = set ∙ rw (left_of kinds n kind within is, so_far) refl

pub at_end : (f : ConditionKind → Option Condition) (front : List Condition) (kinds : List ConditionKind) (n : ℕ) → length kinds ≤ n
    → front ++ named_by f (drop n kinds) ≡ front
at_end f front kinds n past =
    let none : drop n kinds ≡ [] = at_drop_all (λ ks. ks) kinds n past in
    rw none (append-nil front)

pub no_rows : (f : ConditionKind → Option Condition) (kinds : List ConditionKind) → members_from (rows_of f (drop (length kinds) kinds)) ≡ no_members
no_rows f kinds = ap (λ ks. members_from (rows_of f ks)) (at_drop_all (λ ks. ks) kinds (length kinds) (omega arith))
