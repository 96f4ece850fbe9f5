-- A table of results, and whether one of them is alike to another.
use Rattle.std.proofs.Common.{◌≡◌, Bool, true, false, ◌&&◌, ◌||◌, List, [], ◌∷◌, ◌++◌, cond, refl, sym, ap, ◌∙◌}
use Rattle.std.specs.List.{list_any}
use Rattle.std.proofs.lemmas.List.Folds.{list_any-append}
use Rattle.indexmap.specs.IndexSet.{IndexSet, Updates}
use Rattle.sarif_model.specs.declared.record.Record.{Record}
use Rattle.sarif_copies.specs.declared.whole_record.WholeRecord.{WholeRecord}
use Rattle.sarif_copies.specs.Copies.{are_alike, has_alike, has_line, record_eq, unadmitted}
use Rattle.sarif_copies.specs.Internal.Table.{HasThese, fields_of, same_whole}
use Rattle.sarif_copies.proofs.Alike.{not_alike}
use Rattle.sarif_copies.proofs.SameKeys.{same_is_equal}

either : (a b : Bool) → cond a true b ≡ (b || (a || false))
either true true = refl
either true false = refl
either false true = refl
either false false = refl

module _ {S : Type 0} (rs : List Record) (x : Record) (old new : IndexSet WholeRecord S) (has : HasThese rs old) where
  -- a result is added that has a URI and a region
  pub comes_in : (own : WholeRecord) → fields_of own ≡ unadmitted x → has_line x ≡ true → Updates same_whole old new own true → HasThese (rs ++ x ∷ []) new
  comes_in own is line updates key other =
      let p = λ (q : Record). are_alike (unadmitted q) (fields_of key) in
      let one : p x ≡ same_whole own key =
      ap (λ b. b && (has_line (fields_of key) && record_eq (unadmitted x) (fields_of key))) line
      ∙ ap (λ b. b && record_eq (unadmitted x) (fields_of key)) other
      ∙ ap (λ y. record_eq y (fields_of key)) (sym is)
      ∙ sym (same_is_equal own key) in
      updates.0 key
      ∙ ap (λ b. cond (same_whole own key) true b) (has key other)
      ∙ ap (λ b. cond b true (list_any p rs)) (sym one)
      ∙ either (p x) (list_any p rs)
      ∙ sym (list_any-append p rs (x ∷ []))

-- none is alike to a result without a URI or without a region
pub alike_to_none : (rs : List Record) (r : Record) → has_line r ≡ false → false ≡ has_alike rs r
alike_to_none [] r none = refl
alike_to_none (q ∷ qs) r none =
    alike_to_none qs r none ∙ ap (λ b. b || has_alike qs r) (sym (not_alike (unadmitted q) (unadmitted r) none))
