-- What follows of the list that is written.
use Rattle.std.proofs.Common.{◌≡◌, Bool, true, false, ◌&&◌, ◌||◌, List, [], ◌∷◌, ◌++◌, refl, sym, ap, ◌∙◌, if◌then◌else◌}
use mathlib.Core.Bool.{and-true, and-false}
use Rattle.std.specs.List.{list_any, list_all}
use Rattle.std.proofs.lemmas.Bool.{false≢true}
use Rattle.std.proofs.lemmas.List.Folds.{list_all-append}
use Rattle.serde_json.specs.Data.{Data}
use Rattle.sarif_entries.specs.declared.entry.Entry.{Entry}
use Rattle.sarif_entries.specs.Matching.{is_empty}
use Rattle.sarif_entries.specs.Object.{object_of, is_object_of}
use Rattle.sarif_suppress.specs.Written.{with_object, with_objects}
use Rattle.sarif_entries.proofs.ObjectTest.{object_means}

-- ---- a test of suppressions over the written list

-- if one of the values is the object, the object passes a test that all of them pass
held_passes : (accepts : Data → Bool) (e : Entry) (list : List Data) → list_any (is_object_of e) list ≡ true
    → (list_all accepts list && accepts (object_of e)) ≡ list_all accepts list
held_passes accepts e [] t = absurd (false≢true t)
held_passes accepts e (d ∷ ds) t =
    elim (is_object_of e d) as
    (λ b. is_object_of e d ≡ b → (b || list_any (is_object_of e) ds) ≡ true
    → ((accepts d && list_all accepts ds) && accepts (object_of e)) ≡ (accepts d && list_all accepts ds)) [
      | true ↦ λ h _. rw ((object_means e d).0 h) (twice (accepts (object_of e)) (list_all accepts ds))
      | false ↦ λ h rest. later (accepts d) (list_all accepts ds) (accepts (object_of e)) (held_passes accepts e ds rest)
    ] refl t
  where
    twice : (a b : Bool) → ((a && b) && a) ≡ (a && b)
    twice true true = refl
    twice true false = refl
    twice false b = refl

    later : (a b c : Bool) → (b && c) ≡ b → ((a && b) && c) ≡ (a && b)
    later true b c is = is
    later false b c is = refl

with_object_passes : (accepts : Data → Bool) (e : Entry) (list : List Data)
    → list_all accepts (with_object list e) ≡ (list_all accepts list && accepts (object_of e))
with_object_passes accepts e list =
    elim (list_any (is_object_of e) list) as
    (λ b. list_any (is_object_of e) list ≡ b
    → list_all accepts (if b then list else list ++ object_of e ∷ []) ≡ (list_all accepts list && accepts (object_of e))) [
      | true ↦ λ held. sym (held_passes accepts e list held)
      | false ↦ λ _. list_all-append accepts list (object_of e ∷ []) ∙ ap (λ b. list_all accepts list && b) (and-true (accepts (object_of e)))
    ] refl

-- a test is true for everything that is written if and only if it is true for all own suppressions and all
-- entries' objects
pub written_passes : (accepts : Data → Bool) (list : List Data) (es : List Entry)
    → list_all accepts (with_objects list es) ≡ (list_all accepts list && list_all (λ e. accepts (object_of e)) es)
written_passes accepts list [] = sym (and-true (list_all accepts list))
written_passes accepts list (e ∷ es) =
    written_passes accepts (with_object list e) es
    ∙ ap (λ b. b && list_all (λ x. accepts (object_of x)) es) (with_object_passes accepts e list)
    ∙ and_assoc (list_all accepts list) (accepts (object_of e)) (list_all (λ x. accepts (object_of x)) es)
  where
    and_assoc : (a b c : Bool) → ((a && b) && c) ≡ (a && (b && c))
    and_assoc true b c = refl
    and_assoc false b c = refl

-- ---- whether anything is written

with_object_empty : (e : Entry) (list : List Data) → is_empty (with_object list e) ≡ false
with_object_empty e [] = refl
with_object_empty e (d ∷ ds) =
    elim (list_any (is_object_of e) (d ∷ ds)) as (λ b. is_empty (if b then d ∷ ds else (d ∷ ds) ++ object_of e ∷ []) ≡ false) [ true ↦ refl | false ↦ refl ]

not_empty : (list : List Data) (es : List Entry) → is_empty list ≡ false → is_empty (with_objects list es) ≡ false
not_empty list [] is = is
not_empty list (e ∷ es) is = not_empty (with_object list e) es (with_object_empty e list)

-- nothing is written if and only if there is no own suppression and no entry
pub written_empty : (list : List Data) (es : List Entry) → is_empty (with_objects list es) ≡ (is_empty list && is_empty es)
written_empty list [] = sym (and-true (is_empty list))
written_empty list (e ∷ es) = not_empty (with_object list e) es (with_object_empty e list) ∙ sym (and-false (is_empty list))
