-- The suppressions that a file adds contain no number with a fraction, by the laws of what is written for it.
use Rattle.std.proofs.Common.{◌≡◌, Bool, true, false, not, ◌&&◌, ◌||◌, List, [], ◌∷◌, refl, sym, ap, ◌∙◌}
use Rattle.std.proofs.lemmas.Bool.{not-true}
use Rattle.std.specs.List.{list_any, list_all}
use Rattle.serde_json.specs.Data.{Data}
use Rattle.serde_json.specs.View.{items_of}
use Rattle.serde_json.specs.Written.{has_float, items_have_float}
use Rattle.sarif_model.specs.declared.record.Record.{Record}
use Rattle.sarif_entries.specs.declared.entry.Entry.{Entry}
use Rattle.sarif_entries.specs.File.{File}
use Rattle.sarif_suppress.specs.Suppressing.{matching}
use Rattle.sarif_entries.specs.Object.{object_of}
use Rattle.sarif_suppress.specs.Written.{suppressions_of}

none_is_all_not : {X : Type 0} (p : X → Bool) (xs : List X) → list_all (λ x. not (p x)) xs ≡ not (list_any p xs)
none_is_all_not p [] = refl
none_is_all_not p (x ∷ xs) = here (p x) (list_all (λ y. not (p y)) xs) (list_any p xs) (none_is_all_not p xs) where
  here : (b all any : Bool) → all ≡ not any → (not b && all) ≡ not (b || any)
  here true all any is = refl
  here false all any is = is

objects_whole : ((e : Entry) → has_float (object_of e) ≡ false) → (es : List Entry) → list_all (λ e. not (has_float (object_of e))) es ≡ true
objects_whole each [] = refl
objects_whole each (e ∷ es) = rw (each e, objects_whole each es)

pub suppressions_whole :
    ((accepts : Data → Bool) (own : List Data) (file : File) (r : Record)
    → list_all accepts (suppressions_of own file r) ≡ (list_all accepts own && list_all (λ e. accepts (object_of e)) (matching file r)))
    → ((e : Entry) → has_float (object_of e) ≡ false)
    → (file : File) (r : Record) (own : List Data) → list_any has_float own ≡ false → list_any has_float (suppressions_of own file r) ≡ false
suppressions_whole passes each file r own of_own =
    let is_whole : Data → Bool = λ d. not (has_float d) in
    let own_passes : list_all is_whole own ≡ true = none_is_all_not has_float own ∙ ap not of_own in
    let all : list_all is_whole (suppressions_of own file r) ≡ true =
    passes is_whole own file r ∙ ap (λ b. b && list_all (λ e. not (has_float (object_of e))) (matching file r)) own_passes
    ∙ objects_whole each (matching file r) in
    not-true (list_any has_float (suppressions_of own file r)) (sym (none_is_all_not has_float (suppressions_of own file r)) ∙ all)

pub items_whole : (ds : List Data) → items_have_float (items_of ds) ≡ list_any has_float ds
items_whole [] = refl
items_whole (d ∷ ds) = ap (λ b. has_float d || b) (items_whole ds)
