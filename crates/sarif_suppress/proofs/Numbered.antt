-- The numbers of entries: the entry of each number, and what its status and its object add.
use Rattle.std.proofs.Common.{◌≡◌, ℕ, ◌+◌, ◌<◌, Bool, true, false, not, ◌&&◌, List, [], ◌∷◌, ◌++◌, map, filter, length, Some, refl, sym, ap, ◌∙◌, arith, if◌then◌else◌}
use Rattle.std.specs.Prelude.{slice_get}
use Rattle.std.specs.List.{list_all}
use Rattle.std.proofs.Math.Seq.{get_or-append_seam}
use Rattle.std.proofs.lemmas.List.{append_assoc, length-append}
use Rattle.std.proofs.lemmas.List.Folds.{list_all-append}
use Rattle.std.proofs.lemmas.Option.{slice_get-get_or}
use Rattle.sarif_model.specs.declared.kinds.Status.{Status}
use Rattle.sarif_model.specs.Status.{is_accepted}
use Rattle.sarif_entries.specs.declared.entry.Entry.{Entry}
use Rattle.sarif_entries.specs.Matching.{is_empty}
use Rattle.sarif_filing.specs.Numbers.{numbers_from}
use Rattle.sarif_suppress.specs.Internal.Numbers.{passes_at}
use Rattle.sarif_suppress.specs.Suppressing.{statuses_suppress}
use Rattle.sarif_suppress.specs.Written.{with_object, with_object_if, with_objects, with_objects_at}
use Rattle.serde_json.specs.Data.{Data}

-- ---- the entry of a number

-- the whole list has these entries from number n on
abbrev pub IsPart : List Entry → ℕ → List Entry → Type 0
IsPart whole n [] = Unit {0}
IsPart whole n (e ∷ es) = (slice_get whole n ≡ Some e) × IsPart whole (n + 1) es

-- what follows the front is at that place
IsPart-append : (front es : List Entry) → IsPart (front ++ es) (length front) es
IsPart-append front [] = tt
IsPart-append front (e ∷ es) =
    let next : length front + 1 ≡ length (front ++ e ∷ []) = sym (length-append front (e ∷ [])) in
    let within : length front < length (front ++ e ∷ es) = omega (arith, length-append front (e ∷ es)) in
    let here : slice_get (front ++ e ∷ es) (length front) ≡ Some e = slice_get-get_or (front ++ e ∷ es) (length front) e within
    ∙ ap Some (get_or-append_seam front e es e) in
    let rest : IsPart ((front ++ e ∷ []) ++ es) (length (front ++ e ∷ [])) es = IsPart-append (front ++ e ∷ []) es in
    (here, rw next (rw append_assoc at rest))

-- a list is contained in itself
pub whole_is_part : (es : List Entry) → IsPart es 0 es
whole_is_part es = IsPart-append [] es

-- ---- the verdict

pub all_numbers : (test picked : Entry → Bool) (whole : List Entry) (n : ℕ) (es : List Entry) → IsPart whole n es
    → list_all (passes_at test whole) (numbers_from picked n es) ≡ list_all test (filter picked es)
all_numbers test picked whole n [] part = refl
all_numbers test picked whole n (e ∷ es) part =
    let rest : list_all (passes_at test whole) (numbers_from picked (n + 1) es) ≡ list_all test (filter picked es) =
    all_numbers test picked whole (n + 1) es part.1 in
    elim (picked e) as
    (λ b. list_all (passes_at test whole) (if b then n ∷ numbers_from picked (n + 1) es else numbers_from picked (n + 1) es)
    ≡ list_all test (if b then e ∷ filter picked es else filter picked es)) [
      | true ↦ rw (part.0, rest) refl
      | false ↦ rest
    ]

none_numbers : {A : Type 0} (f : Entry → A) (picked : Entry → Bool) (n : ℕ) (es : List Entry)
    → is_empty (numbers_from picked n es) ≡ is_empty (map f (filter picked es))
none_numbers f picked n [] = refl
none_numbers f picked n (e ∷ es) =
    elim (picked e) as (λ b. is_empty (if b then n ∷ numbers_from picked (n + 1) es else numbers_from picked (n + 1) es)
    ≡ is_empty (map f (if b then e ∷ filter picked es else filter picked es))) [
      | true ↦ refl
      | false ↦ none_numbers f picked (n + 1) es
    ]

pub list_all-map : {A B : Type 0} (test : B → Bool) (f : A → B) (xs : List A) → list_all test (map f xs) ≡ list_all (λ x. test (f x)) xs
list_all-map test f [] = refl
list_all-map test f (x ∷ xs) = ap (λ b. test (f x) && b) (list_all-map test f xs)

pub is_empty-append : {A : Type 0} (xs ys : List A) → is_empty (xs ++ ys) ≡ (is_empty xs && is_empty ys)
is_empty-append [] ys = refl
is_empty-append (x ∷ xs) ys = refl

unless : (a b : Bool) → (if a then false else b) ≡ (not a && b)
unless true b = refl
unless false b = refl

-- the statuses of the result and of the entries with these numbers, as one list
pub verdict : (held : List Status) (picked : Entry → Bool) (entries : List Entry)
    → (if is_empty held && is_empty (numbers_from picked 0 entries) then false else
    (list_all is_accepted held && list_all (passes_at (λ e. is_accepted e.status) entries) (numbers_from picked 0 entries)))
    ≡ statuses_suppress (held ++ map (λ e. e.status) (filter picked entries))
verdict held picked entries =
    let theirs : list_all (passes_at (λ e. is_accepted e.status) entries) (numbers_from picked 0 entries)
    ≡ list_all is_accepted (map (λ e. e.status) (filter picked entries)) =
    all_numbers (λ e. is_accepted e.status) picked entries 0 entries (whole_is_part entries)
    ∙ sym (list_all-map is_accepted (λ e. e.status) (filter picked entries)) in
    let none : is_empty (numbers_from picked 0 entries) ≡ is_empty (map (λ e. e.status) (filter picked entries)) =
    none_numbers (λ e. e.status) picked 0 entries in
    rw (unless, none, theirs, is_empty-append, list_all-append) refl

-- ---- what is written

written_from : (picked : Entry → Bool) (whole : List Entry) (list : List Data) (n : ℕ) (es : List Entry) → IsPart whole n es
    → with_objects_at list whole (numbers_from picked n es) ≡ with_objects list (filter picked es)
written_from picked whole list n [] part = refl
written_from picked whole list n (e ∷ es) part =
    elim (picked e) as (λ b. with_objects_at list whole (if b then n ∷ numbers_from picked (n + 1) es else numbers_from picked (n + 1) es)
    ≡ with_objects list (if b then e ∷ filter picked es else filter picked es)) [
      | true ↦ ap (λ o. with_objects_at (with_object_if list o) whole (numbers_from picked (n + 1) es)) part.0
          ∙ written_from picked whole (with_object list e) (n + 1) es part.1
      | false ↦ written_from picked whole list (n + 1) es part.1
    ]

-- the objects of the entries with these numbers are those of the entries themselves
pub written : (picked : Entry → Bool) (list : List Data) (entries : List Entry)
    → with_objects_at list entries (numbers_from picked 0 entries) ≡ with_objects list (filter picked entries)
written picked list entries = written_from picked entries list 0 entries (whole_is_part entries)
