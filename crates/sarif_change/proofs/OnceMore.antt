-- The parts of a key, each once.
use Rattle.std.proofs.Common.{◌≡◌, ◌<◌, ◌+◌, ◌-◌, ℕ, Bool, true, false, ◌||◌, List, [], ◌∷◌, ◌++◌, length, map, drop, get_or, Some, refl, sym, ap, ◌∙◌}
use Rattle.std.specs.Borrow.{Bor}
use Rattle.std.specs.Prelude.{bytes_eq, slice_get}
use Rattle.std.specs.List.{list_any}
use Rattle.std.specs.List.Sorted.{IsPermutation}
use Rattle.std.proofs.lemmas.List.{drop_more}
use Rattle.std.proofs.lemmas.List.Folds.{list_any-append, list_any_at}
use Rattle.std.proofs.lemmas.List.Sorted.{list_any-IsPermutation}
use Rattle.std.proofs.lemmas.Option.{get_or_from_slice_get, slice_get_within}
use Rattle.std.proofs.lemmas.Slice.Eq.{bytes_eq-Decides}

abbrev pub bytes : List (Bor (List ℕ)) → List (List ℕ)
bytes parts = map (λ (part : Bor (List ℕ)). part.now) parts

any_bytes : (test : List ℕ → Bool) (parts : List (Bor (List ℕ))) → list_any test (bytes parts) ≡ list_any (λ (part : Bor (List ℕ)). test part.now) parts
any_bytes test [] = refl
any_bytes test (p ∷ ps) = ap (λ b. test p.now || b) (any_bytes test ps)

or_none : (a : Bool) → (a || false) ≡ a
or_none true = refl
or_none false = refl

or_three : (a b c : Bool) → ((a || b) || c) ≡ (a || (b || c))
or_three true b c = refl
or_three false b c = refl

pub any_moved : (given sorted : List (Bor (List ℕ))) (pieces : List (List ℕ)) → bytes given ≡ pieces → IsPermutation given sorted
    → (test : List ℕ → Bool) → list_any test (bytes sorted) ≡ list_any test pieces
any_moved given sorted pieces is moved test =
    any_bytes test sorted
    ∙ (sym (list_any-IsPermutation (λ (part : Bor (List ℕ)). test part.now) given sorted moved)
    ∙ (sym (any_bytes test given) ∙ ap (λ l. list_any test l) is))

-- ---- part by part

pub first_left : (parts : List (Bor (List ℕ))) (n : ℕ) (part : Bor (List ℕ)) → n < length parts → part ≡ get_or parts n part
    → drop n parts ≡ part ∷ drop (n + 1) parts
first_left parts n part within is = drop_more parts n part within ∙ ap (λ (p : Bor (List ℕ)). p ∷ drop (n + 1) parts) (sym is)

module _ (once parts : List (Bor (List ℕ))) (n : ℕ) (part : Bor (List ℕ)) (within : n < length parts) (is : part ≡ get_or parts n part) where
  pub skips : ((test : List ℕ → Bool) → (list_any test (bytes once) || test part.now) ≡ list_any test (bytes once))
      → ((test : List ℕ → Bool) → (list_any test (bytes once) || list_any test (bytes (drop n parts))) ≡ list_any test (bytes parts))
      → (test : List ℕ → Bool) → (list_any test (bytes once) || list_any test (bytes (drop (n + 1) parts))) ≡ list_any test (bytes parts)
  skips same held test =
      ap (λ b. b || list_any test (bytes (drop (n + 1) parts))) (sym (same test))
      ∙ (or_three (list_any test (bytes once)) (test part.now) (list_any test (bytes (drop (n + 1) parts)))
      ∙ (ap (λ l. list_any test (bytes once) || list_any test (bytes l)) (sym (first_left parts n part within is)) ∙ held test))

  pub adds : ((test : List ℕ → Bool) → (list_any test (bytes once) || list_any test (bytes (drop n parts))) ≡ list_any test (bytes parts))
      → (test : List ℕ → Bool)
      → (list_any test (bytes (once ++ part ∷ [])) || list_any test (bytes (drop (n + 1) parts))) ≡ list_any test (bytes parts)
  adds held test =
      ap (λ b. b || list_any test (bytes (drop (n + 1) parts)))
      (any_bytes test (once ++ part ∷ [])
      ∙ (list_any-append (λ (p : Bor (List ℕ)). test p.now) once (part ∷ [])
      ∙ (ap (λ b. b || (test part.now || false)) (sym (any_bytes test once)) ∙ ap (λ b. list_any test (bytes once) || b) (or_none (test part.now)))))
      ∙ (or_three (list_any test (bytes once)) (test part.now) (list_any test (bytes (drop (n + 1) parts)))
      ∙ (ap (λ l. list_any test (bytes once) || list_any test (bytes l)) (sym (first_left parts n part within is)) ∙ held test))

-- ---- the last part

or_same : (a b : Bool) → (b ≡ true → a ≡ true) → (a || b) ≡ a
or_same true b h = refl
or_same false true h = sym (h refl)
or_same false false h = refl

pub last_is : (parts : List (Bor (List ℕ))) (last part : Bor (List ℕ)) (is : Bool) → slice_get parts (length parts - 1) ≡ Some last
    → is ≡ bytes_eq last.now part.now → is ≡ true
    → (test : List ℕ → Bool) → (list_any test (bytes parts) || test part.now) ≡ list_any test (bytes parts)
last_is parts last part is there same holds test =
    let equal : last.now ≡ part.now = (bytes_eq-Decides last.now part.now).0 (sym same ∙ holds) in
    or_same (list_any test (bytes parts)) (test part.now)
    (λ h. any_bytes test parts
    ∙ list_any_at (λ (p : Bor (List ℕ)). test p.now) parts (length parts - 1) last (slice_get_within parts (length parts - 1) last there)
    (ap (λ (p : Bor (List ℕ)). test p.now) (get_or_from_slice_get parts (length parts - 1) last last there) ∙ (ap (λ (b : List ℕ). test b) equal ∙ h)))
