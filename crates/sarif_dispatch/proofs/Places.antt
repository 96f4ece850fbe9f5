-- Places of lists.
use Rattle.std.specs.List.{list_any}
use Rattle.std.proofs.lemmas.Bool.{or_parts}
use Rattle.std.proofs.Common.{◌≡◌, ℕ, zero, suc, Bool, false, sym, ◌∙◌, ◌+◌, ◌<◌, ◌⊎◌, List, [], ◌∷◌, ◌++◌, map, length, replicate, Some, refl, ap, inl, inr, ⊎_elim, arith}
use Rattle.std.specs.Prelude.{slice_get, option_map}
use Rattle.std.specs.List.{range_with_len}
use Rattle.std.proofs.lemmas.Option.{slice_get-map}
use mathlib.Core.Option.{some}
use lib.ListN.{get_elem?}

module _ {A : Type 0} where
  -- the content of a list with one more element
  pub slice_get_push : (xs : List A) (y : A) (k : ℕ) (x : A) → slice_get (xs ++ y ∷ []) k ≡ Some x → (slice_get xs k ≡ Some x) ⊎ ((k ≡ length xs) × (y ≡ x))
  slice_get_push [] y zero x e = inr (refl, cc)
  slice_get_push [] y (suc k) x e = absurd (cc)
  slice_get_push (z ∷ zs) y zero x e = inl e
  slice_get_push (z ∷ zs) y (suc k) x e = ⊎_elim (λ h. inl h) (λ h. inr (ap suc h.0, h.1)) (slice_get_push zs y k x e)

  -- the same place in the words of shared structures
  pub elem : (xs : List A) (k : ℕ) (x : A) → slice_get xs k ≡ Some x → get_elem? xs k ≡ some x
  elem [] k x e = absurd (cc)
  elem (y ∷ ys) zero x e = ap some (cc)
  elem (y ∷ ys) (suc k) x e = elem ys k x e

  pub slice_get_last : (xs : List A) (y : A) → slice_get (xs ++ y ∷ []) (length xs) ≡ Some y
  slice_get_last [] y = refl
  slice_get_last (x ∷ xs) y = slice_get_last xs y

  pub slice_get_longer : (xs ys : List A) (k : ℕ) (x : A) → slice_get xs k ≡ Some x → slice_get (xs ++ ys) k ≡ Some x
  slice_get_longer [] ys k x e = absurd (cc)
  slice_get_longer (z ∷ zs) ys zero x e = e
  slice_get_longer (z ∷ zs) ys (suc k) x e = slice_get_longer zs ys k x e

  -- if no element passes, this one does not
  pub none_passes : (p : A → Bool) (xs : List A) → list_any p xs ≡ false → (k : ℕ) (x : A) → slice_get xs k ≡ Some x → p x ≡ false
  none_passes p [] none k x e = absurd (cc)
  none_passes p (y ∷ ys) none zero x e = let same : y ≡ x = cc in ap p (sym same) ∙ (or_parts (p y) (list_any p ys) none).0
  none_passes p (y ∷ ys) none (suc k) x e = none_passes p ys (or_parts (p y) (list_any p ys) none).1 k x e

  pub at_below : (xs : List A) (k : ℕ) → k < length xs → (x : A) × (slice_get xs k ≡ Some x)
  at_below [] k lt = absurd (omega arith)
  at_below (x ∷ xs) zero lt = (x, refl)
  at_below (x ∷ xs) (suc k) lt = at_below xs k (omega arith)

  pub at_replicate : (n k : ℕ) (x : A) → k < n → slice_get (replicate n x) k ≡ Some x
  at_replicate zero k x lt = absurd (omega arith)
  at_replicate (suc n) zero x lt = refl
  at_replicate (suc n) (suc k) x lt = at_replicate n k x (omega arith)

  -- lists with the same elements at each place
  pub same_places : (xs ys : List A) → length xs ≡ length ys → ((k : ℕ) → k < length xs → slice_get xs k ≡ slice_get ys k) → xs ≡ ys
  same_places [] [] len same = refl
  same_places [] (y ∷ ys) len same = absurd (omega arith)
  same_places (x ∷ xs) [] len same = absurd (omega arith)
  same_places (x ∷ xs) (y ∷ ys) len same =
      let head : Some x ≡ Some y = same zero (omega arith) in
      let first : x ≡ y = cc in
      λ i. first i ∷ same_places xs ys (omega arith) (λ k lt. same (suc k) (omega arith)) i

pub at_range : (a n k : ℕ) → k < n → slice_get (range_with_len a n) k ≡ Some (a + k)
at_range a zero k lt = absurd (omega arith)
at_range a (suc n) zero lt = ap (λ m. Some m) (omega arith)
at_range a (suc n) (suc k) lt = at_range (a + 1) n k (omega arith) ∙ ap (λ m. Some m) (omega arith)

pub from_mapped : {A B : Type 0} (f : A → B) (xs : List A) (i : ℕ) (y : B) → slice_get (map f xs) i ≡ Some y → (x : A) × (slice_get xs i ≡ Some x) × (f x ≡ y)
from_mapped f [] i y at = absurd (cc)
from_mapped f (x ∷ xs) zero y at = (x, refl, cc)
from_mapped f (x ∷ xs) (suc i) y at = from_mapped f xs i y at

pub into_mapped : {A B : Type 0} (f : A → B) (xs : List A) (i : ℕ) (x : A) → slice_get xs i ≡ Some x → slice_get (map f xs) i ≡ Some (f x)
into_mapped f xs i x at = slice_get-map f xs i ∙ ap (option_map f) at
