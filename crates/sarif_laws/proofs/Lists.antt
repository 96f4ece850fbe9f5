-- Lists that are compared place by place.
use Rattle.std.proofs.Common.{◌≡◌, ◌+◌, ◌<◌, ℕ, zero, suc, Bool, cond, List, [], ◌∷◌, ◌++◌, length, take, drop, get_or, refl, ap, ap₂, sym, ◌∙◌, arith}
use Rattle.std.specs.Prelude.{count_by, flat_map}
use Rattle.std.specs.List.{AllByRecursion}
use Rattle.std.proofs.lemmas.List.Sums.{sum_by-append, sum_by-cons}
use Rattle.serde_json.specs.Data.{Data, null}
use Rattle.sarif_model.specs.Run.{result_at, results_of}

module _ {X : Type 0} (P : X → Type 0) where
  pub all_append : (xs ys : List X) → AllByRecursion P xs → AllByRecursion P ys → AllByRecursion P (xs ++ ys)
  all_append [] ys here there = there
  all_append (x ∷ xs) ys here there = (here.0, all_append xs ys here.1 there)

  pub all_take : (n : ℕ) (xs : List X) → AllByRecursion P xs → AllByRecursion P (take n xs)
  all_take zero xs all = tt
  all_take (suc n) [] all = tt
  all_take (suc n) (x ∷ xs) all = (all.0, all_take n xs all.1)

  pub all_drop : (n : ℕ) (xs : List X) → AllByRecursion P xs → AllByRecursion P (drop n xs)
  all_drop zero xs all = all
  all_drop (suc n) [] all = tt
  all_drop (suc n) (x ∷ xs) all = all_drop n xs all.1

  -- what is so of what is at each place is so of each
  pub all_placed : (xs : List X) → ((x : X) (i : ℕ) → i < length xs → get_or xs i x ≡ x → P x) → AllByRecursion P xs
  all_placed [] each = tt
  all_placed (x ∷ xs) each = (each x 0 (omega arith) refl, all_placed xs (λ y i within is. each y (suc i) (omega (arith, within)) is))

  -- and so of what is found at a place, if it is so of what is found past the end
  pub all_at : (xs : List X) (i : ℕ) (d : X) → AllByRecursion P xs → P d → P (get_or xs i d)
  all_at [] i d all past = past
  all_at (x ∷ xs) zero d all past = all.0
  all_at (x ∷ xs) (suc i) d all past = all_at xs i d all.1 past

-- ---- counting in two lists

same_count : (f g : Data → Bool) (xs ys : List Data) → length xs ≡ length ys → ((i : ℕ) → f (get_or xs i null) ≡ g (get_or ys i null))
    → count_by f xs ≡ count_by g ys
same_count f g [] [] long each = refl
same_count f g [] (y ∷ ys) long each = absurd (omega (arith, long))
same_count f g (x ∷ xs) [] long each = absurd (omega (arith, long))
same_count f g (x ∷ xs) (y ∷ ys) long each =
    sum_by-cons (λ d. cond (f d) 1 0) x xs
    ∙ ap (λ b. cond b 1 0 + count_by f xs) (each 0)
    ∙ ap (λ n. cond (g y) 1 0 + n) (same_count f g xs ys (omega (arith, long)) (λ i. each (suc i)))
    ∙ sym (sum_by-cons (λ d. cond (g d) 1 0) y ys)

-- in the results of two lists of runs
pub same_counts : (f g : Data → Bool) (xs ys : List Data) → length xs ≡ length ys
    → ((k : ℕ) → length (results_of (get_or xs k null)) ≡ length (results_of (get_or ys k null)))
    → ((k seq : ℕ) → f (result_at (get_or xs k null) seq) ≡ g (result_at (get_or ys k null) seq))
    → count_by f (flat_map results_of xs) ≡ count_by g (flat_map results_of ys)
same_counts f g [] [] long longs each = refl
same_counts f g [] (y ∷ ys) long longs each = absurd (omega (arith, long))
same_counts f g (x ∷ xs) [] long longs each = absurd (omega (arith, long))
same_counts f g (x ∷ xs) (y ∷ ys) long longs each =
    sum_by-append (λ d. cond (f d) 1 0) (results_of x) (flat_map results_of xs)
    ∙ ap₂ (λ m n. m + n) (same_count f g (results_of x) (results_of y) (longs 0) (each 0))
    (same_counts f g xs ys (omega (arith, long)) (λ k. longs (suc k)) (λ k. each (suc k)))
    ∙ sym (sum_by-append (λ d. cond (g d) 1 0) (results_of y) (flat_map results_of ys))
