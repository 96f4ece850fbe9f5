-- Lists by their places.
use Rattle.std.proofs.Common.{◌≡◌, ℕ, ◌-◌, zero, suc, List, [], ◌∷◌, ◌++◌, Some, length, drop, slice_get, refl, ap, ◌∙◌, arith, length-append}

module _ {X : Type 0} where
  -- the first of what is left after n is number n
  pub slice_get-drop : (xs : List X) (n : ℕ) → slice_get (drop n xs) 0 ≡ slice_get xs n
  slice_get-drop [] zero = refl
  slice_get-drop [] (suc n) = refl
  slice_get-drop (x ∷ xs) zero = refl
  slice_get-drop (x ∷ xs) (suc n) = slice_get-drop xs n

  -- one more is left out
  pub drop-one : (xs : List X) (n : ℕ) → drop 1 (drop n xs) ≡ drop (suc n) xs
  drop-one [] zero = refl
  drop-one [] (suc n) = refl
  drop-one (x ∷ xs) zero = refl
  drop-one (x ∷ xs) (suc n) = drop-one xs n

  pub slice_get-middle : (xs : List X) (x : X) (ys : List X) → slice_get (xs ++ (x ∷ ys)) (length xs) ≡ Some x
  slice_get-middle [] x ys = refl
  slice_get-middle (y ∷ xs) x ys = slice_get-middle xs x ys

  -- the last one of a list that is longer by one
  pub slice_get-last : (xs : List X) (x : X) → slice_get (xs ++ (x ∷ [])) (length (xs ++ (x ∷ [])) - 1) ≡ Some x
  slice_get-last xs x =
      let at : length (xs ++ (x ∷ [])) - 1 ≡ length xs = omega (arith, length-append xs (x ∷ [])) in
      ap (slice_get (xs ++ (x ∷ []))) at ∙ slice_get-middle xs x []
