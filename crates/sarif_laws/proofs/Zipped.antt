-- Lists that agree place by place.
use Rattle.std.proofs.Common.{◌≡◌, ℕ, zero, suc, Bool, true, false, ◌||◌, List, [], ◌∷◌, length, take, drop, Some, slice_get, refl, ap₂, subst, arith, if◌then◌else◌}
use Rattle.std.specs.Prelude.{filter}
use Rattle.std.specs.List.{AllZip, list_any}
use Rattle.std.proofs.lemmas.Option.{same_Some}

module _ {X Y : Type 0} (P : X → Y → Type 0) where
  pub zip_placed : (xs : List X) (ys : List Y) → length xs ≡ length ys
      → ((i : ℕ) (x : X) (y : Y) → slice_get xs i ≡ Some x → slice_get ys i ≡ Some y → P x y) → AllZip P xs ys
  zip_placed [] [] long each = tt
  zip_placed [] (y ∷ ys) long each = absurd (omega (arith, long))
  zip_placed (x ∷ xs) [] long each = absurd (omega (arith, long))
  zip_placed (x ∷ xs) (y ∷ ys) long each = (each 0 x y refl refl, zip_placed xs ys (omega (arith, long)) (λ i. each (suc i)))

  pub zip_take : (n : ℕ) (xs : List X) (ys : List Y) → AllZip P xs ys → AllZip P (take n xs) (take n ys)
  zip_take zero xs ys all = tt
  zip_take (suc n) [] [] all = tt
  zip_take (suc n) [] (y ∷ ys) all = absurd all
  zip_take (suc n) (x ∷ xs) [] all = absurd all
  zip_take (suc n) (x ∷ xs) (y ∷ ys) all = (all.0, zip_take n xs ys all.1)

  pub zip_drop : (n : ℕ) (xs : List X) (ys : List Y) → AllZip P xs ys → AllZip P (drop n xs) (drop n ys)
  zip_drop zero xs ys all = all
  zip_drop (suc n) [] [] all = tt
  zip_drop (suc n) [] (y ∷ ys) all = absurd all
  zip_drop (suc n) (x ∷ xs) [] all = absurd all
  zip_drop (suc n) (x ∷ xs) (y ∷ ys) all = zip_drop n xs ys all.1

-- tests that agree at each place
pub any_zip : {X Y : Type 0} (p : X → Bool) (q : Y → Bool) (xs : List X) (ys : List Y) → AllZip (λ x y. p x ≡ q y) xs ys → list_any p xs ≡ list_any q ys
any_zip p q [] [] all = refl
any_zip p q [] (y ∷ ys) all = absurd all
any_zip p q (x ∷ xs) [] all = absurd all
any_zip p q (x ∷ xs) (y ∷ ys) all = ap₂ (λ a b. a || b) all.0 (any_zip p q xs ys all.1)

pub filter_same : {X : Type 0} (p q : X → Bool) (xs : List X) → ((n : ℕ) (x : X) → slice_get xs n ≡ Some x → p x ≡ q x) → filter p xs ≡ filter q xs
filter_same p q [] same = refl
filter_same p q (x ∷ xs) same = ap₂ (λ b l. if b then x ∷ l else l) (same 0 x refl) (filter_same p q xs (λ n. same (suc n)))

-- an element of the list that passes the test
abbrev pub IsAmong : {X : Type 0} → (X → Bool) → List X → X → Type 0
IsAmong test xs x = (n : ℕ) × (test x ≡ true) × (slice_get xs n ≡ Some x)

pub filter_at : {X : Type 0} (test : X → Bool) (xs : List X) (i : ℕ) (x : X) → slice_get (filter test xs) i ≡ Some x → IsAmong test xs x
filter_at test [] i x is = let never : ⊥ = cc in absurd never
filter_at test (y ∷ ys) i x is = by_test (test y) refl (λ j. filter_at test ys j x) i is
  where
    later : IsAmong test ys x → IsAmong test (y ∷ ys) x
    later found = (suc found.0, found.1, found.2)

    by_test : (b : Bool) → test y ≡ b → ((j : ℕ) → slice_get (filter test ys) j ≡ Some x → IsAmong test ys x)
        → (i : ℕ) → slice_get (if b then y ∷ filter test ys else filter test ys) i ≡ Some x → IsAmong test (y ∷ ys) x
    by_test true passed rest zero is = (0, subst (λ z. test z ≡ true) (same_Some y x is) passed, is)
    by_test true passed rest (suc i) is = later (rest i is)
    by_test false passed rest i is = later (rest i is)
