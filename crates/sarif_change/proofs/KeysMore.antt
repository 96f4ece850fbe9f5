-- Keys that begin alike.
use Rattle.std.proofs.Common.{◌≡◌, ℕ, Bool, true, false, ◌&&◌, ◌||◌, List, [], ◌∷◌, take, refl, sym, ap, ◌∙◌, suc, zero, arith}
use Rattle.std.proofs.lemmas.Bool.{and_parts}
use Rattle.std.specs.Prelude.{nat_eq, ◌==◌}
use Rattle.std.specs.List.{starts_with}
use Rattle.std.proofs.lemmas.Bool.Decides.{nat_tests}
use Rattle.sarif_change.specs.Internal.Keys.{opens, alike}

pub opens_is : (xs ys : List ℕ) → starts_with nat_eq xs ys ≡ opens xs ys
opens_is [] [] = refl
opens_is (x ∷ xs) [] = refl
opens_is [] (y ∷ ys) = refl
opens_is (x ∷ xs) (y ∷ ys) = ap (λ b. nat_eq y x && b) (opens_is xs ys)

same_twice : (x : ℕ) → (x == x) ≡ true
same_twice x = grind (arith, nat_tests)

other_way : (x y : ℕ) → (x == y) ≡ (y == x)
other_way x y = grind (arith, nat_tests)

either : (b a c : Bool) → ((b && a) || (b && c)) ≡ (b && (a || c))
either true a c = refl
either false a c = refl

-- whether no byte differs until one of two keys ends
abbrev pub meet : List ℕ → List ℕ → Bool
meet [] ys = true
meet (x ∷ xs) [] = true
meet (x ∷ xs) (y ∷ ys) = x == y && meet xs ys

pub alike_is : (xs ys : List ℕ) → alike xs ys ≡ meet xs ys
alike_is [] [] = refl
alike_is (x ∷ xs) [] = refl
alike_is [] (y ∷ ys) = refl
alike_is (x ∷ xs) (y ∷ ys) =
    ap (λ b. (b && opens xs ys) || ((x == y) && opens ys xs)) (other_way y x)
    ∙ (either (x == y) (opens xs ys) (opens ys xs) ∙ ap (λ b. (x == y) && b) (alike_is xs ys))

pub opens_take : (n : ℕ) (xs : List ℕ) → opens xs (take n xs) ≡ true
opens_take zero xs = refl
opens_take (suc n) [] = refl
opens_take (suc n) (x ∷ xs) = ap (λ b. b && opens xs (take n xs)) (same_twice x) ∙ opens_take n xs

pub opens_self : (xs : List ℕ) → opens xs xs ≡ true
opens_self [] = refl
opens_self (x ∷ xs) = ap (λ b. b && opens xs xs) (same_twice x) ∙ opens_self xs

pub opens_equal : (n : ℕ) (xs ys : List ℕ) → take n xs ≡ take n ys → opens ys (take n xs) ≡ true
opens_equal n xs ys same = ap (λ beginning. opens ys beginning) same ∙ opens_take n ys

-- ---- keys that begin with another key

equal_twice : (x y z : ℕ) → (x == z) ≡ true → (y == x) ≡ true → (y == z) ≡ true
equal_twice x y z h i = grind (arith, nat_tests)

differs_step : (x y z : ℕ) (a b : Bool) → (x == z) ≡ true → ((x == y) && a) ≡ false → (a ≡ false → b ≡ false) → ((z == y) && b) ≡ false
differs_step x y z true true h d i = grind (arith, nat_tests)
differs_step x y z true false h d i = grind (arith, nat_tests)
differs_step x y z false b h d i = let no : b ≡ false = i refl in rw no (grind (arith, nat_tests))

pub opens_twice : (k c q : List ℕ) → opens k c ≡ true → opens c q ≡ true → opens k q ≡ true
opens_twice k c [] h i = refl
opens_twice k [] (y ∷ q) h i = grind arith
opens_twice [] (x ∷ c) (y ∷ q) h i = grind arith
opens_twice (z ∷ k) (x ∷ c) (y ∷ q) h i =
    let first = and_parts _ _ h in
    let second = and_parts _ _ i in
    let rest : opens k q ≡ true = opens_twice k c q first.1 second.1 in
    let same : (y == z) ≡ true = equal_twice x y z first.0 second.0 in
    rw (same, rest) refl

pub opens_alike : (k q : List ℕ) → opens k q ≡ true → alike k q ≡ true
opens_alike k q h = rw h refl

-- one that differs from the beginning differs from the whole
meet_not : (k c q : List ℕ) → opens k c ≡ true → meet c q ≡ false → meet k q ≡ false
meet_not k [] q h d = grind arith
meet_not k (x ∷ c) [] h d = grind arith
meet_not [] (x ∷ c) (y ∷ q) h d = grind arith
meet_not (z ∷ k) (x ∷ c) (y ∷ q) h d =
    let both = and_parts _ _ h in
    differs_step x y z (meet c q) (meet k q) both.0 d (λ e. meet_not k c q both.1 e)

pub differs : (k c q : List ℕ) → opens k c ≡ true → alike c q ≡ false → alike k q ≡ false
differs k c q h d = alike_is k q ∙ meet_not k c q h (sym (alike_is c q) ∙ d)
