-- The numbers of the entries with `max` that admit a result, as a set.
use Rattle.std.proofs.Common.{◌≡◌, ℕ, ◌+◌, ◌<◌, Bool, true, false, ◌||◌, List, [], ◌∷◌, drop, get_or, length, nat_eq, refl, sym, ap, ◌∙◌, arith}
use mathlib.Core.Bool.{or-false}
use Rattle.std.specs.BTreeSet.{BTreeSet, contains_by, insert_key, keys}
use Rattle.std.specs.List.{list_any}
use Rattle.std.specs.Ordering.{is_eq, nat_cmp, match_ordering}
use Rattle.std.specs.declared.cmp.Ordering.{Ordering}
use Rattle.std.specs.declared.cmp.Ordering.TheVariants.{Less, Equal, Greater}
use Rattle.std.proofs.lemmas.Bool.Decides.{nat_tests}
use Rattle.std.proofs.lemmas.List.{drop_more}
use Rattle.sarif_suppress.specs.Internal.Numbers.{with_numbers}

is_number : (n m : ℕ) → is_eq (nat_cmp n m) ≡ nat_eq m n
is_number n m = grind (arith, nat_tests)

as_number : (n k m : ℕ) → nat_cmp k m ≡ Equal → nat_eq m n ≡ nat_eq k n
as_number n k m same = grind (arith, nat_tests)

or_same : (a b c : Bool) → a ≡ b → (a || c) ≡ (b || (a || c))
or_same true true c same = refl
or_same false false c same = refl
or_same true false c same = let never : ⊥ = cc in absurd never
or_same false true c same = let never : ⊥ = cc in absurd never

or_swap : (a b c : Bool) → (a || (b || c)) ≡ (b || (a || c))
or_swap true true c = refl
or_swap true false c = refl
or_swap false b c = refl

module _ (n : ℕ) where
  abbrev at : ℕ → Bool
  at m = is_eq (nat_cmp n m)

  -- a set with one number more has that number besides
  one_more : (ks : List ℕ) (k : ℕ) → list_any at (insert_key nat_cmp ks k) ≡ (nat_eq k n || list_any at ks)
  one_more [] k = ap (λ b. b || false) (is_number n k)
  one_more (x ∷ xs) k = by_order (nat_cmp k x) refl (one_more xs k)
    where
      by_order : (o : Ordering) → nat_cmp k x ≡ o → list_any at (insert_key nat_cmp xs k) ≡ (nat_eq k n || list_any at xs)
          → list_any at (match_ordering o (k ∷ x ∷ xs) (x ∷ xs) (x ∷ insert_key nat_cmp xs k)) ≡ (nat_eq k n || (at x || list_any at xs))
      by_order Less is rest = ap (λ b. b || (at x || list_any at xs)) (is_number n k)
      by_order Equal is rest = or_same (at x) (nat_eq k n) (list_any at xs) (is_number n x ∙ as_number n k x is)
      by_order Greater is rest = ap (λ b. at x || b) rest ∙ or_swap (at x) (nat_eq k n) (list_any at xs)

  all_more : (ks ns : List ℕ) → list_any at (with_numbers ks ns) ≡ (list_any (λ m. nat_eq m n) ns || list_any at ks)
  all_more ks [] = refl
  all_more ks (k ∷ ns) =
      all_more (insert_key nat_cmp ks k) ns
      ∙ ap (λ b. list_any (λ m. nat_eq m n) ns || b) (one_more ks k)
      ∙ or_swap_back (list_any (λ m. nat_eq m n) ns) (nat_eq k n) (list_any at ks)
    where
      or_swap_back : (a b c : Bool) → (a || (b || c)) ≡ ((b || a) || c)
      or_swap_back true true c = refl
      or_swap_back true false c = refl
      or_swap_back false true c = refl
      or_swap_back false false c = refl

-- a set of numbers has exactly the numbers of the list
pub is_admitted : (n : ℕ) (set : BTreeSet ℕ) (numbers : List ℕ) → keys set ≡ with_numbers [] numbers
    → contains_by (nat_cmp n) set ≡ list_any (λ m. nat_eq m n) numbers
is_admitted n set numbers is = ap (list_any (at n)) is ∙ all_more n [] numbers ∙ or-false (list_any (λ m. nat_eq m n) numbers)

-- the set of the numbers so far, and one number more
pub set_step : (old new ns : List ℕ) (i n : ℕ) → i < length ns → n ≡ get_or ns i n → new ≡ insert_key nat_cmp old n
    → with_numbers new (drop (i + 1) ns) ≡ with_numbers old (drop i ns)
set_step old new ns i n within is added =
    let split : drop i ns ≡ n ∷ drop (i + 1) ns = drop_more ns i n within ∙ ap (λ m. m ∷ drop (i + 1) ns) (sym is) in
    rw (added, split) refl
