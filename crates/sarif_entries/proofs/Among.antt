-- Consecutive pairs within a list of pairs.
use Rattle.std.proofs.Common.{◌≡◌, ℕ, ◌+◌, ◌<◌, zero, suc, Bool, true, List, [], ◌∷◌, length, drop, get_or, refl, sym, ap, ◌∙◌}
use mathlib.Core.Bool.{or-true}
use Rattle.std.specs.List.{list_any}
use Rattle.std.proofs.lemmas.List.{drop_more}
use Rattle.sarif_entries.specs.Condition.{is_pair, are_among}

-- what is in the end of a list is in the list
any_drop : {X : Type 0} (test : X → Bool) (n : ℕ) (xs : List X) → list_any test (drop n xs) ≡ true → list_any test xs ≡ true
any_drop test zero xs t = t
any_drop test (suc n) [] t = t
any_drop test (suc n) (x ∷ xs) t = rw (any_drop test n xs t) (or-true (test x))

-- a pair that is there is passed
pub passed : (wanted found : List (List ℕ × List ℕ)) (i : ℕ) (pair : List ℕ × List ℕ) → i < length wanted → pair ≡ get_or wanted i pair
    → list_any (λ p. is_pair p pair) found ≡ true → are_among (drop (i + 1) wanted) found ≡ are_among (drop i wanted) found
passed wanted found i pair within is there =
    let split : drop i wanted ≡ pair ∷ drop (i + 1) wanted = drop_more wanted i pair within ∙ ap (λ p. p ∷ drop (i + 1) wanted) (sym is) in
    rw (split, there) refl

-- the same where it is in an end of those found
pub passed_in_end : (wanted found left : List (List ℕ × List ℕ)) (i n : ℕ) (pair : List ℕ × List ℕ) → i < length wanted
    → pair ≡ get_or wanted i pair → left ≡ drop n found → list_any (λ p. is_pair p pair) left ≡ true
    → are_among (drop (i + 1) wanted) found ≡ are_among (drop i wanted) found
passed_in_end wanted found left i n pair within is end there =
    passed wanted found i pair within is (any_drop (λ p. is_pair p pair) n found (rw end at there))
