-- A number, digit by digit, as a loop reads it.
use Rattle.std.proofs.Common.{◌≡◌, ℕ, ◌+◌, ◌-◌, ◌<◌, ◌≤◌, true, false, leb, List, [], ◌∷◌, length, take, drop, get_or, arith, Option, Some, None, refl}
use Rattle.std.specs.Char.{is_ascii_digit}
use Rattle.std.proofs.lemmas.List.{drop_more, at_drop_all, take_rest, drop_all}
use Rattle.std.proofs.lemmas.Bool.{le-leb}
use Rattle.std.proofs.lemmas.Bool.Decides.{nat_tests}
use Rattle.sarif_diff.specs.Header.{number_from, with_digit, last_line, ended}

not_leb : (a b : ℕ) → b < a → leb a b ≡ false
not_leb a b less = grind (arith, nat_tests)

module _ (text : List ℕ) (i : ℕ) (so_far : Option ℕ) where
  left_of : i < length text → drop i text ≡ get_or text i 0 ∷ drop (i + 1) text
  left_of within = drop_more text i 0 within

  pub goes : i < length text → is_ascii_digit (get_or text i 0) ≡ true → with_digit so_far (get_or text i 0) ≤ last_line
      → number_from (Some (with_digit so_far (get_or text i 0))) (drop (i + 1) text) ≡ number_from so_far (drop i text)
  unfolding number_from
  goes within digit small = rw (left_of within, digit, le-leb _ _ small) refl

  pub too_great : i < length text → is_ascii_digit (get_or text i 0) ≡ true → last_line < with_digit so_far (get_or text i 0)
      → number_from so_far (drop i text) ≡ None
  unfolding number_from
  too_great within digit great = rw (left_of within, digit, not_leb _ _ great) refl

  pub ends : i < length text → is_ascii_digit (get_or text i 0) ≡ false
      → number_from so_far (drop i text) ≡ ended so_far (take (length text - i) (drop i text))
  unfolding number_from
  ends within digit = rw (take_rest text i, left_of within, digit) refl

pub at_end : (text : List ℕ) (i : ℕ) (so_far : Option ℕ) → length text ≤ i
    → number_from so_far (drop i text) ≡ ended so_far (take (length text - length text) (drop (length text) text))
unfolding number_from
at_end text i so_far past =
    let none : drop i text ≡ [] = at_drop_all (λ bs. bs) text i past in
    rw (none, take_rest text (length text), drop_all (length text) text (omega arith)) refl
