-- What spreading gives to findings is what was there.
use Rattle.std.proofs.Common.{◌≡◌, ◌+◌, ℕ, zero, suc, Bool, true, false, not, List, [], ◌∷◌, map, length, drop, refl, sym, ap, ◌∙◌, arith}
use Rattle.std.specs.Prelude.{◌==◌, slice_index_or}
use Rattle.std.specs.List.{range_with_len}
use Rattle.std.proofs.lemmas.List.{drop_all, drop_more, length-map}
use Rattle.std.proofs.lemmas.Bool.Decides.{nat_tests}
use Rattle.sarif_copies.specs.Copies.{copies_from, copies_of, findings_before, findings_of, numbers_of, spread}
use Rattle.sarif_model.specs.declared.record.Record.{Record}
use Rattle.sarif_read.specs.Unmarked.{unmarked}
use Rattle.sarif_read.proofs.Only.{unmarked_map}
use Rattle.sarif_once.proofs.Marks.{findings_long, marked_each}

-- a finding is its own
own_number : (n : ℕ) (first : ℕ) (firsts rest : List ℕ) (copies : List Bool) → unmarked copies firsts ≡ unmarked copies rest
    → unmarked (not (first == n) ∷ copies) (first ∷ firsts) ≡ unmarked (not (first == n) ∷ copies) (n ∷ rest)
own_number n first firsts rest copies same = by_case (first == n) refl where
  by_case : (b : Bool) → first == n ≡ b → unmarked (not b ∷ copies) (first ∷ firsts) ≡ unmarked (not b ∷ copies) (n ∷ rest)
  by_case true is = let here : first ≡ n = grind (arith, nat_tests) in ap (λ k. k ∷ unmarked copies firsts) here ∙ ap (λ ks. n ∷ ks) same
  by_case false is = same

own_numbers : (n : ℕ) (firsts : List ℕ) → unmarked (copies_from n firsts) firsts ≡ unmarked (copies_from n firsts) (range_with_len n (length firsts))
own_numbers n [] = refl
own_numbers n (first ∷ firsts) = own_number n first firsts (range_with_len (n + 1) (length firsts)) (copies_from (n + 1) firsts) (own_numbers (n + 1) firsts)

-- findings are counted in order
before_counts : (n : ℕ) (copies : List Bool) → unmarked copies (findings_before n copies) ≡ range_with_len n (length (unmarked copies copies))
before_counts n [] = refl
before_counts n (true ∷ copies) = before_counts n copies
before_counts n (false ∷ copies) = ap (λ ks. n ∷ ks) (before_counts (n + 1) copies)

before_long : (n : ℕ) (copies : List Bool) → length (findings_before n copies) ≡ length copies
before_long n [] = refl
before_long n (true ∷ copies) = ap suc (before_long n copies)
before_long n (false ∷ copies) = ap suc (before_long (n + 1) copies)

pub unmarked_long : {X Y : Type 0} (marks : List Bool) (xs : List X) (ys : List Y) → length xs ≡ length marks → length ys ≡ length marks
    → length (unmarked marks xs) ≡ length (unmarked marks ys)
unmarked_long [] xs ys same_x same_y = refl
unmarked_long (m ∷ marks) [] ys same_x same_y = absurd (omega (arith, same_x))
unmarked_long (m ∷ marks) (x ∷ xs) [] same_x same_y = absurd (omega (arith, same_y))
unmarked_long (true ∷ marks) (x ∷ xs) (y ∷ ys) same_x same_y = unmarked_long marks xs ys (omega (arith, same_x)) (omega (arith, same_y))
unmarked_long (false ∷ marks) (x ∷ xs) (y ∷ ys) same_x same_y = ap suc (unmarked_long marks xs ys (omega (arith, same_x)) (omega (arith, same_y)))

-- the elements of a list by their positions
from : {X : Type 0} (none : X) (xs : List X) (a n : ℕ) → a + n ≡ length xs → map (λ i. slice_index_or xs i none) (range_with_len a n) ≡ drop a xs
from none xs a zero same = sym (drop_all a xs (omega (arith, same)))
from none xs a (suc n) same =
    ap (λ ys. slice_index_or xs a none ∷ ys) (from none xs (a + 1) n (omega (arith, same)))
    ∙ sym (drop_more xs a none (omega (arith, same)))

by_position : {X : Type 0} (none : X) (xs : List X) (n : ℕ) → n ≡ length xs → map (λ i. slice_index_or xs i none) (range_with_len 0 n) ≡ xs
by_position none xs n same = from none xs 0 n (omega (arith, same))

pub numbers_long : (rs : List Record) → length (numbers_of rs) ≡ length rs
numbers_long rs = length-map (findings_of rs) (λ first. slice_index_or (findings_before 0 (copies_of rs)) first 0) ∙ findings_long [] rs

pub spread_long : {X : Type 0} (none : X) (rs : List Record) (xs : List X) → length (spread none (numbers_of rs) xs) ≡ length rs
spread_long none rs xs = length-map (numbers_of rs) (λ n. slice_index_or xs n none) ∙ numbers_long rs

-- what findings have stays theirs
pub spread_found : {X : Type 0} (none : X) (rs : List Record) (xs : List X) → length xs ≡ length (unmarked (copies_of rs) rs)
    → unmarked (copies_of rs) (spread none (numbers_of rs) xs) ≡ xs
spread_found none rs xs same =
    let copies = copies_of rs in
    let firsts = findings_of rs in
    let counts = findings_before 0 copies in
    let count : ℕ → ℕ = λ first. slice_index_or counts first 0 in
    let pick = λ (n : ℕ). slice_index_or xs n none in
    let many : length firsts ≡ length counts = findings_long [] rs ∙ sym (marked_each rs) ∙ sym (before_long 0 copies) in
    let few : length (unmarked copies copies) ≡ length xs = unmarked_long copies copies rs refl (sym (marked_each rs)) ∙ sym same in
    unmarked_map pick copies (map count firsts)
    ∙ ap (map pick) (unmarked_map count copies firsts
    ∙ ap (map count) (own_numbers 0 firsts)
    ∙ sym (unmarked_map count copies (range_with_len 0 (length firsts)))
    ∙ ap (unmarked copies) (by_position 0 counts (length firsts) many)
    ∙ before_counts 0 copies)
    ∙ by_position none xs (length (unmarked copies copies)) few
