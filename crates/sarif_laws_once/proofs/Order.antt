-- The number of findings is the same in any order of their logs.
use Rattle.std.proofs.Common.{◌≡◌, ◌+◌, ◌<◌, ℕ, zero, suc, Bool, true, false, ◌||◌, List, [], ◌∷◌, ◌++◌, length, cond, refl, sym, ap, ap₂, ◌∙◌, append_assoc, arith}
use Rattle.std.specs.Prelude.{slice_index_or, slice_set}
use Rattle.std.specs.List.{flat_map, swap}
use Rattle.std.specs.List.Sorted.{IsPermutation}
use Rattle.std.proofs.lemmas.List.{append-nil}
use Rattle.std.proofs.lemmas.List.Sorted.{IsPermutation-keeps}
use Rattle.sarif_copies.specs.Copies.{are_alike}
use Rattle.sarif_model.specs.declared.record.Record.{Record}
use Rattle.sarif_laws_once.proofs.Apart.{unset_in}
use Rattle.sarif_laws_once.proofs.CopiesMore.{alike_same, any_alike, any_both, marks_after}

-- how many of these results are findings, after others
abbrev pub number_after : List Record → List Record → ℕ
number_after before [] = 0
number_after before (r ∷ rs) = cond (any_alike before r) 0 1 + number_after (before ++ r ∷ []) rs

pub number_is : (before rs : List Record) → unset_in (marks_after before rs) ≡ number_after before rs
number_is before [] = refl
number_is before (r ∷ rs) = by_mark (any_alike before r) (number_is (before ++ r ∷ []) rs) where
  by_mark : (b : Bool) → unset_in (marks_after (before ++ r ∷ []) rs) ≡ number_after (before ++ r ∷ []) rs
      → unset_in (b ∷ marks_after (before ++ r ∷ []) rs) ≡ cond b 0 1 + number_after (before ++ r ∷ []) rs
  by_mark true rest = omega (arith, rest)
  by_mark false rest = omega (arith, rest)

-- what is before counts by what is alike to it
number_same : (one other rs : List Record) → ((r : Record) → any_alike one r ≡ any_alike other r) → number_after one rs ≡ number_after other rs
number_same one other [] same = refl
number_same one other (r ∷ rs) same =
    ap₂ (λ b n. cond b 0 1 + n) (same r)
    (number_same (one ++ r ∷ []) (other ++ r ∷ []) rs
    (λ q. any_both one (r ∷ []) q ∙ ap (λ b. b || any_alike (r ∷ []) q) (same q) ∙ sym (any_both other (r ∷ []) q)))

-- ---- two results

or_swap : (a b c : Bool) → ((a || b) || c) ≡ ((a || c) || b)
or_swap true b c = refl
or_swap false true true = refl
or_swap false true false = refl
or_swap false false true = refl
or_swap false false false = refl

or_none : (b : Bool) → (b || false) ≡ b
or_none true = refl
or_none false = refl

before_two : (before : List Record) (x y r : Record)
    → any_alike ((before ++ x ∷ []) ++ y ∷ []) r ≡ ((any_alike before r || any_alike (x ∷ []) r) || any_alike (y ∷ []) r)
before_two before x y r =
    any_both (before ++ x ∷ []) (y ∷ []) r ∙ ap (λ b. b || any_alike (y ∷ []) r) (any_both before (x ∷ []) r)

swap_two : (before : List Record) (x y : Record) (rs : List Record) → number_after before (x ∷ y ∷ rs) ≡ number_after before (y ∷ x ∷ rs)
swap_two before x y rs = by_alike (are_alike x y) (are_alike y x) refl refl where
  after : number_after ((before ++ x ∷ []) ++ y ∷ []) rs ≡ number_after ((before ++ y ∷ []) ++ x ∷ []) rs
  after =
      number_same ((before ++ x ∷ []) ++ y ∷ []) ((before ++ y ∷ []) ++ x ∷ []) rs
      (λ r. before_two before x y r ∙ or_swap (any_alike before r) (any_alike (x ∷ []) r) (any_alike (y ∷ []) r) ∙ sym (before_two before y x r))

  not_alike : (p q : Record) → are_alike p q ≡ false → any_alike (before ++ p ∷ []) q ≡ any_alike before q
  not_alike p q is =
      any_both before (p ∷ []) q ∙ ap (λ b. any_alike before q || (b || false)) is ∙ or_none (any_alike before q)

  both : (a b m n : ℕ) → m ≡ n → a + (b + m) ≡ b + (a + n)
  both a b m n same = omega (arith, same)

  by_alike : (c d : Bool) → are_alike x y ≡ c → are_alike y x ≡ d → number_after before (x ∷ y ∷ rs) ≡ number_after before (y ∷ x ∷ rs)
  by_alike true d one other =
      let same = alike_same x y one in ap₂ (λ p q. number_after before (p ∷ q ∷ rs)) same (sym same)
  by_alike false true one other =
      let same = alike_same y x other in ap₂ (λ p q. number_after before (p ∷ q ∷ rs)) (sym same) same
  by_alike false false one other =
      ap (λ b. cond (any_alike before x) 0 1 + (cond b 0 1 + number_after ((before ++ x ∷ []) ++ y ∷ []) rs)) (not_alike x y one)
      ∙ both (cond (any_alike before x) 0 1) (cond (any_alike before y) 0 1) (number_after ((before ++ x ∷ []) ++ y ∷ []) rs)
      (number_after ((before ++ y ∷ []) ++ x ∷ []) rs) after
      ∙ ap (λ b. cond (any_alike before y) 0 1 + (cond b 0 1 + number_after ((before ++ y ∷ []) ++ x ∷ []) rs)) (sym (not_alike y x other))

-- ---- two lists of results

move_one : (before : List Record) (x : Record) (ys rs : List Record) → number_after before (x ∷ (ys ++ rs)) ≡ number_after before (ys ++ (x ∷ rs))
move_one before x [] rs = refl
move_one before x (y ∷ ys) rs =
    swap_two before x y (ys ++ rs)
    ∙ ap (λ n. cond (any_alike before y) 0 1 + n) (move_one (before ++ y ∷ []) x ys rs)

move_all : (before xs ys rs : List Record) → number_after before (xs ++ (ys ++ rs)) ≡ number_after before (ys ++ (xs ++ rs))
move_all before [] ys rs = refl
move_all before (x ∷ xs) ys rs =
    ap (λ n. cond (any_alike before x) 0 1 + n) (move_all (before ++ x ∷ []) xs ys rs)
    ∙ move_one before x ys (xs ++ rs)

number_seam : (before xs rs : List Record) → number_after before (xs ++ rs) ≡ number_after before xs + number_after (before ++ xs) rs
number_seam before [] rs =
    let same : number_after before rs ≡ number_after (before ++ []) rs = ap (λ bs. number_after bs rs) (sym (append-nil before)) in omega (arith, same)
number_seam before (x ∷ xs) rs =
    let rest = number_seam (before ++ x ∷ []) xs rs in
    let seam : number_after ((before ++ x ∷ []) ++ xs) rs ≡ number_after (before ++ (x ∷ xs)) rs = ap (λ bs. number_after bs rs) (append_assoc before (x ∷ []) xs) in
    omega (arith, rest, seam)

-- ---- logs, each with its results

module _ {L : Type 0} (results : L → List Record) where
  abbrev in_logs : List Record → List L → ℕ
  in_logs before logs = number_after before (flat_map results logs)

  one_more : (before : List Record) (x : L) (one other : List L) → in_logs (before ++ results x) one ≡ in_logs (before ++ results x) other
      → in_logs before (x ∷ one) ≡ in_logs before (x ∷ other)
  one_more before x one other same =
      number_seam before (results x) (flat_map results one)
      ∙ ap (λ n. number_after before (results x) + n) same
      ∙ sym (number_seam before (results x) (flat_map results other))

  exchange : (before : List Record) (d x : L) (logs : List L) (j : ℕ) → j < length logs
      → in_logs before (slice_index_or logs j d ∷ slice_set logs j x) ≡ in_logs before (x ∷ logs)
  exchange before d x [] j within = absurd (omega (arith, within))
  exchange before d x (y ∷ logs) zero within = move_all before (results y) (results x) (flat_map results logs)
  exchange before d x (z ∷ logs) (suc j) within =
      let y = slice_index_or logs j d in
      move_all before (results y) (results z) (flat_map results (slice_set logs j x))
      ∙ one_more before z (y ∷ slice_set logs j x) (x ∷ logs) (exchange (before ++ results z) d x logs j (omega (arith, within)))
      ∙ move_all before (results z) (results x) (flat_map results logs)

  exchanged : (before : List Record) (d : L) (logs : List L) (i j : ℕ) → i < length logs → j < length logs
      → in_logs before (slice_set (slice_set logs i (slice_index_or logs j d)) j (slice_index_or logs i d)) ≡ in_logs before logs
  exchanged before d [] i j within_i within_j = absurd (omega (arith, within_i))
  exchanged before d (x ∷ logs) zero zero within_i within_j = refl
  exchanged before d (x ∷ logs) zero (suc j) within_i within_j = exchange before d x logs j (omega (arith, within_j))
  exchanged before d (x ∷ logs) (suc i) zero within_i within_j = exchange before d x logs i (omega (arith, within_i))
  exchanged before d (x ∷ logs) (suc i) (suc j) within_i within_j =
      one_more before x (slice_set (slice_set logs i (slice_index_or logs j d)) j (slice_index_or logs i d)) logs
      (exchanged (before ++ results x) d logs i j (omega (arith, within_i)) (omega (arith, within_j)))

  swapped : (logs : List L) (i j : ℕ) → i < length logs → j < length logs → in_logs [] (swap logs i j) ≡ in_logs [] logs
  swapped [] i j within_i within_j = refl
  swapped (d ∷ logs) i j within_i within_j = exchanged [] d (d ∷ logs) i j within_i within_j

  pub any_order : (one other : List L) → IsPermutation one other → number_after [] (flat_map results other) ≡ number_after [] (flat_map results one)
  any_order one other permuted =
      IsPermutation-keeps one (λ logs. in_logs [] logs ≡ in_logs [] one) refl
      (λ logs i j within_i within_j so_far. swapped logs i j within_i within_j ∙ so_far) other permuted
