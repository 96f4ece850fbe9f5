-- Numbers of entries that are put in order.
use Rattle.std.proofs.Common.{◌≡◌, ℕ, ◌+◌, ◌<◌, ◌≤◌, Bool, true, false, ◌&&◌, ◌||◌, ⊎_elim, List, [], ◌∷◌, filter, drop, get_or, length, Some, None, nat_eq, refl, sym, ap, ◌∙◌, arith, if◌then◌else◌}
use Rattle.std.proofs.lemmas.Option.{slice_get_within}
use Rattle.std.specs.BTreeSet.{insert_key}
use Rattle.std.specs.Option.{option_map_or}
use Rattle.std.specs.Ordering.{nat_cmp, match_ordering}
use Rattle.std.specs.declared.cmp.Ordering.TheVariants.{Less, Equal, Greater}
use Rattle.std.specs.Prelude.{slice_get}
use Rattle.std.proofs.lemmas.List.{drop_more}
use Rattle.std.proofs.lemmas.Bool.{cases_lt}
use Rattle.std.proofs.lemmas.Bool.Decides.{nat_tests}
use Rattle.sarif_entries.specs.declared.entry.Entry.{Entry}
use Rattle.sarif_filing.specs.Numbers.{numbers_from}
use Rattle.sarif_filing.proofs.Numbered.{has}
use Rattle.sarif_suppress.specs.Internal.Numbers.{passes_at, with_numbers}
use Rattle.sarif_suppress.proofs.Numbered.{IsPart, whole_is_part}

-- the numbers of a list's places that pass the test, where the first has number n
abbrev picks : {A : Type 0} → (ℕ → Bool) → ℕ → List A → List ℕ
picks test n [] = []
picks test n (x ∷ xs) = if test n then n ∷ picks test (n + 1) xs else picks test (n + 1) xs

-- the first of the list, where it has one, is above n
abbrev StartsAbove : ℕ → List ℕ → Type 0
StartsAbove n [] = Unit {0}
StartsAbove n (m ∷ ms) = n < m

cmp-less : (n m : ℕ) → n < m → nat_cmp n m ≡ Less
cmp-less n m below = grind (arith, nat_tests)

cmp-same : (n : ℕ) → nat_cmp n n ≡ Equal
cmp-same n = grind (arith, nat_tests)

cmp-greater : (n m : ℕ) → m < n → nat_cmp n m ≡ Greater
cmp-greater n m above = grind (arith, nat_tests)

insert_first : (n : ℕ) (ns : List ℕ) → StartsAbove n ns → insert_key nat_cmp ns n ≡ n ∷ ns
insert_first n [] above = refl
insert_first n (m ∷ ms) above = ap (λ o. match_ordering o (n ∷ (m ∷ ms)) (m ∷ ms) (m ∷ insert_key nat_cmp ms n)) (cmp-less n m above)

picks_start : {A : Type 0} (test : ℕ → Bool) (n m : ℕ) (xs : List A) → n < m → StartsAbove n (picks test m xs)
picks_start test n m [] below = tt
picks_start test n m (x ∷ xs) below =
    elim (test m) as (λ b. StartsAbove n (if b then m ∷ picks test (m + 1) xs else picks test (m + 1) xs)) [
      | true ↦ below
      | false ↦ picks_start test n (m + 1) xs (omega arith)
    ]

-- tests that agree from n on pick the same
picks_same : {A : Type 0} (p q : ℕ → Bool) (n : ℕ) (xs : List A) → ((m : ℕ) → n ≤ m → p m ≡ q m) → picks p n xs ≡ picks q n xs
picks_same p q n [] same = refl
picks_same p q n (x ∷ xs) same =
    rw (same n (omega arith), picks_same p q (n + 1) xs (λ m later. same m (omega arith))) refl

eq_above : (n m : ℕ) → n + 1 ≤ m → (b : Bool) → b ≡ (nat_eq n m || b)
eq_above n m above b = ap (λ c. c || b) (sym (differ n m above))
  where
    differ : (n m : ℕ) → n + 1 ≤ m → nat_eq n m ≡ false
    differ n m above = grind (arith, nat_tests)

same_number : (n : ℕ) (b : Bool) → (nat_eq n n || b) ≡ true
same_number n b = ap (λ c. c || b) (self n)
  where
    self : (n : ℕ) → nat_eq n n ≡ true
    self n = grind (arith, nat_tests)

other_number : (n m : ℕ) (b : Bool) → m < n → (nat_eq n m || b) ≡ b
other_number n m b below = ap (λ c. c || b) (differ n m below)
  where
    differ : (n m : ℕ) → m < n → nat_eq n m ≡ false
    differ n m below = grind (arith, nat_tests)

-- one number more is picked
insert_picks : {A : Type 0} (q : ℕ → Bool) (n s : ℕ) (xs : List A) → s ≤ n → n < s + length xs
    → insert_key nat_cmp (picks q s xs) n ≡ picks (λ m. nat_eq n m || q m) s xs
insert_picks q n s [] low high = absurd (omega arith)
insert_picks q n s (x ∷ xs) low high =
    ⊎_elim (λ below. later below (insert_picks q n (s + 1) xs (omega arith) (omega (arith, high)))) (λ past. here (omega arith)) (cases_lt s n)
  where
    here : s ≡ n → insert_key nat_cmp (picks q s (x ∷ xs)) n ≡ picks (λ m. nat_eq n m || q m) s (x ∷ xs)
    here at =
        let rest : picks q (n + 1) xs ≡ picks (λ m. nat_eq n m || q m) (n + 1) xs =
        picks_same q (λ m. nat_eq n m || q m) (n + 1) xs (λ m above. eq_above n m above (q m)) in
        rw (at, same_number n (q n)) (
        elim (q n) as (λ b. insert_key nat_cmp (if b then n ∷ picks q (n + 1) xs else picks q (n + 1) xs) n ≡ n ∷ picks (λ m. nat_eq n m || q m) (n + 1) xs) [
          | true ↦ ap
              (λ o. match_ordering o (n ∷ (n ∷ picks q (n + 1) xs)) (n ∷ picks q (n + 1) xs) (n ∷ insert_key nat_cmp (picks q (n + 1) xs) n))
              (cmp-same n) ∙ ap (λ ns. n ∷ ns) rest
          | false ↦ insert_first n (picks q (n + 1) xs) (picks_start q n (n + 1) xs (omega arith)) ∙ ap (λ ns. n ∷ ns) rest
        ])

    later : s < n → insert_key nat_cmp (picks q (s + 1) xs) n ≡ picks (λ m. nat_eq n m || q m) (s + 1) xs
        → insert_key nat_cmp (picks q s (x ∷ xs)) n ≡ picks (λ m. nat_eq n m || q m) s (x ∷ xs)
    later below rest =
        rw (other_number n s (q s) below) (
        elim (q s) as (λ b. insert_key nat_cmp (if b then s ∷ picks q (s + 1) xs else picks q (s + 1) xs) n
        ≡ (if b then s ∷ picks (λ m. nat_eq n m || q m) (s + 1) xs else picks (λ m. nat_eq n m || q m) (s + 1) xs)) [
          | true ↦ ap
              (λ o. match_ordering o (n ∷ (s ∷ picks q (s + 1) xs)) (s ∷ picks q (s + 1) xs) (s ∷ insert_key nat_cmp (picks q (s + 1) xs) n))
              (cmp-greater n s below) ∙ ap (λ ns. s ∷ ns) rest
          | false ↦ rest
        ])

passes_within : (test : Entry → Bool) (es : List Entry) (n : ℕ) → passes_at test es n ≡ true → n < length es
passes_within test es n passes =
    elim (slice_get es n) as (λ o. slice_get es n ≡ o → option_map_or test o false ≡ true → n < length es) [
      | None ↦ λ _ no. let never : ⊥ = cc in absurd never
      | Some e ↦ λ is _. slice_get_within es n e is
    ] refl passes

-- the numbers of a list that pass, added to picked ones
with_picks : (test : Entry → Bool) (es : List Entry) (q : ℕ → Bool) (ns : List ℕ)
    → with_numbers (picks q 0 es) (filter (passes_at test es) ns) ≡ picks (λ m. (has m ns && passes_at test es m) || q m) 0 es
with_picks test es q [] = refl
with_picks test es q (n ∷ ns) =
    elim (passes_at test es n) as
    (λ b. passes_at test es n ≡ b
    → with_numbers (picks q 0 es) (if b then n ∷ filter (passes_at test es) ns else filter (passes_at test es) ns)
    ≡ picks (λ m. ((nat_eq n m || has m ns) && passes_at test es m) || q m) 0 es) [
      | true ↦ λ passes.
          ap (λ rising. with_numbers rising (filter (passes_at test es) ns)) (insert_picks q n 0 es (omega arith) (within n passes))
          ∙ with_picks test es (λ m. nat_eq n m || q m) ns ∙ picks_same _ _ 0 es (λ m _. added m passes)
      | false ↦ λ fails.
          with_picks test es q ns ∙ picks_same _ _ 0 es (λ m _. left_out m fails)
    ] refl
  where
    within : (n : ℕ) → passes_at test es n ≡ true → n < 0 + length es
    within n passes =
        let less : n < length es = passes_within test es n passes in
        omega (arith, less)

    by_number : (m : ℕ) (b : Bool) → passes_at test es n ≡ b → nat_eq n m ≡ true → passes_at test es m ≡ b
    by_number m b is same = let number : n ≡ m = grind (arith, nat_tests) in rw (← number) is

    put : (a b c d : Bool) → (a ≡ true → d ≡ true) → ((b && d) || (a || c)) ≡ (((a || b) && d) || c)
    put true b c true is = or_true b
      where
        or_true : (b : Bool) → ((b && true) || true) ≡ true
        or_true true = refl
        or_true false = refl
    put true b c false is = let never : ⊥ = let no : false ≡ true = is refl in cc in absurd never
    put false b c d is = refl

    out : (a b c d : Bool) → (a ≡ true → d ≡ false) → ((b && d) || c) ≡ (((a || b) && d) || c)
    out true b c true is = let never : ⊥ = let no : true ≡ false = is refl in cc in absurd never
    out true true c false is = refl
    out true false c false is = refl
    out false b c d is = refl

    added : (m : ℕ) → passes_at test es n ≡ true
        → ((has m ns && passes_at test es m) || (nat_eq n m || q m)) ≡ (((nat_eq n m || has m ns) && passes_at test es m) || q m)
    added m passes = put (nat_eq n m) (has m ns) (q m) (passes_at test es m) (by_number m true passes)

    left_out : (m : ℕ) → passes_at test es n ≡ false → ((has m ns && passes_at test es m) || q m) ≡ (((nat_eq n m || has m ns) && passes_at test es m) || q m)
    left_out m fails = out (nat_eq n m) (has m ns) (q m) (passes_at test es m) (by_number m false fails)

none_picked : {A : Type 0} (n : ℕ) (xs : List A) → [] ≡ picks (λ _. false) n xs
none_picked n [] = refl
none_picked n (x ∷ xs) = none_picked (n + 1) xs

-- places are picked just as the entries there pass
picks_entries : (q : ℕ → Bool) (test : Entry → Bool) (whole : List Entry) (n : ℕ) (es : List Entry)
    → ((m : ℕ) (e : Entry) → slice_get whole m ≡ Some e → q m ≡ test e) → IsPart whole n es → picks q n es ≡ numbers_from test n es
picks_entries q test whole n [] same part = refl
picks_entries q test whole n (e ∷ es) same part =
    rw (same n e part.0, picks_entries q test whole (n + 1) es same part.1) refl

-- numbers among which are all those of entries that pass, put in order
pub selected_from : (test : Entry → Bool) (es : List Entry) (ns : List ℕ)
    → ((n : ℕ) (e : Entry) → slice_get es n ≡ Some e → test e ≡ true → has n ns ≡ true)
    → with_numbers [] (filter (passes_at test es) ns) ≡ numbers_from test 0 es
selected_from test es ns all =
    ap (λ s. with_numbers s (filter (passes_at test es) ns)) (none_picked 0 es)
    ∙ with_picks test es (λ _. false) ns
    ∙ picks_entries _ test es 0 es same (whole_is_part es)
  where
    holds : (a b : Bool) → (b ≡ true → a ≡ true) → ((a && b) || false) ≡ b
    holds a true is = ap (λ c. (c && true) || false) (is refl)
    holds true false is = refl
    holds false false is = refl

    same : (m : ℕ) (e : Entry) → slice_get es m ≡ Some e → ((has m ns && passes_at test es m) || false) ≡ test e
    same m e is = rw is (holds (has m ns) (test e) (all m e is))

-- one number more of a list is gone through
pub found_step : (test : ℕ → Bool) (old new ns : List ℕ) (i n : ℕ) → i < length ns → n ≡ get_or ns i n
    → new ≡ (if test n then insert_key nat_cmp old n else old)
    → with_numbers new (filter test (drop (i + 1) ns)) ≡ with_numbers old (filter test (drop i ns))
found_step test old new ns i n within is added =
    let split : drop i ns ≡ n ∷ drop (i + 1) ns = drop_more ns i n within ∙ ap (λ m. m ∷ drop (i + 1) ns) (sym is) in
    rw (added, split) (
    elim (test n) as (λ b. with_numbers (if b then insert_key nat_cmp old n else old) (filter test (drop (i + 1) ns))
    ≡ with_numbers old (if b then n ∷ filter test (drop (i + 1) ns) else filter test (drop (i + 1) ns))) [ true ↦ refl | false ↦ refl ])
