-- The numbers of entries: which are in a list, and one more of them.
use Rattle.std.proofs.Common.{◌≡◌, ℕ, zero, suc, ◌+◌, ◌<◌, ◌≤◌, Bool, true, false, List, [], ◌∷◌, ◌++◌, length, drop, get_or, Some, nat_eq, refl, sym, ap, ◌∙◌, arith, if◌then◌else◌}
use Rattle.std.specs.Prelude.{slice_get}
use Rattle.std.specs.List.{flat_map, list_any}
use Rattle.std.proofs.lemmas.Bool.Decides.{nat_tests}
use Rattle.std.proofs.lemmas.List.{append_assoc, append-nil, drop_more}
use Rattle.std.proofs.lemmas.Option.{same_Some}
use Rattle.sarif_entries.specs.declared.entry.Entry.{Entry}
use Rattle.sarif_filing.specs.Numbers.{numbers_from}

-- ---- which numbers are in a list

-- the number is among these
abbrev pub has : ℕ → List ℕ → Bool
has n ns = list_any (λ m. nat_eq m n) ns

none_before : (test : Entry → Bool) (n s : ℕ) (es : List Entry) → n + 1 ≡ s → has n (numbers_from test s es) ≡ false
none_before test n s es is = below test n s es (omega arith)
  where
    differ : (s n : ℕ) → n + 1 ≤ s → nat_eq s n ≡ false
    differ s n above = grind (arith, nat_tests)

    below : (test : Entry → Bool) (n s : ℕ) (es : List Entry) → n + 1 ≤ s → has n (numbers_from test s es) ≡ false
    below test n s [] above = refl
    below test n s (e ∷ es) above =
        elim (test e) as (λ b. has n (if b then s ∷ numbers_from test (s + 1) es else numbers_from test (s + 1) es) ≡ false) [
          | true ↦ rw (differ s n above) (below test n (s + 1) es (omega arith))
          | false ↦ below test n (s + 1) es (omega arith)
        ]

-- the number of an entry is among the numbers of the passing entries if and only if the entry passes
pub has_from : (test : Entry → Bool) (s m n : ℕ) (es : List Entry) (e : Entry) → m ≡ s + n → slice_get es n ≡ Some e → has m (numbers_from test s es) ≡ test e
has_from test s m n [] e at is = let never : ⊥ = cc in absurd never
has_from test s m zero (x ∷ es) e at is =
    let same : x ≡ e = same_Some x e is in
    let here : m ≡ s = omega arith in
    rw (here, same) (
    elim (test e) as (λ b. has s (if b then s ∷ numbers_from test (s + 1) es else numbers_from test (s + 1) es) ≡ b) [
      | true ↦ rw (self s) refl
      | false ↦ none_before test s (s + 1) es refl
    ])
  where
    self : (s : ℕ) → nat_eq s s ≡ true
    self s = grind (arith, nat_tests)
has_from test s m (suc n) (x ∷ es) e at is =
    let rest : has m (numbers_from test (s + 1) es) ≡ test e = has_from test (s + 1) m n es e (omega arith) is in
    elim (test x) as (λ b. has m (if b then s ∷ numbers_from test (s + 1) es else numbers_from test (s + 1) es) ≡ test e) [
      | true ↦ rw (differ s m (omega arith)) rest
      | false ↦ rest
    ]
  where
    differ : (s m : ℕ) → s < m → nat_eq s m ≡ false
    differ s m below = grind (arith, nat_tests)

-- ---- one number more

joined : (is : Bool) (n : ℕ) (old rest : List ℕ) → (old ++ (if is then n ∷ [] else [])) ++ rest ≡ old ++ (if is then n ∷ rest else rest)
joined true n old rest = append_assoc old (n ∷ []) rest
joined false n old rest = rw append-nil refl

-- the number of entry n comes after the numbers below it, if the entry passes the test
pub one_more : (test : Entry → Bool) (n : ℕ) (es : List Entry) (e : Entry) (old new whole : List ℕ) → n < length es → e ≡ get_or es n e
    → new ≡ old ++ (if test e then n ∷ [] else []) → old ++ numbers_from test n (drop n es) ≡ whole
    → new ++ numbers_from test (n + 1) (drop (n + 1) es) ≡ whole
one_more test n es e old new whole within is added so_far =
    let left : drop n es ≡ e ∷ drop (n + 1) es = drop_more es n e within ∙ ap (λ x. x ∷ drop (n + 1) es) (sym is) in
    ap (λ ns. ns ++ numbers_from test (n + 1) (drop (n + 1) es)) added
    ∙ joined (test e) n old (numbers_from test (n + 1) (drop (n + 1) es))
    ∙ sym (ap (λ xs. old ++ numbers_from test n xs) left)
    ∙ so_far

-- the numbers under one key more are gone through
pub under_step : {K : Type 0} (under : K → List ℕ) (old new : List ℕ) (ks : List K) (i : ℕ) (k : K) → i < length ks → k ≡ get_or ks i k
    → new ≡ old ++ under k → new ++ flat_map under (drop (i + 1) ks) ≡ old ++ flat_map under (drop i ks)
under_step under old new ks i k within is added =
    let split : drop i ks ≡ k ∷ drop (i + 1) ks = drop_more ks i k within ∙ ap (λ m. m ∷ drop (i + 1) ks) (sym is) in
    rw (added, split) (append_assoc old (under k) (flat_map under (drop (i + 1) ks)))

-- a number within a list doesn't depend on what is beyond it
pub get_or_any : (ns : List ℕ) (i a b : ℕ) → i < length ns → get_or ns i a ≡ get_or ns i b
get_or_any [] i a b within = absurd (omega (arith, within))
get_or_any (n ∷ ns) zero a b within = refl
get_or_any (n ∷ ns) (suc i) a b within = get_or_any ns i a b (omega (arith, within))
