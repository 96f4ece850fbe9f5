-- How many results are left, pair by pair.
use Rattle.std.proofs.Common.{◌≡◌, ℕ, ◌+◌, ◌<◌, ◌≤◌, zero, suc, Bool, true, false, cond, not, ◌&&◌, ◌||◌, ◌⊎◌, inl, inr, List, [], ◌∷◌, Option, Some, ◌==◌, length, slice_get, slice_set, refl, sym, ap, ◌∙◌, arith, eq-eqb}
use Rattle.std.proofs.lemmas.Bool.{false≢true, true≢false, ne_eqb}
use Rattle.std.proofs.lemmas.Option.{same_Some}
use Rattle.sarif_model.specs.declared.record.Record.{Record}
use Rattle.sarif_match.specs.Internal.Fits.{Fits}
use Rattle.sarif_match_laws.specs.Leaving.{count_left}
use Rattle.sarif_match.specs.Partners.{has_partner, is_taken, put_all}
use Rattle.sarif_match.proofs.PutLemmas.{has_partner-put, is_taken-put}
use Rattle.sarif_match.proofs.SplitLemmas.{HasPair, none_is_no_some}

abbrev one_if : Bool → ℕ
one_if b = cond b 1 0

module _ (test : Record → Bool) where
  -- what is done alike from n on is counted alike
  pub count_alike : (done done' : ℕ → Bool) (n : ℕ) (rs : List Record) → ((q : ℕ) → n ≤ q → done' q ≡ done q)
      → count_left test done' n rs ≡ count_left test done n rs
  count_alike done done' n [] same = refl
  count_alike done done' n (r ∷ rs) same =
      let here : done' n ≡ done n = same n (omega arith) in
      let rest : count_left test done' (suc n) rs ≡ count_left test done (suc n) rs =
      count_alike done done' (suc n) rs (λ q le. same q (omega (arith, le))) in
      ap (λ (b : Bool). one_if (test r && not b) + count_left test done' (suc n) rs) here
      ∙ ap (λ (m : ℕ). one_if (test r && not (done n)) + m) rest

  -- one result more is done
  count_one : (done done' : ℕ → Bool) (n m : ℕ) (rs : List Record) (r : Record) → ((q : ℕ) → done' q ≡ (n + m == q) || done q)
      → done (n + m) ≡ false → slice_get rs m ≡ Some r → count_left test done n rs ≡ one_if (test r) + count_left test done' n rs
  count_one done done' n m [] r same fresh is = absurd (none_is_no_some r is)
  count_one done done' n zero (x ∷ rs) r same fresh is =
      let at : n + 0 ≡ n = omega arith in
      let undone : done n ≡ false = ap done (sym at) ∙ fresh in
      let one : (n + 0 == n) ≡ true = eq-eqb (n + 0) n at in
      let now : done' n ≡ true = same n ∙ ap (λ (b : Bool). b || done n) one in
      let rest : count_left test done' (suc n) rs ≡ count_left test done (suc n) rs =
      count_alike done done' (suc n) rs
      (λ q le. same q ∙ ap (λ (b : Bool). b || done q) (ne_eqb (n + 0) q (λ e. omega (arith, e, le)))) in
      let first : test x ≡ test r = ap test (same_Some x r is) in
      ap (λ (b : Bool). one_if (test x && not b) + count_left test done (suc n) rs) undone
      ∙ by_test (test x) (test r) first (done' n) now (count_left test done (suc n) rs) (count_left test done' (suc n) rs) rest
    where
      by_test : (a b : Bool) → a ≡ b → (d : Bool) → d ≡ true → (k l : ℕ) → l ≡ k → one_if (a && true) + k ≡ one_if b + (one_if (a && not d) + l)
      by_test true true e true is k l more = omega (arith, more)
      by_test false false e true is k l more = omega (arith, more)
      by_test true false e d is k l more = absurd (true≢false e)
      by_test false true e d is k l more = absurd (false≢true e)
      by_test a b e false is k l more = absurd (false≢true is)
  count_one done done' n (suc m) (x ∷ rs) r same fresh is =
      let at : n + suc m ≡ suc n + m = omega arith in
      let apart : (n + suc m == n) ≡ false = ne_eqb (n + suc m) n (λ e. omega (arith, e)) in
      let here : done' n ≡ done n = same n ∙ ap (λ (b : Bool). b || done n) apart in
      let rest : count_left test done (suc n) rs ≡ one_if (test r) + count_left test done' (suc n) rs =
      count_one done done' (suc n) m rs r (λ q. same q ∙ ap (λ (k : ℕ). (k == q) || done q) at) (ap done (sym at) ∙ fresh) is in
      let same_here : one_if (test x && not (done' n)) ≡ one_if (test x && not (done n)) = ap (λ (b : Bool). one_if (test x && not b)) here in
      omega (arith, rest, same_here)

  -- nothing is left, or there is a result that is
  pub count_some : (done : ℕ → Bool) (n : ℕ) (rs : List Record) → (count_left test done n rs ≡ 0)
      ⊎ ((m : ℕ) × (r : Record) × (slice_get rs m ≡ Some r) × (test r ≡ true) × (done (n + m) ≡ false))
  count_some done n [] = inl refl
  count_some done n (r ∷ rs) = by_tests (test r) (done n) refl refl (count_some done (suc n) rs)
    where
      by_tests : (a b : Bool) → test r ≡ a → done n ≡ b
          → (count_left test done (suc n) rs ≡ 0)
          ⊎ ((m : ℕ) × (x : Record) × (slice_get rs m ≡ Some x) × (test x ≡ true) × (done (suc n + m) ≡ false))
          → (one_if (a && not b) + count_left test done (suc n) rs ≡ 0)
          ⊎ ((m : ℕ) × (x : Record) × (slice_get (r ∷ rs) m ≡ Some x) × (test x ≡ true) × (done (n + m) ≡ false))
      by_tests true false is undone more = inr (0, r, refl, is, (let at : n + 0 ≡ n = omega arith in ap done at ∙ undone))
      by_tests a true is undone (inl none) = inl (and_none a none)
        where
          and_none : (a : Bool) → count_left test done (suc n) rs ≡ 0 → one_if (a && false) + count_left test done (suc n) rs ≡ 0
          and_none true none = omega (arith, none)
          and_none false none = omega (arith, none)
      by_tests false false is undone (inl none) = inl (omega (arith, none))
      by_tests a b is undone (inr found) =
          let at : n + suc found.0 ≡ suc n + found.0 = omega arith in
          inr (suc found.0, found.1, found.2, found.3, ap done at ∙ found.4)

-- ---- one pair

-- the pairs can be added one by one, and no baseline result is matched twice
abbrev pub IsFresh : List (Option ℕ) → List (ℕ × ℕ) → Type 0
IsFresh partners [] = Unit {0}
IsFresh partners (p ∷ ps) =
    (p.0 < length partners) × (has_partner partners p.0 ≡ false) × (is_taken partners p.1 ≡ false) × IsFresh (slice_set partners p.0 (Some p.1)) ps

-- a current result that a pair takes had no match before
fits_none : (m : ℕ) (partners : List (Option ℕ)) (ps : List (ℕ × ℕ)) (i j : ℕ) → Fits m partners ps → HasPair ps i j → has_partner partners i ≡ false
fits_none m partners [] i j fits h = absurd h
fits_none m partners (p ∷ ps) i j fits (inl same) = ap (has_partner partners) (sym (ap (λ (q : ℕ × ℕ). q.0) same)) ∙ fits.1
fits_none m partners (p ∷ ps) i j fits (inr h) =
    not_put (p.0 == i) (has_partner partners i) (sym (has_partner-put partners p.0 p.1 i fits.0)
    ∙ fits_none m (slice_set partners p.0 (Some p.1)) ps i j fits.3 h)
  where
    not_put : (b c : Bool) → cond b true c ≡ false → c ≡ false
    not_put true c e = absurd (true≢false e)
    not_put false c e = e

pub fresh_pairs : (m : ℕ) (partners : List (Option ℕ)) (ps : List (ℕ × ℕ)) → Fits m partners ps
    → ((i j : ℕ) → HasPair ps i j → is_taken partners j ≡ false) → ((i k j : ℕ) → HasPair ps i j → HasPair ps k j → i ≡ k) → IsFresh partners ps
fresh_pairs m partners [] fits free once = tt
fresh_pairs m partners (p ∷ ps) fits free once = (
  fits.0,
  fits.1,
  free p.0 p.1 (inl refl),
  fresh_pairs m (slice_set partners p.0 (Some p.1)) ps fits.3 still_free (λ i k j a b. once i k j (inr a) (inr b)),
)
  where
    still_free : (i j : ℕ) → HasPair ps i j → is_taken (slice_set partners p.0 (Some p.1)) j ≡ false
    still_free i j h =
        is_taken-put partners p.0 p.1 j fits.0 fits.1
        ∙ ap (λ (b : Bool). b || is_taken partners j) (ne_eqb p.1 j apart) ∙ free i j (inr h)
      where
        apart : p.1 ≡ j → ⊥
        apart e =
            let same : p.0 ≡ i = once p.0 i j (inl (λ k. (p.0, e k))) (inr h) in
            let now : has_partner (slice_set partners p.0 (Some p.1)) p.0 ≡ true =
            has_partner-put partners p.0 p.1 p.0 fits.0 ∙ ap (λ (b : Bool). cond b true (has_partner partners p.0)) (eq-eqb p.0 p.0 refl) in
            true≢false (sym now ∙ ap (has_partner (slice_set partners p.0 (Some p.1))) same
            ∙ fits_none m (slice_set partners p.0 (Some p.1)) ps i j fits.3 h)

-- ---- the pairs of a tier

module _ (cs bs : List Record) where
  -- each pair is of two results that pass their tests, or of two that don't
  abbrev pub PairAlike : (Record → Bool) → (Record → Bool) → List (ℕ × ℕ) → Type 0
  PairAlike test other [] = Unit {0}
  PairAlike test other (p ∷ ps) =
      ((r : Record) × (b : Record) × (slice_get cs p.0 ≡ Some r) × (slice_get bs p.1 ≡ Some b) × (test r ≡ other b)) × PairAlike test other ps

  done_put : (partners : List (Option ℕ)) (p : ℕ × ℕ) → p.0 < length partners → (q : ℕ)
      → has_partner (slice_set partners p.0 (Some p.1)) q ≡ (0 + p.0 == q) || has_partner partners q
  done_put partners p within q =
      let at : p.0 ≡ 0 + p.0 = omega arith in
      has_partner-put partners p.0 p.1 q within ∙ cond_or (p.0 == q) (has_partner partners q)
      ∙ ap (λ (k : ℕ). (k == q) || has_partner partners q) at
    where
      cond_or : (b c : Bool) → cond b true c ≡ b || c
      cond_or true c = refl
      cond_or false c = refl

  taken_put : (partners : List (Option ℕ)) (p : ℕ × ℕ) → p.0 < length partners → has_partner partners p.0 ≡ false → (q : ℕ)
      → is_taken (slice_set partners p.0 (Some p.1)) q ≡ (0 + p.1 == q) || is_taken partners q
  taken_put partners p within none q =
      let at : p.1 ≡ 0 + p.1 = omega arith in
      is_taken-put partners p.0 p.1 q within none ∙ ap (λ (k : ℕ). (k == q) || is_taken partners q) at

  -- as many current results as baseline results find a match
  pub counted_alike : (test other : Record → Bool) (partners : List (Option ℕ)) (ps : List (ℕ × ℕ)) → IsFresh partners ps
      → PairAlike test other ps
      → count_left test (has_partner partners) 0 cs + count_left other (is_taken (put_all partners ps)) 0 bs
      ≡ count_left test (has_partner (put_all partners ps)) 0 cs + count_left other (is_taken partners) 0 bs
  counted_alike test other partners [] fresh alike = refl
  counted_alike test other partners (p ∷ ps) fresh alike =
      let next : List (Option ℕ) = slice_set partners p.0 (Some p.1) in
      let one = alike.0 in
      let zero_c : p.0 ≡ 0 + p.0 = omega arith in
      let zero_b : p.1 ≡ 0 + p.1 = omega arith in
      let current : count_left test (has_partner partners) 0 cs ≡ one_if (test one.0) + count_left test (has_partner next) 0 cs =
      count_one test (has_partner partners) (has_partner next) 0 p.0 cs one.0 (done_put partners p fresh.0)
      (ap (has_partner partners) (sym zero_c) ∙ fresh.1) one.2 in
      let baseline : count_left other (is_taken partners) 0 bs ≡ one_if (other one.1) + count_left other (is_taken next) 0 bs =
      count_one other (is_taken partners) (is_taken next) 0 p.1 bs one.1 (taken_put partners p fresh.0 fresh.1)
      (ap (is_taken partners) (sym zero_b) ∙ fresh.2) one.3 in
      let same : one_if (test one.0) ≡ one_if (other one.1) = ap one_if one.4 in
      let rest = counted_alike test other next ps fresh.3 alike.1 in
      omega (arith, current, baseline, same, rest)
