-- Results that are in another list too: each is paired with itself there.
use Rattle.std.proofs.Common.{◌≡◌, ℕ, zero, suc, Bool, true, false, cond, List, [], ◌∷◌, ◌++◌, Some, length, map, slice_get, refl, sym, ap, subst, ◌∙◌, true≢false, append_assoc}
use Rattle.std.specs.Prelude.{filter}
use Rattle.std.specs.List.{AllZip}
use Rattle.std.proofs.lemmas.List.{map-append}
use Rattle.std.proofs.lemmas.List.Elements.{filter-append}
use Rattle.sarif_match.specs.Pairing.{pairs_from, places, with_pair}
use Rattle.sarif_match.proofs.ListLemmas.{slice_get-middle}

-- ---- lists by their places

pub get_front : {X : Type 0} (xs ys : List X) (n : ℕ) (x : X) → slice_get xs n ≡ Some x → slice_get (xs ++ ys) n ≡ Some x
get_front [] ys n x is = let never : ⊥ = cc in absurd never
get_front (y ∷ xs) ys zero x is = is
get_front (y ∷ xs) ys (suc n) x is = get_front xs ys n x is

module _ {E : Type 0} {F : Type 0} (R : E → F → Type 0) where
  pub zip_filter : (p : E → Bool) (q : F → Bool) → ((e : E) (f : F) → R e f → p e ≡ q f) → (es : List E) (fs : List F) → AllZip R es fs
      → AllZip R (filter p es) (filter q fs)
  zip_filter p q agree [] [] all = tt
  zip_filter p q agree [] (f ∷ fs) all = absurd all
  zip_filter p q agree (e ∷ es) [] all = absurd all
  zip_filter p q agree (e ∷ es) (f ∷ fs) all = by_tests (p e) (q f) (agree e f all.0) (zip_filter p q agree es fs all.1)
    where
      by_tests : (a b : Bool) → a ≡ b → AllZip R (filter p es) (filter q fs)
          → AllZip R (cond a (e ∷ filter p es) (filter p es)) (cond b (f ∷ filter q fs) (filter q fs))
      by_tests true true same rest = (all.0, rest)
      by_tests true false same rest = absurd (true≢false same)
      by_tests false true same rest = absurd (true≢false (sym same))
      by_tests false false same rest = rest

-- ---- pairs

module _ {K : Type 0} (eq : K → K → Bool) (itself : (k : K) → eq k k ≡ true) (IsAt : ℕ → ℕ → Type 0) where
  pub places-append : (k : K) (xs ys : List (ℕ × K)) → places eq k (xs ++ ys) ≡ places eq k xs ++ places eq k ys
  places-append k xs ys =
      ap (map (λ (e : ℕ × K). e.0)) (filter-append (λ (e : ℕ × K). eq e.1 k) xs ys)
      ∙ map-append (λ (e : ℕ × K). e.0) (filter (λ (e : ℕ × K). eq e.1 k) xs) (filter (λ (e : ℕ × K). eq e.1 k) ys)

  -- each element with a key is at the same rank in the baseline list
  abbrev pub AreRanked : List (ℕ × K) → List (ℕ × K) → Type 0
  AreRanked es fs = (k : K) (rank i : ℕ) → slice_get (places eq k es) rank ≡ Some i → (j : ℕ) × (slice_get (places eq k fs) rank ≡ Some j) × IsAt j i

  own_place : (seen es : List (ℕ × K)) (e : ℕ × K) → slice_get (places eq e.1 (seen ++ (e ∷ es))) (length (places eq e.1 seen)) ≡ Some e.0
  own_place seen es e =
      ap (λ l. slice_get l (length (places eq e.1 seen)))
      (places-append e.1 seen (e ∷ es)
      ∙ ap (λ b. places eq e.1 seen
      ++ map (λ (d : ℕ × K). d.0) (cond b (e ∷ filter (λ (d : ℕ × K). eq d.1 e.1) es) (filter (λ (d : ℕ × K). eq d.1 e.1) es))) (itself e.1))
      ∙ slice_get-middle (places eq e.1 seen) e.0 (places eq e.1 es)

  -- each is in one of the pairs, and they are in order
  abbrev pub ArePairs : List (ℕ × K) → List (ℕ × ℕ) → Type 0
  ArePairs es ps = AllZip (λ e p. (p.0 ≡ e.0) × IsAt p.1 p.0) es ps

  pub pairs_own : (seen es fs : List (ℕ × K)) → AreRanked (seen ++ es) fs → ArePairs es (pairs_from eq seen es fs)
  pairs_own seen [] fs ranked = tt
  pairs_own seen (e ∷ es) fs ranked =
      let found = ranked e.1 (length (places eq e.1 seen)) e.0 (own_place seen es e) in
      let rest = pairs_own (seen ++ e ∷ []) es fs (subst (λ l. AreRanked l fs) (sym (append_assoc seen (e ∷ []) es)) ranked) in
      subst (λ o. ArePairs (e ∷ es) (with_pair e.0 o (pairs_from eq (seen ++ e ∷ []) es fs))) (sym found.1) ((refl, found.2), rest)
