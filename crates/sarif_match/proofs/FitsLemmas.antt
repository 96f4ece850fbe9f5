-- The pairs of a tier can be added one by one.
use Rattle.std.proofs.Common.{◌≡◌, ◌≢◌, ℕ, ◌+◌, ◌<◌, ◌≤◌, zero, suc, Bool, true, false, cond, not, List, [], ◌∷◌, ◌++◌, Option, Some, None, length, is_some, map, slice_get, slice_index_or, slice_set, filter, refl, sym, ap, ◌∙◌, arith}
use Rattle.std.proofs.Math.ListN.{length-set}
use Rattle.std.proofs.lemmas.List.{get_or-set_other, map-append}
use Rattle.sarif_model.specs.declared.record.Record.{Record}
use Rattle.sarif_match.specs.declared.tier.Tier.{Tier}
use Rattle.sarif_match.specs.declared.tier_key.Key.{Key}
use Rattle.sarif_match.specs.Key.{key_of}
use Rattle.sarif_match.specs.KeyParts.{KeyParts, parts_of, same_parts}
use Rattle.sarif_match.specs.Internal.Fits.{Fits}
use Rattle.sarif_match.specs.Internal.Named.{AreNumberedBelow, unmarked, with_parts}
use Rattle.sarif_match.specs.Pairing.{places, pairs_from, with_pair}
use Rattle.sarif_match.specs.Partners.{has_partner, is_taken, left, free, with_key, keyed_from, pairs_at}
use Rattle.sarif_match.specs.declared.progress.Progress.{Progress}
use Rattle.sarif_match.specs.Internal.Progress.{IsSound}
use Rattle.sarif_match.specs.Internal.Queues.{same_key}
use Rattle.sarif_match.proofs.KeyLemmas.{eq-is_same_parts}
use Rattle.sarif_match.proofs.NamedLemmas.{AreNumberedBelow-keyed_from}

module _ {K : Type 0} where
  -- results in rising order from number n, all without a match
  abbrev pub IsLeft : List (Option ℕ) → ℕ → List (ℕ × K) → Type 0
  IsLeft partners n [] = Unit {0}
  IsLeft partners n (e ∷ es) =
      (n ≤ e.0) × (e.0 < length partners) × (has_partner partners e.0 ≡ false) × IsLeft partners (suc e.0) es

  IsLeft-from : (partners : List (Option ℕ)) (n n' : ℕ) (es : List (ℕ × K)) → n ≤ n' → IsLeft partners n' es → IsLeft partners n es
  IsLeft-from partners n n' [] le h = tt
  IsLeft-from partners n n' (e ∷ es) le h = let from : n' ≤ e.0 = h.0 in (omega arith, h.1, h.2, h.3)

  -- a pair below n leaves them unmatched
  IsLeft-set : (partners : List (Option ℕ)) (i n : ℕ) (o : Option ℕ) (es : List (ℕ × K)) → i < n → IsLeft partners n es → IsLeft (slice_set partners i o) n es
  IsLeft-set partners i n o [] below h = tt
  IsLeft-set partners i n o (e ∷ es) below h =
      let from : n ≤ e.0 = h.0 in
      let within : e.0 < length partners = h.1 in
      let apart : e.0 ≢ i = omega arith in (
        from,
        omega (arith, length-set partners i o),
        ap is_some (get_or-set_other partners i e.0 o None apart)
            ∙ h.2,
        IsLeft-set partners i (suc e.0) o es (omega arith) h.3,
      )

  left_at : (partners : List (Option ℕ)) (n : ℕ) (k : K) (rest : List (ℕ × K)) (b : Bool) → has_partner partners n ≡ b → n < length partners
      → IsLeft partners (suc n) rest → IsLeft partners n (cond (not b) ((n, k) ∷ rest) rest)
  left_at partners n k rest true is within h = IsLeft-from partners n (suc n) rest (omega arith) h
  left_at partners n k rest false is within h = let from : n ≤ n = omega arith in (from, within, is, h)

  left_with_key : (partners : List (Option ℕ)) (n : ℕ) (o : Option K) (rest : List (ℕ × K)) → n < length partners
      → IsLeft partners (suc n) (left partners rest) → IsLeft partners n (left partners (with_key n o rest))
  left_with_key partners n None rest within h = IsLeft-from partners n (suc n) (left partners rest) (omega arith) h
  left_with_key partners n (Some k) rest within h = left_at partners n k (left partners rest) (has_partner partners n) refl within h

  AreNumberedBelow-filter : (m : ℕ) (p : ℕ × K → Bool) (es : List (ℕ × K)) → AreNumberedBelow m es → AreNumberedBelow m (filter p es)
  AreNumberedBelow-filter m p [] h = tt
  AreNumberedBelow-filter m p (e ∷ es) h = at (p e) (AreNumberedBelow-filter m p es h.1)
    where
      at : (b : Bool) → AreNumberedBelow m (filter p es) → AreNumberedBelow m (cond b (e ∷ filter p es) (filter p es))
      at true rest = (h.0, rest)
      at false rest = rest

  -- the marks say who is left over
  pub unmarked-left : (marks : List Bool) (test : ℕ → Bool) → ((i : ℕ) → slice_index_or marks i false ≡ test i) → (es : List (ℕ × K))
      → unmarked marks es ≡ filter (λ e. not (test e.0)) es
  unmarked-left marks test same [] = refl
  unmarked-left marks test same (e ∷ es) =
      ap (λ (b : Bool). cond (not b) (e ∷ unmarked marks es) (unmarked marks es)) (same e.0)
      ∙ ap (λ (rest : List (ℕ × K)). cond (not (test e.0)) (e ∷ rest) rest) (unmarked-left marks test same es)

  module _ (eq : K → K → Bool) where
    places-below : (m : ℕ) (k : K) (es : List (ℕ × K)) (r j : ℕ) → AreNumberedBelow m es → slice_get (places eq k es) r ≡ Some j → j < m
    places-below m k [] r j h found = absurd (none_is found)
      where
        none_is : {X : Type 0} {x : X} → None ≡ Some x → ⊥
        none_is e = cc
    places-below m k (e ∷ es) r j h found = at (eq e.1 k) r (λ r. places-below m k es r j h.1) found
      where
        rest : List (ℕ × K)
        rest = filter (λ (x : ℕ × K). eq x.1 k) es

        first : Some e.0 ≡ Some j → j < m
        first same = let at_e : e.0 ≡ j = cc in let below : e.0 < m = h.0 in omega arith

        at : (b : Bool) (r : ℕ) → ((r : ℕ) → slice_get (map (λ (x : ℕ × K). x.0) rest) r ≡ Some j → j < m)
            → slice_get (map (λ (x : ℕ × K). x.0) (cond b (e ∷ rest) rest)) r ≡ Some j → j < m
        at true zero others found = first found
        at true (suc r) others found = others r found
        at false r others found = others r found

    Fits-with_pair : (m : ℕ) (partners : List (Option ℕ)) (i : ℕ) (o : Option ℕ) (rest : List (ℕ × ℕ)) → i < length partners
        → has_partner partners i ≡ false → ((j : ℕ) → o ≡ Some j → j < m) → (o ≡ None → Fits m partners rest)
        → ((j : ℕ) → Fits m (slice_set partners i (Some j)) rest) → Fits m partners (with_pair i o rest)
    Fits-with_pair m partners i None rest within none in_baseline without after = without refl
    Fits-with_pair m partners i (Some j) rest within none in_baseline without after = (within, none, in_baseline j refl, after j)

    Fits-pairs_from : (m : ℕ) (partners : List (Option ℕ)) (n : ℕ) (seen es bs : List (ℕ × K)) → IsLeft partners n es
        → AreNumberedBelow m bs → Fits m partners (pairs_from eq seen es bs)
    Fits-pairs_from m partners n seen [] bs h below = tt
    Fits-pairs_from m partners n seen (e ∷ es) bs h below =
        Fits-with_pair m partners e.0 (slice_get (places eq e.1 bs) (length (places eq e.1 seen)))
        (pairs_from eq (seen ++ (e ∷ [])) es bs) h.1 h.2 (λ j found. places-below m e.1 bs (length (places eq e.1 seen)) j below found)
        (λ none. Fits-pairs_from m partners (suc e.0) (seen ++ (e ∷ [])) es bs h.3 below)
        (λ j. Fits-pairs_from m (slice_set partners e.0 (Some j)) (suc e.0) (seen ++ (e ∷ [])) es bs
        (IsLeft-set partners e.0 (suc e.0) (Some j) es (omega arith) h.3) below)

-- rising results that are left over
IsLeft-keyed_from : (partners : List (Option ℕ)) (tier : Tier) (n : ℕ) (rs : List Record) → n + length rs ≤ length partners
    → IsLeft partners n (left partners (keyed_from tier n rs))
IsLeft-keyed_from partners tier n [] h = tt
IsLeft-keyed_from partners tier n (r ∷ rs) h =
    left_with_key partners n (key_of r tier) (keyed_from tier (suc n) rs) (omega arith) (IsLeft-keyed_from partners tier (suc n) rs (omega arith))

-- the pairs of a tier fit
pub Fits-pairs_at : (current baseline : List Record) (partners : List (Option ℕ)) (tier : Tier) → length partners ≡ length current
    → Fits (length baseline) partners (pairs_at current baseline partners tier)
Fits-pairs_at current baseline partners tier counted =
    Fits-pairs_from same_parts (length baseline) partners 0 [] (left partners (keyed_from tier 0 current))
    (free partners (keyed_from tier 0 baseline)) (IsLeft-keyed_from partners tier 0 current (omega arith))
    (AreNumberedBelow-filter (length baseline) (λ (e : ℕ × KeyParts). not (is_taken partners e.0)) (keyed_from tier 0 baseline)
    (AreNumberedBelow-keyed_from tier 0 (length baseline) baseline (omega arith)))

places-with_parts : (k : Key) (xs : List (ℕ × Key)) → places same_parts (parts_of k) (with_parts xs) ≡ places same_key k xs
places-with_parts k [] = refl
places-with_parts k (x ∷ xs) =
    ap (λ (b : Bool). map (λ (e : ℕ × KeyParts). e.0) (cond b ((x.0, parts_of x.1) ∷ others) others)) (sym (eq-is_same_parts x.1 k))
    ∙ at (same_key x.1 k) (places-with_parts k xs)
  where
    others : List (ℕ × KeyParts)
    others = filter (λ (e : ℕ × KeyParts). same_parts e.1 (parts_of k)) (with_parts xs)

    at : (b : Bool) → map (λ (e : ℕ × KeyParts). e.0) others ≡ places same_key k xs
        → map (λ (e : ℕ × KeyParts). e.0) (cond b ((x.0, parts_of x.1) ∷ others) others)
        ≡ map (λ (e : ℕ × Key). e.0) (cond b (x ∷ filter (λ (e : ℕ × Key). same_key e.1 k) xs) (filter (λ (e : ℕ × Key). same_key e.1 k) xs))
    at true rest_is = ap (λ (rest : List ℕ). x.0 ∷ rest) rest_is
    at false rest_is = rest_is

-- borrowed keys are paired as their parts are
pub pairs_from-with_parts : (seen es bs : List (ℕ × Key))
    → pairs_from same_parts (with_parts seen) (with_parts es) (with_parts bs) ≡ pairs_from same_key seen es bs
pairs_from-with_parts seen [] bs = refl
pairs_from-with_parts seen (e ∷ es) bs =
    let one_more : with_parts (seen ++ (e ∷ [])) ≡ with_parts seen ++ ((e.0, parts_of e.1) ∷ []) =
    map-append (λ (x : ℕ × Key). (let keyed : ℕ × KeyParts = (x.0, parts_of x.1) in keyed)) seen (e ∷ []) in
    let partner = λ (bs_at seen_at : List ℕ). slice_get bs_at (length seen_at) in
    ap
    (λ (rest : List (ℕ × ℕ)). with_pair e.0
    (partner (places same_parts (parts_of e.1) (with_parts bs)) (places same_parts (parts_of e.1) (with_parts seen))) rest)
    (ap (λ (s : List (ℕ × KeyParts)). pairs_from same_parts s (with_parts es) (with_parts bs)) (sym one_more)
    ∙ pairs_from-with_parts (seen ++ (e ∷ [])) es bs)
    ∙ ap
    (λ (ns : List ℕ). with_pair e.0 (partner ns (places same_parts (parts_of e.1) (with_parts seen)))
    (pairs_from same_key (seen ++ (e ∷ [])) es bs)) (places-with_parts e.1 bs)
    ∙ ap (λ (ns : List ℕ). with_pair e.0 (partner (places same_key e.1 bs) ns) (pairs_from same_key (seen ++ (e ∷ [])) es bs))
    (places-with_parts e.1 seen)

-- what is paired at a tier, of what the marks leave over
pub pairs_at-told : (current baseline : List Record) (n m : ℕ) (progress : Progress) (tier : Tier) (l f : List (ℕ × Key))
    (pairs : List (ℕ × ℕ)) → IsSound n m progress → with_parts l ≡ unmarked progress.paired.items (keyed_from tier 0 current)
    → with_parts f ≡ unmarked progress.taken.items (keyed_from tier 0 baseline) → pairs ≡ pairs_from same_key [] l f
    → pairs ≡ pairs_at current baseline progress.partners.items tier
pairs_at-told current baseline n m progress tier l f pairs sound l_is f_is told =
    let partners = progress.partners.items in
    told ∙ sym (pairs_from-with_parts [] l f)
    ∙ ap (λ (xs : List (ℕ × KeyParts)). pairs_from same_parts [] xs (with_parts f))
    (l_is ∙ unmarked-left progress.paired.items (has_partner partners) sound.paired (keyed_from tier 0 current))
    ∙ ap (λ (xs : List (ℕ × KeyParts)). pairs_from same_parts [] (left partners (keyed_from tier 0 current)) xs)
    (f_is ∙ unmarked-left progress.taken.items (is_taken partners) sound.taken (keyed_from tier 0 baseline))
