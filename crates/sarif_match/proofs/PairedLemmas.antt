-- The pairs of a tier are exactly the results that match by the rule.
use Rattle.std.proofs.Common.{◌≡◌, ℕ, ◌+◌, ◌<◌, zero, suc, Bool, not, List, [], ◌∷◌, ◌++◌, Option, Some, None, length, filter, slice_get, refl, sym, ap, ◌∙◌, subst, arith}
use Rattle.std.proofs.lemmas.Bool.{not-true}
use Rattle.sarif_model.specs.declared.record.Record.{Record}
use Rattle.sarif_match.specs.declared.tier.Tier.{Tier}
use Rattle.sarif_match.specs.Key.{key_of}
use Rattle.sarif_match.specs.KeyParts.{KeyParts, same_parts}
use Rattle.sarif_match.specs.Internal.Named.{AreNumberedBelow}
use Rattle.sarif_match.specs.Pairing.{places, pairs_from}
use Rattle.sarif_match.specs.Partners.{has_partner, is_taken, left, free, with_key, keyed_from, pairs_at}
use Rattle.sarif_match.specs.Internal.Paired.{key_at, rank, IsPairedAt}
use Rattle.sarif_match.proofs.PartsLemmas.{parts_same, parts_refl}
use Rattle.sarif_match.proofs.SplitLemmas.{HasPair, IsAbove, cons_first, cons_rest, nil_has_no_middle, none_is_no_some, filter-split, split-filter, slice_get-places, stands_in_places, pair_made, pair_found, rank-split}

-- result i is in a list with this key, after smaller and before greater numbers
pub record StandsAt (keyed : List (ℕ × KeyParts)) (i : ℕ) (key : KeyParts) : Type 0 where
  pub before : List (ℕ × KeyParts)
  pub after : List (ℕ × KeyParts)
  pub split : keyed ≡ before ++ ((i, key) ∷ after)
  pub below : AreNumberedBelow i before
  pub above : IsAbove i after

with_key-above : (n m : ℕ) (o : Option KeyParts) (keyed : List (ℕ × KeyParts)) → m < n → IsAbove m keyed → IsAbove m (with_key n o keyed)
with_key-above n m None keyed lt above = above
with_key-above n m (Some key) keyed lt above = (lt, above)

keyed_from-above : (tier : Tier) (n m : ℕ) (rs : List Record) → m < n → IsAbove m (keyed_from tier n rs)
keyed_from-above tier n m [] lt = tt
keyed_from-above tier n m (r ∷ rs) lt =
    with_key-above n m (key_of r tier) (keyed_from tier (suc n) rs) lt (keyed_from-above tier (suc n) m rs (omega arith))

stands_first : (n i : ℕ) (o : Option KeyParts) (rest : List (ℕ × KeyParts)) (key : KeyParts) → n ≡ i → o ≡ Some key → IsAbove n rest
    → StandsAt (with_key n o rest) i key
stands_first n i o rest key at is above = record {
  before = [];
  after = rest;
  split = ap (λ (k : Option KeyParts). with_key n k rest) is ∙ ap (λ (m : ℕ). (m, key) ∷ rest) at;
  below = tt;
  above = subst (λ (m : ℕ). IsAbove m rest) at above;
}

stands_behind : (n i : ℕ) (o : Option KeyParts) (rest : List (ℕ × KeyParts)) (key : KeyParts) → n < i → StandsAt rest i key → StandsAt (with_key n o rest) i key
stands_behind n i None rest key lt s = s
stands_behind n i (Some own) rest key lt s = record {
  before = (n, own) ∷ s.before;
  after = s.after;
  split = ap (λ (es : List (ℕ × KeyParts)). (n, own) ∷ es) s.split;
  below = (lt, s.below);
  above = s.above;
}

-- a result that has a key is among the results that have one
pub stands_keyed : (tier : Tier) (n i m : ℕ) (rs : List Record) (key : KeyParts) → i ≡ n + m → key_at tier rs m ≡ Some key
    → StandsAt (keyed_from tier n rs) i key
stands_keyed tier n i m [] key at is = absurd (none_is_no_some key is)
stands_keyed tier n i zero (r ∷ rs) key at is =
    stands_first n i (key_of r tier) (keyed_from tier (suc n) rs) key (omega arith) is (keyed_from-above tier (suc n) n rs (omega arith))
stands_keyed tier n i (suc m) (r ∷ rs) key at is =
    stands_behind n i (key_of r tier) (keyed_from tier (suc n) rs) key (omega arith) (stands_keyed tier (suc n) i m rs key (omega arith) is)

-- properties of a result among the results that have a key
pub record IsKeyed (tier : Tier) (n : ℕ) (rs : List Record) (before after : List (ℕ × KeyParts)) (i : ℕ) (key : KeyParts) : Type 0 where
  pub place : ℕ
  pub at : i ≡ n + place
  pub key_is : key_at tier rs place ≡ Some key
  pub below : AreNumberedBelow i before
  pub above : IsAbove i after

keyed_later : (tier : Tier) (n : ℕ) (r : Record) (rs : List Record) (before after : List (ℕ × KeyParts)) (i : ℕ) (key : KeyParts)
    → IsKeyed tier (suc n) rs before after i key → IsKeyed tier n (r ∷ rs) before after i key
keyed_later tier n r rs before after i key h =
    let was : i ≡ suc n + h.place = h.at in
    record { place = suc h.place; at = omega arith; key_is = h.key_is; below = h.below; above = h.above }

keyed_by : (tier : Tier) (n : ℕ) (r : Record) (rs : List Record) (o : Option KeyParts) (before after : List (ℕ × KeyParts)) (i : ℕ)
    (key : KeyParts) → key_of r tier ≡ o → with_key n o (keyed_from tier (suc n) rs) ≡ before ++ ((i, key) ∷ after)
    → ((front : List (ℕ × KeyParts)) → keyed_from tier (suc n) rs ≡ front ++ ((i, key) ∷ after) → IsKeyed tier (suc n) rs front after i key)
    → IsKeyed tier n (r ∷ rs) before after i key
keyed_by tier n r rs None before after i key is e rest = keyed_later tier n r rs before after i key (rest before e)
keyed_by tier n r rs (Some own) [] after i key is e rest =
    let first : ◌≡◌ {A = ℕ × KeyParts} (n, own) (i, key) = cons_first (n, own) (i, key) (keyed_from tier (suc n) rs) after e in
    let number : n ≡ i = ap (λ (x : ℕ × KeyParts). x.0) first in
    let same : own ≡ key = ap (λ (x : ℕ × KeyParts). x.1) first in
    let others : keyed_from tier (suc n) rs ≡ after = cons_rest (n, own) (i, key) (keyed_from tier (suc n) rs) after e in
    record {
      place = 0;
      at = omega arith;
      key_is = is ∙ ap Some same;
      below = tt;
      above = subst (λ (m : ℕ). IsAbove m after) number
          (subst (λ (es : List (ℕ × KeyParts)). IsAbove n es) others (keyed_from-above tier (suc n) n rs (omega arith)));
    }
keyed_by tier n r rs (Some own) (b ∷ before) after i key is e rest =
    let first : ◌≡◌ {A = ℕ × KeyParts} (n, own) b = cons_first (n, own) b (keyed_from tier (suc n) rs) (before ++ ((i, key) ∷ after)) e in
    let number : n ≡ b.0 = ap (λ (x : ℕ × KeyParts). x.0) first in
    let found = rest before (cons_rest (n, own) b (keyed_from tier (suc n) rs) (before ++ ((i, key) ∷ after)) e) in
    let was : i ≡ suc n + found.place = found.at in
    record { place = suc found.place; at = omega arith; key_is = found.key_is; below = (omega arith, found.below); above = found.above }

keyed_split : (tier : Tier) (n : ℕ) (rs : List Record) (before after : List (ℕ × KeyParts)) (i : ℕ) (key : KeyParts)
    → keyed_from tier n rs ≡ before ++ ((i, key) ∷ after) → IsKeyed tier n rs before after i key
keyed_split tier n [] before after i key e = absurd (nil_has_no_middle before (i, key) after e)
keyed_split tier n (r ∷ rs) before after i key e =
    keyed_by tier n r rs (key_of r tier) before after i key refl e (λ front e'. keyed_split tier (suc n) rs front after i key e')

-- the rank of a result whose left-over front is known
rank-front : (test : ℕ → Bool) (tier : Tier) (rs : List Record) (i : ℕ) (own key : KeyParts) (before after front : List (ℕ × KeyParts))
    → keyed_from tier 0 rs ≡ before ++ ((i, own) ∷ after) → AreNumberedBelow i before → IsAbove i after
    → filter (λ (e : ℕ × KeyParts). test e.0) before ≡ front → rank test key i (keyed_from tier 0 rs) ≡ length (places same_parts key front)
rank-front test tier rs i own key before after front split below above front_is =
    ap (rank test key i) split ∙ rank-split same_parts test key i own before after below above
    ∙ ap (λ (es : List (ℕ × KeyParts)). length (places same_parts key es)) front_is

-- what the rule pairs is among the pairs
pub pair-of : (current baseline : List Record) (partners : List (Option ℕ)) (tier : Tier) (i j : ℕ)
    → IsPairedAt current baseline partners tier i j → HasPair (pairs_at current baseline partners tier) i j
pair-of current baseline partners tier i j paired =
    let key = paired.key in
    let is_left = λ (e : ℕ × KeyParts). not (has_partner partners e.0) in
    let is_free = λ (e : ℕ × KeyParts). not (is_taken partners e.0) in
    let c = stands_keyed tier 0 i i current key (omega arith) paired.current_key in
    let b = stands_keyed tier 0 j j baseline key (omega arith) paired.baseline_key in
    let c_left : left partners (keyed_from tier 0 current) ≡ left partners c.before ++ ((i, key) ∷ left partners c.after) =
    ap (left partners) c.split ∙ filter-split is_left c.before (i, key) c.after (ap not paired.current_left) in
    let b_free : free partners (keyed_from tier 0 baseline) ≡ free partners b.before ++ ((j, key) ∷ free partners b.after) =
    ap (free partners) b.split ∙ filter-split is_free b.before (j, key) b.after (ap not paired.baseline_left) in
    let c_rank = rank-front (λ n. not (has_partner partners n)) tier current i key key c.before c.after (left partners c.before) c.split c.below c.above refl in
    let b_rank = rank-front (λ n. not (is_taken partners n)) tier baseline j key key b.before b.after (free partners b.before) b.split b.below b.above refl in
    let ranks : length (places same_parts key (left partners c.before)) ≡ length (places same_parts key (free partners b.before)) =
    sym c_rank ∙ paired.ranks ∙ b_rank in
    let found : slice_get (places same_parts key (free partners (keyed_from tier 0 baseline)))
    (length (places same_parts key (left partners c.before))) ≡ Some j =
    ap (λ (es : List (ℕ × KeyParts)). slice_get (places same_parts key es) (length (places same_parts key (left partners c.before)))) b_free
    ∙ ap (slice_get (places same_parts key (free partners b.before ++ ((j, key) ∷ free partners b.after)))) ranks
    ∙ slice_get-places same_parts key (free partners b.before) (j, key) (free partners b.after) (parts_refl key) in
    subst (λ (es : List (ℕ × KeyParts)). HasPair (pairs_from same_parts [] es (free partners (keyed_from tier 0 baseline))) i j)
    (sym c_left)
    (pair_made same_parts [] (left partners c.before) i key (left partners c.after) (free partners (keyed_from tier 0 baseline)) j found)

-- what is among the pairs is paired by the rule
pub paired-of : (current baseline : List Record) (partners : List (Option ℕ)) (tier : Tier) (i j : ℕ)
    → HasPair (pairs_at current baseline partners tier) i j → IsPairedAt current baseline partners tier i j
paired-of current baseline partners tier i j h =
    let is_left = λ (e : ℕ × KeyParts). not (has_partner partners e.0) in
    let is_free = λ (e : ℕ × KeyParts). not (is_taken partners e.0) in
    let pair = pair_found same_parts [] (left partners (keyed_from tier 0 current)) (free partners (keyed_from tier 0 baseline)) i j h in
    let key = pair.key in
    let c = split-filter is_left (keyed_from tier 0 current) pair.before (i, key) pair.after pair.split in
    let c_key = keyed_split tier 0 current c.before c.after i key c.split in
    let place = stands_in_places same_parts key (free partners (keyed_from tier 0 baseline)) (length (places same_parts key pair.before)) j pair.found in
    let b = split-filter is_free (keyed_from tier 0 baseline) place.before (j, place.own) place.after place.split in
    let b_key = keyed_split tier 0 baseline b.before b.after j place.own b.split in
    let same : place.own ≡ key = parts_same place.own key place.same in
    let c_at : c_key.place ≡ i = omega (arith, c_key.at) in
    let b_at : b_key.place ≡ j = omega (arith, b_key.at) in
    let c_rank = rank-front (λ n. not (has_partner partners n)) tier current i key key c.before c.after pair.before c.split c_key.below
    c_key.above c.front_is in
    let b_rank = rank-front (λ n. not (is_taken partners n)) tier baseline j place.own key b.before b.after place.before b.split b_key.below
    b_key.above b.front_is in
    record {
      key = key;
      current_key = ap (key_at tier current) (sym c_at) ∙ c_key.key_is;
      baseline_key = ap (key_at tier baseline) (sym b_at) ∙ b_key.key_is ∙ ap Some same;
      current_left = not-true (has_partner partners i) c.kept;
      baseline_left = not-true (is_taken partners j) b.kept;
      ranks = c_rank ∙ sym place.place ∙ sym b_rank;
    }
