-- The pairs of two joined lists of numbered keys, if the two have no key in common: they are the pairs of each list.
use Rattle.std.proofs.Common.{◌≡◌, ℕ, ◌+◌, ◌-◌, ◌<◌, ◌≤◌, zero, suc, Bool, true, false, cond, not, ◌||◌, List, [], ◌∷◌, ◌++◌, Option, Some, None, option_map, length, map, slice_get, slice_index_or, slice_set, is_some, ◌==◌, refl, sym, ap, ap₂, ◌∙◌, arith, append_assoc, append-nil, ⊎_elim, eq-eqb}
use Rattle.std.specs.Prelude.{filter}
use Rattle.std.specs.List.{AllByRecursion}
use Rattle.std.specs.Option.{option_map_or}
use Rattle.std.proofs.Math.Bool.{or-false}
use Rattle.std.proofs.Math.ListN.{get_or-append, length-set}
use Rattle.std.proofs.lemmas.Bool.{ne_eqb}
use Rattle.std.proofs.lemmas.Bool.Decides.{eqb_tells}
use Rattle.std.proofs.lemmas.List.{get_or-append-add, length-map, map-append, map-set, set-append_left, set-append_right}
use Rattle.std.proofs.lemmas.List.Elements.{filter-append}
use Rattle.std.proofs.lemmas.List.Folds.{list_any-append}
use Rattle.std.proofs.lemmas.Option.{slice_get-map}
use Rattle.sarif_match.specs.Pairing.{pairs_from, places, with_pair}
use Rattle.sarif_match.specs.Partners.{free, has_partner, is_taken, left, put_all}
use Rattle.sarif_match.specs.Internal.Fits.{Fits}
use Rattle.sarif_match.specs.Internal.Named.{AreNumberedBelow}
use Rattle.sarif_match.specs.Internal.Turned.{AreBelow}
use Rattle.sarif_match_laws.specs.ByTool.{moved}

-- pairs whose results follow a and b others
abbrev pub both_moved : ℕ → ℕ → List (ℕ × ℕ) → List (ℕ × ℕ)
both_moved a b [] = []
both_moved a b (p ∷ ps) = (a + p.0, b + p.1) ∷ both_moved a b ps

module _ {K : Type 0} where
  -- numbered keys that follow n others
  abbrev pub lift : ℕ → List (ℕ × K) → List (ℕ × K)
  lift n [] = []
  lift n (e ∷ es) = (n + e.0, e.1) ∷ lift n es

  lift-append : (n : ℕ) (es fs : List (ℕ × K)) → lift n (es ++ fs) ≡ lift n es ++ lift n fs
  lift-append n [] fs = refl
  lift-append n (e ∷ es) fs = ap (λ l. (n + e.0, e.1) ∷ l) (lift-append n es fs)

  filter_below : (m : ℕ) (p q : ℕ → Bool) → ((i : ℕ) → i < m → p i ≡ q i) → (es : List (ℕ × K)) → AreNumberedBelow m es
      → filter (λ e. not (p e.0)) es ≡ filter (λ e. not (q e.0)) es
  filter_below m p q same [] below = refl
  filter_below m p q same (e ∷ es) below =
      ap (λ b. cond (not b) (e ∷ filter (λ (e : ℕ × K). not (p e.0)) es) (filter (λ (e : ℕ × K). not (p e.0)) es)) (same e.0 below.0)
      ∙ ap (λ l. cond (not (q e.0)) (e ∷ l) l) (filter_below m p q same es below.1)

  filter_lift : (n : ℕ) (p q : ℕ → Bool) → ((i : ℕ) → p (n + i) ≡ q i) → (es : List (ℕ × K))
      → filter (λ e. not (p e.0)) (lift n es) ≡ lift n (filter (λ e. not (q e.0)) es)
  filter_lift n p q same [] = refl
  filter_lift n p q same (e ∷ es) =
      ap (λ b. cond (not b) ((n + e.0, e.1) ∷ filter (λ (e : ℕ × K). not (p e.0)) (lift n es)) (filter (λ (e : ℕ × K). not (p e.0)) (lift n es)))
      (same e.0)
      ∙ by_test (q e.0) (filter_lift n p q same es)
    where
      by_test : (b : Bool) → filter (λ e. not (p e.0)) (lift n es) ≡ lift n (filter (λ e. not (q e.0)) es)
          → cond (not b) ((n + e.0, e.1) ∷ filter (λ e. not (p e.0)) (lift n es)) (filter (λ e. not (p e.0)) (lift n es))
          ≡ lift n (cond (not b) (e ∷ filter (λ e. not (q e.0)) es) (filter (λ e. not (q e.0)) es))
      by_test true rest = rest
      by_test false rest = ap (λ l. (n + e.0, e.1) ∷ l) rest

-- ---- pairs

with_pair-append : (i : ℕ) (o : Option ℕ) (ps qs : List (ℕ × ℕ)) → with_pair i o (ps ++ qs) ≡ with_pair i o ps ++ qs
with_pair-append i None ps qs = refl
with_pair-append i (Some j) ps qs = refl

with_pair_moved : (a b i : ℕ) (o : Option ℕ) (ps : List (ℕ × ℕ))
    → with_pair (a + i) (option_map (λ j. b + j) o) (both_moved a b ps) ≡ both_moved a b (with_pair i o ps)
with_pair_moved a b i None ps = refl
with_pair_moved a b i (Some j) ps = refl

module _ {K : Type 0} (eq : K → K → Bool) where
  -- none of these has a key of the others
  abbrev pub AreForeign : List (ℕ × K) → List (ℕ × K) → Type 0
  AreForeign es fs = AllByRecursion (λ e. places eq e.1 fs ≡ []) es

  places_both : (k : K) (xs ys : List (ℕ × K)) → places eq k (xs ++ ys) ≡ places eq k xs ++ places eq k ys
  places_both k xs ys =
      ap (map (λ (e : ℕ × K). e.0)) (filter-append (λ (e : ℕ × K). eq e.1 k) xs ys)
      ∙ map-append (λ (e : ℕ × K). e.0) (filter (λ (e : ℕ × K). eq e.1 k) xs) (filter (λ (e : ℕ × K). eq e.1 k) ys)

  pub places_lift : (k : K) (n : ℕ) (es : List (ℕ × K)) → places eq k (lift n es) ≡ map (λ i. n + i) (places eq k es)
  places_lift k n [] = refl
  places_lift k n (e ∷ es) = by_test (eq e.1 k) (places_lift k n es)
    where
      by_test : (b : Bool) → places eq k (lift n es) ≡ map (λ i. n + i) (places eq k es)
          → map (λ (x : ℕ × K). x.0) (cond b ((n + e.0, e.1) ∷ filter (λ (x : ℕ × K). eq x.1 k) (lift n es)) (filter (λ (x : ℕ × K). eq x.1 k) (lift n es)))
          ≡ map (λ i. n + i) (map (λ (x : ℕ × K). x.0) (cond b (e ∷ filter (λ (x : ℕ × K). eq x.1 k) es) (filter (λ (x : ℕ × K). eq x.1 k) es)))
      by_test true rest = ap (λ l. (n + e.0) ∷ l) rest
      by_test false rest = rest

  pairs_first : (seen es more fs gs : List (ℕ × K)) → AreForeign es gs
      → pairs_from eq seen (es ++ more) (fs ++ gs) ≡ pairs_from eq seen es fs ++ pairs_from eq (seen ++ es) more (fs ++ gs)
  pairs_first seen [] more fs gs foreign = ap (λ l. pairs_from eq l more (fs ++ gs)) (sym (append-nil seen))
  pairs_first seen (e ∷ es) more fs gs foreign =
      let next : List (ℕ × K) = seen ++ e ∷ [] in
      let rank = length (places eq e.1 seen) in
      ap (λ l. with_pair e.0 (slice_get l rank) (pairs_from eq next (es ++ more) (fs ++ gs)))
      (places_both e.1 fs gs ∙ ap (λ l. places eq e.1 fs ++ l) foreign.0 ∙ append-nil (places eq e.1 fs))
      ∙ ap (with_pair e.0 (slice_get (places eq e.1 fs) rank))
      (pairs_first next es more fs gs foreign.1
      ∙ ap (λ l. pairs_from eq next es fs ++ pairs_from eq l more (fs ++ gs)) (append_assoc seen (e ∷ []) es))
      ∙ with_pair-append e.0 (slice_get (places eq e.1 fs) rank) (pairs_from eq next es fs) (pairs_from eq (seen ++ e ∷ es) more (fs ++ gs))

  pairs_second : (a b : ℕ) (front seen es fs gs : List (ℕ × K)) → AreForeign es front → AreForeign es fs
      → pairs_from eq (front ++ lift a seen) (lift a es) (fs ++ lift b gs) ≡ both_moved a b (pairs_from eq seen es gs)
  pairs_second a b front seen [] fs gs before others = refl
  pairs_second a b front seen (e ∷ es) fs gs before others =
      let own : List (ℕ × K) = (a + e.0, e.1) ∷ [] in
      let rank = length (places eq e.1 seen) in
      let many : length (places eq e.1 (front ++ lift a seen)) ≡ rank =
      ap length (places_both e.1 front (lift a seen) ∙ ap (λ l. l ++ places eq e.1 (lift a seen)) before.0 ∙ places_lift e.1 a seen)
      ∙ length-map (places eq e.1 seen) (λ i. a + i) in
      let there : places eq e.1 (fs ++ lift b gs) ≡ map (λ j. b + j) (places eq e.1 gs) =
      places_both e.1 fs (lift b gs) ∙ ap (λ l. l ++ places eq e.1 (lift b gs)) others.0 ∙ places_lift e.1 b gs in
      let next : (front ++ lift a seen) ++ own ≡ front ++ lift a (seen ++ e ∷ []) =
      append_assoc front (lift a seen) own ∙ ap (λ l. front ++ l) (sym (lift-append a seen (e ∷ []))) in
      ap₂ (λ l n. with_pair (a + e.0) (slice_get l n) (pairs_from eq ((front ++ lift a seen) ++ own) (lift a es) (fs ++ lift b gs))) there many
      ∙ ap₂ (λ o rest. with_pair (a + e.0) o rest) (slice_get-map (λ j. b + j) (places eq e.1 gs) rank)
      (ap (λ l. pairs_from eq l (lift a es) (fs ++ lift b gs)) next ∙ pairs_second a b front (seen ++ e ∷ []) es fs gs before.1 others.1)
      ∙ with_pair_moved a b e.0 (slice_get (places eq e.1 gs) rank) (pairs_from eq (seen ++ e ∷ []) es gs)

  pub pairs_of_both : (a b : ℕ) (es more fs gs : List (ℕ × K)) → AreForeign es (lift b gs) → AreForeign more es → AreForeign more fs
      → pairs_from eq [] (es ++ lift a more) (fs ++ lift b gs) ≡ pairs_from eq [] es fs ++ both_moved a b (pairs_from eq [] more gs)
  pairs_of_both a b es more fs gs first second third =
      pairs_first [] es (lift a more) fs (lift b gs) first
      ∙ ap (λ l. pairs_from eq [] es fs ++ l)
      (ap (λ l. pairs_from eq l (lift a more) (fs ++ lift b gs)) (sym (append-nil es)) ∙ pairs_second a b es [] more fs gs second third)

-- ---- matches

pub get_moved : (n : ℕ) (qs : List (Option ℕ)) (i : ℕ) → slice_index_or (moved n qs) i None ≡ option_map (λ j. n + j) (slice_index_or qs i None)
get_moved n [] i = refl
get_moved n (q ∷ qs) zero = refl
get_moved n (q ∷ qs) (suc i) = get_moved n qs i

still_some : (n : ℕ) (o : Option ℕ) → is_some (option_map (λ j. n + j) o) ≡ is_some o
still_some n None = refl
still_some n (Some j) = refl

module _ (ps : List (Option ℕ)) (n : ℕ) (qs : List (Option ℕ)) where
  has_front : (i : ℕ) → i < length ps → has_partner (ps ++ moved n qs) i ≡ has_partner ps i
  has_front i lt = ap is_some (get_or-append ps (moved n qs) None i lt)

  has_back : (i : ℕ) → has_partner (ps ++ moved n qs) (length ps + i) ≡ has_partner qs i
  has_back i = ap is_some (get_or-append-add ps (moved n qs) i None ∙ get_moved n qs i) ∙ still_some n (slice_index_or qs i None)

abbrev is_at : ℕ → Option ℕ → Bool
is_at j partner = option_map_or (λ (taken : ℕ). taken == j) partner false

not_moved : (n j : ℕ) (qs : List (Option ℕ)) → j < n → is_taken (moved n qs) j ≡ false
not_moved n j [] lt = refl
not_moved n j (None ∷ qs) lt = not_moved n j qs lt
not_moved n j (Some t ∷ qs) lt = ap (λ b. b || is_taken (moved n qs) j) (ne_eqb (n + t) j (λ same. omega (arith, lt, same))) ∙ not_moved n j qs lt

not_below : (n j : ℕ) (ps : List (Option ℕ)) → AreBelow n ps → is_taken ps (n + j) ≡ false
not_below n j [] below = refl
not_below n j (None ∷ ps) below = not_below n j ps below.1
not_below n j (Some t ∷ ps) below =
    let lt : t < n = below.0 in
    ap (λ b. b || is_taken ps (n + j)) (ne_eqb t (n + j) (λ same. omega (arith, lt, same))) ∙ not_below n j ps below.1

eq_moved : (n t j : ℕ) → ((n + t) == (n + j)) ≡ (t == j)
eq_moved n t j =
    ⊎_elim (λ e. eq-eqb (n + t) (n + j) (ap (λ k. n + k) e.1) ∙ sym e.0)
    (λ e. ne_eqb (n + t) (n + j) (λ same. e.1 (omega (arith, same))) ∙ sym e.0) (eqb_tells t j)

moved_taken : (n j : ℕ) (qs : List (Option ℕ)) → is_taken (moved n qs) (n + j) ≡ is_taken qs j
moved_taken n j [] = refl
moved_taken n j (None ∷ qs) = moved_taken n j qs
moved_taken n j (Some t ∷ qs) = ap₂ (λ a b. a || b) (eq_moved n t j) (moved_taken n j qs)

module _ (ps : List (Option ℕ)) (n : ℕ) (qs : List (Option ℕ)) where
  pub taken_front : (j : ℕ) → j < n → is_taken (ps ++ moved n qs) j ≡ is_taken ps j
  taken_front j lt =
      list_any-append (is_at j) ps (moved n qs) ∙ ap (λ b. is_taken ps j || b) (not_moved n j qs lt) ∙ or-false (is_taken ps j)

  pub taken_back : AreBelow n ps → (j : ℕ) → is_taken (ps ++ moved n qs) (n + j) ≡ is_taken qs j
  taken_back below j =
      list_any-append (is_at (n + j)) ps (moved n qs) ∙ ap (λ b. b || is_taken (moved n qs) (n + j)) (not_below n j ps below) ∙ moved_taken n j qs

  module _ {K : Type 0} where
    pub left_both : (es fs : List (ℕ × K)) → AreNumberedBelow (length ps) es
        → left (ps ++ moved n qs) (es ++ lift (length ps) fs) ≡ left ps es ++ lift (length ps) (left qs fs)
    left_both es fs below =
        filter-append (λ (e : ℕ × K). not (has_partner (ps ++ moved n qs) e.0)) es (lift (length ps) fs)
        ∙ ap₂ (λ l r. l ++ r) (filter_below (length ps) (has_partner (ps ++ moved n qs)) (has_partner ps) (has_front ps n qs) es below)
        (filter_lift (length ps) (has_partner (ps ++ moved n qs)) (has_partner qs) (has_back ps n qs) fs)

    pub free_both : (es fs : List (ℕ × K)) → AreNumberedBelow n es → AreBelow n ps
        → free (ps ++ moved n qs) (es ++ lift n fs) ≡ free ps es ++ lift n (free qs fs)
    free_both es fs below within =
        filter-append (λ (e : ℕ × K). not (is_taken (ps ++ moved n qs) e.0)) es (lift n fs)
        ∙ ap₂ (λ l r. l ++ r) (filter_below n (is_taken (ps ++ moved n qs)) (is_taken ps) taken_front es below)
        (filter_lift n (is_taken (ps ++ moved n qs)) (is_taken qs) (taken_back within) fs)

-- ---- pairs that are put into matches

put-append : (ps : List (Option ℕ)) (xs ys : List (ℕ × ℕ)) → put_all ps (xs ++ ys) ≡ put_all (put_all ps xs) ys
put-append ps [] ys = refl
put-append ps (x ∷ xs) ys = put-append (slice_set ps x.0 (Some x.1)) xs ys

put_front : (m : ℕ) (ps rest : List (Option ℕ)) (xs : List (ℕ × ℕ)) → Fits m ps xs → put_all (ps ++ rest) xs ≡ put_all ps xs ++ rest
put_front m ps rest [] fits = refl
put_front m ps rest (x ∷ xs) fits =
    ap (λ l. put_all l xs) (set-append_left ps rest x.0 (Some x.1) fits.0) ∙ put_front m (slice_set ps x.0 (Some x.1)) rest xs fits.3

set_back : (ps qs : List (Option ℕ)) (i : ℕ) (v : Option ℕ) → slice_set (ps ++ qs) (length ps + i) v ≡ ps ++ slice_set qs i v
set_back ps qs i v =
    let le : length ps ≤ length ps + i = omega arith in
    let back : length ps + i - length ps ≡ i = omega arith in
    set-append_right ps qs (length ps) (length ps + i) v refl le ∙ ap (λ k. ps ++ slice_set qs k v) back

put_back : (ps : List (Option ℕ)) (n : ℕ) (qs : List (Option ℕ)) (xs : List (ℕ × ℕ))
    → put_all (ps ++ moved n qs) (both_moved (length ps) n xs) ≡ ps ++ moved n (put_all qs xs)
put_back ps n qs [] = refl
put_back ps n qs (x ∷ xs) =
    ap (λ l. put_all l (both_moved (length ps) n xs))
    (set_back ps (moved n qs) x.0 (Some (n + x.1)) ∙ ap (λ l. ps ++ l) (sym (map-set (option_map (λ j. n + j)) qs x.0 (Some x.1))))
    ∙ put_back ps n (slice_set qs x.0 (Some x.1)) xs

put_long : (ps : List (Option ℕ)) (xs : List (ℕ × ℕ)) → length (put_all ps xs) ≡ length ps
put_long ps [] = refl
put_long ps (x ∷ xs) = put_long (slice_set ps x.0 (Some x.1)) xs ∙ length-set ps x.0 (Some x.1)

pub put_both : (m : ℕ) (ps : List (Option ℕ)) (n : ℕ) (qs : List (Option ℕ)) (xs ys : List (ℕ × ℕ)) → Fits m ps xs
    → put_all (ps ++ moved n qs) (xs ++ both_moved (length ps) n ys) ≡ put_all ps xs ++ moved n (put_all qs ys)
put_both m ps n qs xs ys fits =
    put-append (ps ++ moved n qs) xs (both_moved (length ps) n ys)
    ∙ ap (λ l. put_all l (both_moved (length ps) n ys)) (put_front m ps (moved n qs) xs fits)
    ∙ ap (λ k. put_all (put_all ps xs ++ moved n qs) (both_moved k n ys)) (sym (put_long ps xs))
    ∙ put_back (put_all ps xs) n qs ys

set_below : (m : ℕ) (ps : List (Option ℕ)) (i j : ℕ) → AreBelow m ps → j < m → AreBelow m (slice_set ps i (Some j))
set_below m [] i j below lt = tt
set_below m (p ∷ ps) zero j below lt = (lt, below.1)
set_below m (p ∷ ps) (suc i) j below lt = (below.0, set_below m ps i j below.1 lt)

pub put_below : (m : ℕ) (ps : List (Option ℕ)) (xs : List (ℕ × ℕ)) → Fits m ps xs → AreBelow m ps → AreBelow m (put_all ps xs)
put_below m ps [] fits below = below
put_below m ps (x ∷ xs) fits below = put_below m (slice_set ps x.0 (Some x.1)) xs fits.3 (set_below m ps x.0 x.1 below fits.2)
