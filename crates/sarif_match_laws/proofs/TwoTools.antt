-- The matches of two joined lists of results are those of each list, if the tools of the two differ.
use Rattle.std.proofs.Common.{◌≡◌, ℕ, ◌+◌, zero, suc, Bool, true, false, cond, not, List, [], ◌∷◌, ◌++◌, Option, Some, None, bytes_eq, fold, length, map, replicate, refl, sym, ap, ap₂, ◌∙◌, arith, length-append, true≢false}
use Rattle.std.specs.Prelude.{filter}
use Rattle.std.specs.List.{AllByRecursion}
use Rattle.std.proofs.lemmas.Bool.{or_parts}
use Rattle.std.proofs.lemmas.List.{length-replicate, replicate-append-replicate}
use Rattle.std.proofs.lemmas.Slice.Eq.{bytes_eq-Decides}
use Rattle.sarif_model.specs.declared.record.Record.{Record}
use Rattle.sarif_match.specs.declared.tier.Tier.{Tier}
use Rattle.sarif_match.specs.Key.{key_of}
use Rattle.sarif_match.specs.KeyParts.{KeyParts, same_parts}
use Rattle.sarif_match.specs.Pairing.{pairs_from, places}
use Rattle.sarif_match.specs.Partners.{after_tier, free, has_partner, is_taken, keyed_from, left, pairs_at, partners_after, put_all, with_key}
use Rattle.sarif_match.specs.Internal.Turned.{AreBelow}
use Rattle.sarif_match.proofs.FitsLemmas.{Fits-pairs_at}
use Rattle.sarif_match.proofs.LawLemmas.{after_counted}
use Rattle.sarif_match.proofs.NamedLemmas.{AreNumberedBelow-keyed_from, with_key-append}
use Rattle.sarif_match.proofs.PartsLemmas.{parts_same}
use Rattle.sarif_match_laws.proofs.Keyed.{filter_swap, key_tool, tool_in}
use Rattle.sarif_match_laws.proofs.Shifted.{AreForeign, free_both, left_both, lift, pairs_of_both, places_lift, put_below, put_both}
use Rattle.sarif_match_laws.specs.ByTool.{has_tool, moved}

-- each of these results is of a tool of none of the others
abbrev pub AreOfOthers : List Record → List Record → Type 0
AreOfOthers rs others = AllByRecursion (λ r. has_tool r.tool others ≡ false) rs

-- ---- keys of one list after another

keyed_both : (tier : Tier) (n : ℕ) (rs ss : List Record) → keyed_from tier n (rs ++ ss) ≡ keyed_from tier n rs ++ keyed_from tier (n + length rs) ss
keyed_both tier n [] ss = let same : n ≡ n + 0 = omega arith in ap (λ k. keyed_from tier k ss) same
keyed_both tier n (r ∷ rs) ss =
    let same : suc n + length rs ≡ n + suc (length rs) = omega arith in
    ap (with_key n (key_of r tier)) (keyed_both tier (suc n) rs ss ∙ ap (λ k. keyed_from tier (suc n) rs ++ keyed_from tier k ss) same)
    ∙ with_key-append n (key_of r tier) (keyed_from tier (suc n) rs) (keyed_from tier (n + suc (length rs)) ss)

with_key_lift : {K : Type 0} (n m : ℕ) (o : Option K) (es : List (ℕ × K)) → with_key (n + m) o (lift n es) ≡ lift n (with_key m o es)
with_key_lift n m None es = refl
with_key_lift n m (Some k) es = refl

keyed_lift : (tier : Tier) (n m : ℕ) (rs : List Record) → keyed_from tier (n + m) rs ≡ lift n (keyed_from tier m rs)
keyed_lift tier n m [] = refl
keyed_lift tier n m (r ∷ rs) =
    let same : suc (n + m) ≡ n + suc m = omega arith in
    ap (λ k. with_key (n + m) (key_of r tier) (keyed_from tier k rs)) same
    ∙ ap (with_key (n + m) (key_of r tier)) (keyed_lift tier n (suc m) rs)
    ∙ with_key_lift n m (key_of r tier) (keyed_from tier (suc m) rs)

keyed_after : (tier : Tier) (n : ℕ) (rs ss : List Record) → length rs ≡ n
    → keyed_from tier 0 (rs ++ ss) ≡ keyed_from tier 0 rs ++ lift n (keyed_from tier 0 ss)
keyed_after tier n rs ss long =
    let same : 0 + length rs ≡ n + 0 = omega (arith, long) in
    keyed_both tier 0 rs ss ∙ ap (λ k. keyed_from tier 0 rs ++ keyed_from tier k ss) same
    ∙ ap (λ l. keyed_from tier 0 rs ++ l) (keyed_lift tier n 0 ss)

-- ---- no key of one list is in the other

module _ (k : KeyParts) where
  abbrev has_key : ℕ × KeyParts → Bool
  has_key e = same_parts e.1 k

  not_this : (tier : Tier) (n : ℕ) (r : Record) (o : Option KeyParts) (es : List (ℕ × KeyParts)) → key_of r tier ≡ o
      → bytes_eq r.tool (tool_in k) ≡ false → filter has_key es ≡ [] → filter has_key (with_key n o es) ≡ []
  not_this tier n r None es is other rest = rest
  not_this tier n r (Some key) es is other rest = by_test (same_parts key k) refl
    where
      by_test : (b : Bool) → same_parts key k ≡ b → cond b ((n, key) ∷ filter has_key es) (filter has_key es) ≡ []
      by_test true same =
          let tool : r.tool ≡ tool_in k = sym (key_tool r tier key is) ∙ ap tool_in (parts_same key k same) in
          absurd (true≢false (sym ((bytes_eq-Decides r.tool (tool_in k)).1 tool) ∙ other))
      by_test false same = rest

  none_keyed : (tier : Tier) (n : ℕ) (rs : List Record) → has_tool (tool_in k) rs ≡ false → filter has_key (keyed_from tier n rs) ≡ []
  none_keyed tier n [] none = refl
  none_keyed tier n (r ∷ rs) none =
      let parts = or_parts (bytes_eq r.tool (tool_in k)) (has_tool (tool_in k) rs) none in
      not_this tier n r (key_of r tier) (keyed_from tier (suc n) rs) refl parts.0 (none_keyed tier (suc n) rs parts.1)

  none_there : (p : ℕ × KeyParts → Bool) (tier : Tier) (n : ℕ) (rs : List Record) → has_tool (tool_in k) rs ≡ false
      → places same_parts k (filter p (keyed_from tier n rs)) ≡ []
  none_there p tier n rs none =
      ap (map (λ (e : ℕ × KeyParts). e.0)) (filter_swap has_key p (keyed_from tier n rs) ∙ ap (filter p) (none_keyed tier n rs none))

with_other : (others : List Record) (tier : Tier) (n : ℕ) (r : Record) (o : Option KeyParts) (es : List (ℕ × KeyParts)) → key_of r tier ≡ o
    → has_tool r.tool others ≡ false → AllByRecursion (λ e. has_tool (tool_in e.1) others ≡ false) es
    → AllByRecursion (λ e. has_tool (tool_in e.1) others ≡ false) (with_key n o es)
with_other others tier n r None es is other rest = rest
with_other others tier n r (Some key) es is other rest = (ap (λ t. has_tool t others) (key_tool r tier key is) ∙ other, rest)

keyed_others : (tier : Tier) (n : ℕ) (rs others : List Record) → AreOfOthers rs others
    → AllByRecursion (λ e. has_tool (tool_in e.1) others ≡ false) (keyed_from tier n rs)
keyed_others tier n [] others apart = tt
keyed_others tier n (r ∷ rs) others apart =
    with_other others tier n r (key_of r tier) (keyed_from tier (suc n) rs) refl apart.0 (keyed_others tier (suc n) rs others apart.1)

all_filter : {X : Type 0} (P Q : X → Type 0) (p : X → Bool) (xs : List X) → ((x : X) → P x → Q x) → AllByRecursion P xs → AllByRecursion Q (filter p xs)
all_filter P Q p [] so all = tt
all_filter P Q p (x ∷ xs) so all = by_test (p x) (all_filter P Q p xs so all.1)
  where
    by_test : (b : Bool) → AllByRecursion Q (filter p xs) → AllByRecursion Q (cond b (x ∷ filter p xs) (filter p xs))
    by_test true rest = (so x all.0, rest)
    by_test false rest = rest

module _ (tier : Tier) (rs others : List Record) (apart : AreOfOthers rs others) (p q : ℕ × KeyParts → Bool) where
  foreign : AreForeign same_parts (filter p (keyed_from tier 0 rs)) (filter q (keyed_from tier 0 others))
  foreign =
      all_filter (λ e. has_tool (tool_in e.1) others ≡ false) (λ e. places same_parts e.1 (filter q (keyed_from tier 0 others)) ≡ []) p
      (keyed_from tier 0 rs) (λ e none. none_there e.1 q tier 0 others none) (keyed_others tier 0 rs others apart)

  foreign_lifted : (n : ℕ) → AreForeign same_parts (filter p (keyed_from tier 0 rs)) (lift n (filter q (keyed_from tier 0 others)))
  foreign_lifted n =
      all_filter (λ e. has_tool (tool_in e.1) others ≡ false)
      (λ e. places same_parts e.1 (lift n (filter q (keyed_from tier 0 others))) ≡ []) p (keyed_from tier 0 rs)
      (λ e none. places_lift same_parts e.1 n (filter q (keyed_from tier 0 others)) ∙ ap (map (λ i. n + i)) (none_there e.1 q tier 0 others none))
      (keyed_others tier 0 rs others apart)

-- ---- tier by tier

nobody_moved : (n k : ℕ) → moved n (replicate k None) ≡ replicate k None
nobody_moved n zero = refl
nobody_moved n (suc k) = ap (λ l. None ∷ l) (nobody_moved n k)

module _ (cs bs more gs : List Record) (first : AreOfOthers cs gs) (second : AreOfOthers more cs) (third : AreOfOthers more bs) where
  after_both : (tier : Tier) (ps qs : List (Option ℕ)) → length ps ≡ length cs → AreBelow (length bs) ps
      → after_tier (cs ++ more) (bs ++ gs) (ps ++ moved (length bs) qs) tier
      ≡ after_tier cs bs ps tier ++ moved (length bs) (after_tier more gs qs tier)
  after_both tier ps qs long below =
      let n = length bs in
      let all = ps ++ moved n qs in
      let lefts : left all (keyed_from tier 0 (cs ++ more))
      ≡ left ps (keyed_from tier 0 cs) ++ lift (length ps) (left qs (keyed_from tier 0 more)) =
      ap (left all) (keyed_after tier (length ps) cs more (sym long))
      ∙ left_both ps n qs (keyed_from tier 0 cs) (keyed_from tier 0 more) (AreNumberedBelow-keyed_from tier 0 (length ps) cs (omega (arith, long))) in
      let frees : free all (keyed_from tier 0 (bs ++ gs)) ≡ free ps (keyed_from tier 0 bs) ++ lift n (free qs (keyed_from tier 0 gs)) =
      ap (free all) (keyed_after tier n bs gs refl)
      ∙ free_both ps n qs (keyed_from tier 0 bs) (keyed_from tier 0 gs) (AreNumberedBelow-keyed_from tier 0 n bs (omega arith)) below in
      ap₂ (λ l f. put_all all (pairs_from same_parts [] l f)) lefts frees
      ∙ ap (put_all all)
      (pairs_of_both same_parts (length ps) n (left ps (keyed_from tier 0 cs)) (left qs (keyed_from tier 0 more)) (free ps (keyed_from tier 0 bs))
      (free qs (keyed_from tier 0 gs))
      (foreign_lifted tier cs gs first (λ e. not (has_partner ps e.0)) (λ e. not (is_taken qs e.0)) n)
      (foreign tier more cs second (λ e. not (has_partner qs e.0)) (λ e. not (has_partner ps e.0)))
      (foreign tier more bs third (λ e. not (has_partner qs e.0)) (λ e. not (is_taken ps e.0))))
      ∙ put_both n ps n qs (pairs_at cs bs ps tier) (pairs_at more gs qs tier) (Fits-pairs_at cs bs ps tier long)

  after_below : (tier : Tier) (ps : List (Option ℕ)) → length ps ≡ length cs → AreBelow (length bs) ps → AreBelow (length bs) (after_tier cs bs ps tier)
  after_below tier ps long below = put_below (length bs) ps (pairs_at cs bs ps tier) (Fits-pairs_at cs bs ps tier long) below

  fold_both : (tiers : List Tier) (ps qs : List (Option ℕ)) → length ps ≡ length cs → AreBelow (length bs) ps
      → fold (after_tier (cs ++ more) (bs ++ gs)) (ps ++ moved (length bs) qs) tiers
      ≡ fold (after_tier cs bs) ps tiers ++ moved (length bs) (fold (after_tier more gs) qs tiers)
  fold_both [] ps qs long below = refl
  fold_both (tier ∷ tiers) ps qs long below =
      ap (λ l. fold (after_tier (cs ++ more) (bs ++ gs)) l tiers) (after_both tier ps qs long below)
      ∙ fold_both tiers (after_tier cs bs ps tier) (after_tier more gs qs tier) (after_counted cs bs ps tier long) (after_below tier ps long below)

  nobody_below : (k : ℕ) → AreBelow (length bs) (replicate k None)
  nobody_below zero = tt
  nobody_below (suc k) = (tt, nobody_below k)

  pub partners_both : (tiers : List Tier)
      → partners_after (cs ++ more) (bs ++ gs) tiers ≡ partners_after cs bs tiers ++ moved (length bs) (partners_after more gs tiers)
  partners_both tiers =
      ap (λ l. fold (after_tier (cs ++ more) (bs ++ gs)) l tiers)
      (ap (λ k. replicate k None) (length-append cs more) ∙ sym (replicate-append-replicate (length cs) (length more) None)
      ∙ ap (λ l. replicate (length cs) None ++ l) (sym (nobody_moved (length bs) (length more))))
      ∙ fold_both tiers (replicate (length cs) None) (replicate (length more) None) (length-replicate (length cs) None) (nobody_below (length cs))
