-- The listed results are sorted, and those of one level are in the order of the log.
use Rattle.std.proofs.Common.{◌≡◌, ◌==◌, ◌≤◌, ◌+◌, ◌*◌, ◌-◌, ◌++◌, ℕ, suc, Bool, true, false, ◌&&◌, cond, List, [], ◌∷◌, AllPairs, get_or, ap, ap₂, sym, refl, ◌∙◌, append-nil, arith}
use Rattle.std.specs.List.{All, filter}
use mathlib.Core.Bool.{and-false}
use Rattle.std.proofs.lemmas.Bool.{and_parts, eqb-true, false_from_ne_true, true≢false}
use Rattle.std.proofs.lemmas.List.Elements.{All-append, All-filter, filter-append, filter_passes}
use Rattle.std.proofs.lemmas.List.Kept.{AllPairs-cons}
use Rattle.sarif_model.specs.declared.kinds.Level.{Level}
use Rattle.sarif_model.specs.declared.kinds.Level.TheVariants.{NoLevel, Note, Warning, Error}
use Rattle.sarif_model.specs.Level.{severity}
use Rattle.sarif_counts.specs.declared.gate_verdict.Impact.{Impact}
use Rattle.sarif_counts.specs.declared.gate_verdict.Impact.TheVariants as impacts
use Rattle.sarif_findings.specs.declared.finding.Finding.{Finding}
use Rattle.sarif_shown.specs.Listed.{by_level, does, doing, hits_among, listed, of_level, others_among, weight}
use Rattle.sarif_shown.specs.ListedLaws.{MayPrecede, of_standing}

-- ---- the order within a level

same_kept : (p q : Finding → Bool) → ((f : Finding) → p f ≡ true → q f ≡ true) → (fs : List Finding) → filter p (filter q fs) ≡ filter p fs
same_kept p q h [] = refl
same_kept p q h (f ∷ fs) = by (q f) refl (same_kept p q h fs)
  where
    by : (b : Bool) → q f ≡ b → filter p (filter q fs) ≡ filter p fs
        → filter p (cond b (f ∷ filter q fs) (filter q fs)) ≡ cond (p f) (f ∷ filter p fs) (filter p fs)
    by true e rest = ap (λ l. cond (p f) (f ∷ l) l) rest
    by false e rest =
        rest ∙ sym (ap (λ b. cond b (f ∷ filter p fs) (filter p fs)) (false_from_ne_true (p f) (λ t. true≢false (sym (h f t) ∙ e))))

none_kept : (p q : Finding → Bool) → ((f : Finding) → q f ≡ true → p f ≡ false) → (fs : List Finding) → filter p (filter q fs) ≡ []
none_kept p q h [] = refl
none_kept p q h (f ∷ fs) = by (q f) refl (none_kept p q h fs)
  where
    by : (b : Bool) → q f ≡ b → filter p (filter q fs) ≡ [] → filter p (cond b (f ∷ filter q fs) (filter q fs)) ≡ []
    by true e rest = ap (λ b. cond b (f ∷ filter p (filter q fs)) (filter p (filter q fs))) (h f e) ∙ rest
    by false e rest = rest

abbrev stands : Impact → Level → Finding → Bool
stands i l f = does i f && severity f.level == severity l

own_level : (i : Impact) (l : Level) (fs : List Finding) → filter (stands i l) (of_level l fs) ≡ filter (stands i l) fs
own_level i l fs =
    same_kept (stands i l) (λ f. severity f.level == severity l) (λ f e. (and_parts (does i f) (severity f.level == severity l) e).1) fs

other_level : (i : Impact) (l k : Level) (fs : List Finding) → (severity k == severity l) ≡ false → filter (stands i l) (of_level k fs) ≡ []
other_level i l k fs apart =
    none_kept (stands i l) (λ f. severity f.level == severity k)
    (λ f e. ap (λ b. does i f && b) (ap (λ n. n == severity l) (eqb-true (severity f.level) (severity k) e) ∙ apart) ∙ and-false (does i f)) fs

four_kept : (p : Finding → Bool) (a b c d e f g h : List Finding) → filter p a ≡ e → filter p b ≡ f → filter p c ≡ g → filter p d ≡ h
    → filter p (a ++ (b ++ (c ++ d))) ≡ e ++ (f ++ (g ++ h))
four_kept p a b c d e f g h ae bf cg dh =
    filter-append p a (b ++ (c ++ d))
    ∙ ap₂ (λ x y. x ++ y) ae (filter-append p b (c ++ d) ∙ ap₂ (λ x y. x ++ y) bf (filter-append p c d ∙ ap₂ (λ x y. x ++ y) cg dh))

level_kept : (i : Impact) (l : Level) (fs : List Finding) → filter (stands i l) (by_level fs) ≡ filter (stands i l) fs
unfolding by_level
level_kept i Error fs =
    four_kept (stands i Error) _ _ _ _ _ _ _ _ (own_level i Error fs) (other_level i Error Warning fs refl)
    (other_level i Error Note fs refl) (other_level i Error NoLevel fs refl)
    ∙ append-nil (filter (stands i Error) fs)
level_kept i Warning fs =
    four_kept (stands i Warning) _ _ _ _ _ _ _ _ (other_level i Warning Error fs refl) (own_level i Warning fs)
    (other_level i Warning Note fs refl) (other_level i Warning NoLevel fs refl)
    ∙ append-nil (filter (stands i Warning) fs)
level_kept i Note fs =
    four_kept (stands i Note) _ _ _ _ _ _ _ _ (other_level i Note Error fs refl) (other_level i Note Warning fs refl)
    (own_level i Note fs) (other_level i Note NoLevel fs refl)
    ∙ append-nil (filter (stands i Note) fs)
level_kept i NoLevel fs =
    four_kept (stands i NoLevel) _ _ _ _ _ _ _ _ (other_level i NoLevel Error fs refl) (other_level i NoLevel Warning fs refl)
    (other_level i NoLevel Note fs refl) (own_level i NoLevel fs)

kept_own : (i : Impact) (l : Level) (fs : List Finding) → filter (stands i l) (by_level (doing i fs)) ≡ filter (stands i l) fs
kept_own i l fs =
    level_kept i l (doing i fs) ∙ same_kept (stands i l) (does i) (λ f e. (and_parts (does i f) (severity f.level == severity l) e).0) fs

kept_apart : (i j : Impact) (l : Level) (fs : List Finding) → (weight j == weight i) ≡ false → filter (stands i l) (by_level (doing j fs)) ≡ []
kept_apart i j l fs apart =
    level_kept i l (doing j fs)
    ∙ none_kept (stands i l) (does j)
    (λ f e. ap (λ b. b && severity f.level == severity l) (ap (λ n. n == weight i) (eqb-true (weight f.impact) (weight j) e) ∙ apart)) fs

three_kept : (p : Finding → Bool) (a b c d e f : List Finding) → filter p a ≡ d → filter p b ≡ e → filter p c ≡ f
    → filter p ((a ++ b) ++ c) ≡ (d ++ e) ++ f
three_kept p a b c d e f ad be cf =
    filter-append p (a ++ b) c ∙ ap₂ (λ x y. x ++ y) (filter-append p a b ∙ ap₂ (λ x y. x ++ y) ad be) cf

pub standing_kept : (i : Impact) (l : Level) (fs : List Finding) → of_standing i l (listed fs) ≡ of_standing i l fs
standing_kept impacts.Stops l fs =
    let own : List Finding = filter (stands impacts.Stops l) fs in
    three_kept (stands impacts.Stops l) (by_level (doing impacts.Stops fs)) (by_level (doing impacts.Hit fs)) (others_among fs) _ _ _
    (kept_own impacts.Stops l fs) (kept_apart impacts.Stops impacts.Hit l fs refl)
    (kept_apart impacts.Stops impacts.None l fs refl)
    ∙ append-nil (own ++ []) ∙ append-nil own
standing_kept impacts.Hit l fs =
    three_kept (stands impacts.Hit l) (by_level (doing impacts.Stops fs)) (by_level (doing impacts.Hit fs)) (others_among fs) _ _ _
    (kept_apart impacts.Hit impacts.Stops l fs refl) (kept_own impacts.Hit l fs)
    (kept_apart impacts.Hit impacts.None l fs refl)
    ∙ append-nil (filter (stands impacts.Hit l) fs)
standing_kept impacts.None l fs =
    three_kept (stands impacts.None l) (by_level (doing impacts.Stops fs)) (by_level (doing impacts.Hit fs)) (others_among fs) _ _ _
    (kept_apart impacts.None impacts.Stops l fs refl)
    (kept_apart impacts.None impacts.Hit l fs refl) (kept_own impacts.None l fs)

-- ---- no milder result before a worse one

-- the position of a result by what it does to the gate and its level
abbrev rank_at : ℕ → ℕ → ℕ
rank_at weight severity = 4 * (2 - weight) + (3 - severity)

abbrev rank : Finding → ℕ
rank f = rank_at (weight f.impact) (severity f.level)

abbrev Rising : Finding → Finding → Type 0
Rising f g = rank f ≤ rank g

record Rises (low high : ℕ) (fs : List Finding) : Type 0 where
  pairs : AllPairs Rising fs
  least : All (λ f. low ≤ rank f) fs
  most : All (λ f. rank f ≤ high) fs

level_rises : (n : ℕ) (fs : List Finding) → All (λ f. rank f ≡ n) fs → Rises n n fs
level_rises n fs h = record {
  pairs = λ i j d lt within. let one = h i d (omega arith) in let other = h j d within in omega (arith, one, other);
  least = λ k d within. let one = h k d within in omega (arith, one);
  most = λ k d within. let one = h k d within in omega (arith, one);
}

pairs_append : (n : ℕ) (xs ys : List Finding) → AllPairs Rising xs → AllPairs Rising ys
    → All (λ f. rank f ≤ n) xs → All (λ f. n ≤ rank f) ys → AllPairs Rising (xs ++ ys)
pairs_append n [] ys a b most least = b
pairs_append n (x ∷ xs) ys a b most least =
    AllPairs-cons Rising x (xs ++ ys)
    (All-append (Rising x) xs ys (λ k d within. a 0 (suc k) d (omega arith) (omega arith))
    (λ k d within. let first = most 0 d (omega arith) in let second = least k d within in omega (arith, first, second)))
    (pairs_append n xs ys (λ i j d lt within. a (suc i) (suc j) d (omega arith) (omega arith)) b (λ k d within. most (suc k) d (omega arith)) least)

joined : (a b c d : ℕ) (xs ys : List Finding) → a ≤ c → b ≤ c → b ≤ d → Rises a b xs → Rises c d ys → Rises a d (xs ++ ys)
joined a b c d xs ys ac bc bd first second = record {
  pairs = pairs_append b xs ys first.pairs second.pairs first.most (λ k e within. let one = second.least k e within in omega (arith, one, bc));
  least = All-append (λ f. a ≤ rank f) xs ys first.least (λ k e within. let one = second.least k e within in omega (arith, one, ac));
  most = All-append (λ f. rank f ≤ d) xs ys (λ k e within. let one = first.most k e within in omega (arith, one, bd)) second.most;
}

rank_is : (f : Finding) (i : Impact) (l : Level) (n : ℕ) → does i f ≡ true → (severity f.level == severity l) ≡ true
    → rank_at (weight i) (severity l) ≡ n → rank f ≡ n
rank_is f i l n same at is =
    ap₂ rank_at (eqb-true (weight f.impact) (weight i) same) (eqb-true (severity f.level) (severity l) at) ∙ is

ranks : (i : Impact) (l : Level) (n : ℕ) (fs : List Finding) → rank_at (weight i) (severity l) ≡ n
    → All (λ f. rank f ≡ n) (of_level l (doing i fs))
ranks i l n fs is k d within =
    let part : List Finding = doing i fs in
    let at = filter_passes (λ f. severity f.level == severity l) part k d within in
    let same = All-filter (λ f. severity f.level == severity l) (λ f. does i f ≡ true) part (filter_passes (does i) fs) k d within in
    rank_is (get_or (of_level l part) k d) i l n same at is

part_rises : (i : Impact) (n : ℕ) (fs : List Finding) → rank_at (weight i) 3 ≡ n → rank_at (weight i) 2 ≡ n + 1
    → rank_at (weight i) 1 ≡ n + 2 → rank_at (weight i) 0 ≡ n + 3 → Rises n (n + 3) (by_level (doing i fs))
unfolding by_level
part_rises i n fs error warning note none =
    let part : List Finding = doing i fs in
    joined n n (n + 1) (n + 3) (of_level Error part) _ (omega arith) (omega arith) (omega arith)
    (level_rises n (of_level Error part) (ranks i Error n fs error))
    (joined (n + 1) (n + 1) (n + 2) (n + 3) (of_level Warning part) _ (omega arith) (omega arith) (omega arith)
    (level_rises (n + 1) (of_level Warning part) (ranks i Warning (n + 1) fs warning))
    (joined (n + 2) (n + 2) (n + 3) (n + 3) (of_level Note part) (of_level NoLevel part) (omega arith) (omega arith) (omega arith)
    (level_rises (n + 2) (of_level Note part) (ranks i Note (n + 2) fs note))
    (level_rises (n + 3) (of_level NoLevel part) (ranks i NoLevel (n + 3) fs none))))

severity_small : (l : Level) → severity l ≤ 3
severity_small NoLevel = omega arith
severity_small Note = omega arith
severity_small Warning = omega arith
severity_small Error = omega arith

weight_small : (i : Impact) → weight i ≤ 2
weight_small impacts.Stops = omega arith
weight_small impacts.Hit = omega arith
weight_small impacts.None = omega arith

precedes_by : (u v m n : ℕ) → u ≤ 2 → v ≤ 2 → m ≤ 3 → n ≤ 3 → 4 * (2 - u) + (3 - m) ≤ 4 * (2 - v) + (3 - n)
    → (v ≤ u) × (u ≡ v → n ≤ m)
precedes_by u v m n a b c d h = (omega (arith, a, b, c, d, h), λ e. omega (arith, a, b, c, d, h, e))

precedes : (f g : Finding) → rank f ≤ rank g → MayPrecede f g
precedes f g h =
    let both = precedes_by (weight f.impact) (weight g.impact) (severity f.level) (severity g.level) (weight_small f.impact) (weight_small g.impact)
    (severity_small f.level) (severity_small g.level) h in
    record { impact = both.0; level = both.1 }

pub listed_sorted : (fs : List Finding) → AllPairs MayPrecede (listed fs)
listed_sorted fs i j d lt within =
    let stops = part_rises impacts.Stops 0 fs refl refl refl refl in
    let hits = part_rises impacts.Hit 4 fs refl refl refl refl in
    let others = part_rises impacts.None 8 fs refl refl refl refl in
    let rises =
    joined 0 7 8 11 (hits_among fs) (others_among fs) (omega arith) (omega arith) (omega arith)
    (joined 0 3 4 7 (by_level (doing impacts.Stops fs)) (by_level (doing impacts.Hit fs)) (omega arith) (omega arith) (omega arith) stops hits) others in
    precedes (get_or (listed fs) i d) (get_or (listed fs) j d) (rises.pairs i j d lt within)
