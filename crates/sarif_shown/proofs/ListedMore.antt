-- The listed results: each of them once, and what is true for all of them.
use Rattle.std.proofs.Common.{Option, ◌≡◌, ◌==◌, ◌+◌, ◌++◌, ℕ, Bool, not, cond, List, [], ◌∷◌, length, IsPermutation, ap, sym, refl, ◌∙◌, arith}
use Rattle.std.specs.List.{AllByRecursion, count_by}
use Rattle.std.specs.Prelude.{take, drop, flat_map}
use Rattle.std.proofs.Math.Seq.{take-append_seam, drop-append_seam}
use Rattle.std.proofs.lemmas.Grind.{flat_map-append}
use Rattle.std.proofs.lemmas.List.{length-append}
use Rattle.std.proofs.lemmas.List.Elements.{All-append, All-filter, All-from_recursion, recursion_from_All}
use Rattle.std.proofs.lemmas.List.Sorted.{All-permutation, IsPermutation-append, IsPermutation-append_right, IsPermutation-cons, IsPermutation-middle, IsPermutation-refl, IsPermutation-sym, IsPermutation-trans, length_permutation, sum_by-IsPermutation}
use Rattle.std.proofs.lemmas.List.Sums.{length-filter, sum_by-cons}
use Rattle.serde_json.specs.Data.{Data}
use Rattle.sarif_model.specs.declared.kinds.Level.{Level}
use Rattle.sarif_model.specs.declared.kinds.Level.TheVariants.{NoLevel, Note, Warning, Error}
use Rattle.sarif_model.specs.Level.{severity}
use Rattle.sarif_model.specs.Run.{runs_of}
use Rattle.sarif_counts.specs.Impacts.{is_hit}
use Rattle.sarif_counts.specs.declared.gate_verdict.Impact.{Impact}
use Rattle.sarif_counts.specs.declared.gate_verdict.Impact.TheVariants as impacts
use Rattle.sarif_scope.specs.Counted.{hits_by}
use Rattle.sarif_scope.specs.declared.gated.GatedChange.{GatedChange}
use Rattle.sarif_findings.specs.declared.finding.Finding.{Finding}
use Rattle.sarif_findings.specs.declared.reporting.Reporting.{Reporting}
use Rattle.sarif_shown.specs.ReportedInside.{reported_by}
use Rattle.sarif_shown.proofs.FindingsInside.{hits_inside}
use Rattle.sarif_findings.proofs.ToldFindings.{IsTold}
use Rattle.sarif_shown.specs.Listed.{by_level, does, doing, hits_among, listed, of_level, others_among, weight}

-- ---- each result once

-- x goes past these elements
into : (x : Finding) (xs ys zs : List Finding) → IsPermutation (x ∷ ys) zs → IsPermutation (x ∷ (xs ++ ys)) (xs ++ zs)
into x xs ys zs h =
    IsPermutation-trans _ _ _ (IsPermutation-sym _ _ (IsPermutation-middle xs x ys)) (IsPermutation-append_right xs (x ∷ ys) zs h)

-- a result becomes the first of its level
placed : (l : Level) (x : Finding) (a b c d : List Finding)
    → IsPermutation (x ∷ (a ++ (b ++ (c ++ d))))
    (cond (severity l == severity Error) (x ∷ a) a ++ (cond (severity l == severity Warning) (x ∷ b) b
    ++ (cond (severity l == severity Note) (x ∷ c) c ++ cond (severity l == severity NoLevel) (x ∷ d) d)))
placed Error x a b c d = IsPermutation-refl (x ∷ (a ++ (b ++ (c ++ d))))
placed Warning x a b c d = into x a (b ++ (c ++ d)) (x ∷ (b ++ (c ++ d))) (IsPermutation-refl (x ∷ (b ++ (c ++ d))))
placed Note x a b c d =
    into x a (b ++ (c ++ d)) (b ++ (x ∷ (c ++ d))) (into x b (c ++ d) (x ∷ (c ++ d)) (IsPermutation-refl (x ∷ (c ++ d))))
placed NoLevel x a b c d =
    into x a (b ++ (c ++ d)) (b ++ (c ++ (x ∷ d)))
    (into x b (c ++ d) (c ++ (x ∷ d)) (into x c d (x ∷ d) (IsPermutation-refl (x ∷ d))))

pub level_permutes : (fs : List Finding) → IsPermutation fs (by_level fs)
unfolding by_level
level_permutes [] = IsPermutation-refl []
level_permutes (f ∷ fs) =
    IsPermutation-trans _ _ _ (IsPermutation-cons f fs (by_level fs) (level_permutes fs))
    (placed f.level f (of_level Error fs) (of_level Warning fs) (of_level Note fs) (of_level NoLevel fs))

-- a result becomes the first of those that do the same to the gate
put : (i : Impact) (x : Finding) (a b c : List Finding)
    → IsPermutation (x ∷ ((a ++ b) ++ c))
    ((cond (weight i == 2) (x ∷ a) a ++ cond (weight i == 1) (x ∷ b) b) ++ cond (weight i == 0) (x ∷ c) c)
put impacts.Stops x a b c = IsPermutation-refl (x ∷ ((a ++ b) ++ c))
put impacts.Hit x a b c =
    IsPermutation-append (x ∷ (a ++ b)) (a ++ (x ∷ b)) c c (into x a b (x ∷ b) (IsPermutation-refl (x ∷ b))) (IsPermutation-refl c)
put impacts.None x a b c = into x (a ++ b) c (x ∷ c) (IsPermutation-refl (x ∷ c))

parted : (fs : List Finding) → IsPermutation fs ((doing impacts.Stops fs ++ doing impacts.Hit fs) ++ doing impacts.None fs)
parted [] = IsPermutation-refl []
parted (f ∷ fs) =
    IsPermutation-trans _ _ _ (IsPermutation-cons f fs ((doing impacts.Stops fs ++ doing impacts.Hit fs) ++ doing impacts.None fs) (parted fs))
    (put f.impact f (doing impacts.Stops fs) (doing impacts.Hit fs) (doing impacts.None fs))

pub listed_permutes : (fs : List Finding) → IsPermutation fs (listed fs)
listed_permutes fs =
    let stops : List Finding = doing impacts.Stops fs in
    let hits : List Finding = doing impacts.Hit fs in
    let others : List Finding = doing impacts.None fs in
    IsPermutation-trans _ _ _ (parted fs)
    (IsPermutation-append (stops ++ hits) (by_level stops ++ by_level hits) others (by_level others)
    (IsPermutation-append stops (by_level stops) hits (by_level hits) (level_permutes stops) (level_permutes hits)) (level_permutes others))

pub length_listed : (fs : List Finding) → length (listed fs) ≡ length fs
length_listed fs = length_permutation fs (listed fs) (listed_permutes fs)

-- as many of the listed results pass a test as of the reported ones
pub counted_listed : (p : Finding → Bool) (fs : List Finding) → count_by p (listed fs) ≡ count_by p fs
counted_listed p fs = sum_by-IsPermutation (λ f. cond (p f) 1 0) fs (listed fs) (listed_permutes fs)

-- ---- what is true for all reported results is true for all listed ones

told_permuted : (fs gs : List Finding) → IsPermutation fs gs → AllByRecursion IsTold fs → AllByRecursion IsTold gs
told_permuted fs gs moved h = recursion_from_All IsTold gs (All-permutation IsTold fs gs moved (All-from_recursion IsTold fs h))

pub listed_told : (fs : List Finding) → AllByRecursion IsTold fs → AllByRecursion IsTold (listed fs)
listed_told fs h = told_permuted fs (listed fs) (listed_permutes fs) h

part_told : (i : Impact) (fs : List Finding) → AllByRecursion IsTold fs → AllByRecursion IsTold (by_level (doing i fs))
part_told i fs h =
    let part = doing i fs in
    told_permuted part (by_level part) (level_permutes part)
    (recursion_from_All IsTold part (All-filter (does i) IsTold fs (All-from_recursion IsTold fs h)))

pub hits_told : (fs : List Finding) → AllByRecursion IsTold fs → AllByRecursion IsTold (hits_among fs)
hits_told fs h =
    let stops : List Finding = by_level (doing impacts.Stops fs) in
    let hits : List Finding = by_level (doing impacts.Hit fs) in
    recursion_from_All IsTold (stops ++ hits)
    (All-append IsTold stops hits (All-from_recursion IsTold stops (part_told impacts.Stops fs h)) (All-from_recursion IsTold hits (part_told impacts.Hit fs h)))

-- ---- the hits first

part_counted : (i : Impact) (fs : List Finding) → length (by_level (doing i fs)) ≡ count_by (does i) fs
part_counted i fs = length_permutation (doing i fs) (by_level (doing i fs)) (level_permutes (doing i fs)) ∙ length-filter (does i) fs

hits_one : (i : Impact) → cond (weight i == 2) 1 0 + cond (weight i == 1) 1 0 ≡ cond {A = ℕ} (is_hit i) 1 0
hits_one impacts.Stops = refl
hits_one impacts.Hit = refl
hits_one impacts.None = refl

hits_number : (fs : List Finding) → count_by (does impacts.Stops) fs + count_by (does impacts.Hit) fs ≡ count_by (λ f. is_hit f.impact) fs
hits_number [] = refl
hits_number (f ∷ fs) =
    let a = sum_by-cons (λ (g : Finding). cond {A = ℕ} (does impacts.Stops g) 1 0) f fs in
    let b = sum_by-cons (λ (g : Finding). cond {A = ℕ} (does impacts.Hit g) 1 0) f fs in
    let c = sum_by-cons (λ (g : Finding). cond {A = ℕ} (is_hit g.impact) 1 0) f fs in
    let one = hits_one f.impact in
    let rest = hits_number fs in
    omega (arith, a, b, c, one, rest)

pub length_hits : (fs : List Finding) → length (hits_among fs) ≡ count_by (λ f. is_hit f.impact) fs
length_hits fs =
    let whole = length-append (by_level (doing impacts.Stops fs)) (by_level (doing impacts.Hit fs)) in
    let stops = part_counted impacts.Stops fs in
    let hits = part_counted impacts.Hit fs in
    let both = hits_number fs in
    omega (arith, whole, stops, hits, both)

others_one : (i : Impact) → cond (weight i == 0) 1 0 ≡ cond {A = ℕ} (not (is_hit i)) 1 0
others_one impacts.Stops = refl
others_one impacts.Hit = refl
others_one impacts.None = refl

others_number : (fs : List Finding) → count_by (does impacts.None) fs ≡ count_by (λ f. not (is_hit f.impact)) fs
others_number [] = refl
others_number (f ∷ fs) =
    let a = sum_by-cons (λ (g : Finding). cond {A = ℕ} (does impacts.None g) 1 0) f fs in
    let b = sum_by-cons (λ (g : Finding). cond {A = ℕ} (not (is_hit g.impact)) 1 0) f fs in
    let one = others_one f.impact in
    let rest = others_number fs in
    omega (arith, a, b, one, rest)

pub length_others : (fs : List Finding) → length (others_among fs) ≡ count_by (λ f. not (is_hit f.impact)) fs
length_others fs = part_counted impacts.None fs ∙ others_number fs

-- the hits of a log are as many as the gate counts
pub hits_counted : (change : Option GatedChange) (reporting : Reporting) (log : Data) → length (hits_among (reported_by change reporting log)) ≡ hits_by change reporting.policy (runs_of log)
hits_counted change reporting log = length_hits (reported_by change reporting log) ∙ hits_inside change reporting log

pub hits_first : (change : Option GatedChange) (reporting : Reporting) (log : Data)
    → take (hits_by change reporting.policy (runs_of log)) (listed (reported_by change reporting log)) ≡ hits_among (reported_by change reporting log)
hits_first change reporting log =
    let fs : List Finding = reported_by change reporting log in
    ap (λ n. take n (listed fs)) (sym (hits_counted change reporting log)) ∙ take-append_seam (hits_among fs) (others_among fs)

pub others_after : (change : Option GatedChange) (reporting : Reporting) (log : Data)
    → drop (hits_by change reporting.policy (runs_of log)) (listed (reported_by change reporting log)) ≡ others_among (reported_by change reporting log)
others_after change reporting log =
    let fs : List Finding = reported_by change reporting log in
    ap (λ n. drop n (listed fs)) (sym (hits_counted change reporting log)) ∙ drop-append_seam (hits_among fs) (others_among fs)

-- what is written for the hits, and then what is written for the others
pub lines_parted : (line : Finding → List ℕ) (fs : List Finding)
    → flat_map line (listed fs) ≡ flat_map line (hits_among fs) ++ flat_map line (others_among fs)
lines_parted line fs = flat_map-append line (hits_among fs) (others_among fs)
