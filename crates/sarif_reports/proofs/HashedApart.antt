-- The strings that are hashed differ from each other.
use Rattle.std.proofs.Common.{◌≡◌, ◌<◌, ◌≤◌, ◌^◌, ◌+◌, ℕ, true, false, cond, List, [], ◌∷◌, ◌++◌, length, drop, bytes_eq, decimal, subst, ap, sym, ◌∙◌, append_assoc, arith}
use Rattle.std.specs.List.{count_by, AllByRecursion, IsDistinct}
use Rattle.std.proofs.lemmas.Bool.{false_from_ne_true}
use Rattle.std.proofs.lemmas.Slice.Eq.{bytes_eq-Decides}
use Rattle.std.proofs.lemmas.List.{append_cancel_right, length-append}
use Rattle.std.proofs.lemmas.List.Sums.{sum_by-append, sum_by-cons, count_by-le-length}
use Rattle.std.proofs.lemmas.Fmt.{decimal_injective}
use Rattle.sarif_findings.specs.declared.finding.Finding.{Finding}
use Rattle.sarif_reports.specs.GitlabReport.{hashed_text, hashed_texts, texts_after, are_alike, rank_among}
use Rattle.sarif_reports.specs.GitlabParts.{identity_of, rank_text}
use Rattle.sarif_reports.proofs.GitlabMore.{hashed_parts, identity_cut, identity_tells, rank_told, alike_identity}

-- one text is of results that are alike, and of one rank
same_text : (f g : Finding) (m n : ℕ) → m < 2 ^ 64 → n < 2 ^ 64 → hashed_text f m ≡ hashed_text g n → (are_alike f g ≡ true) × (m ≡ n)
same_text f g m n small small' e =
    let cut = identity_cut f g (rank_text m) (rank_text n) (sym (hashed_parts f m) ∙ e ∙ hashed_parts g n) in
    (cut.0, decimal_injective m n small small' (append_cancel_right (decimal m) (decimal n) (93 ∷ []) (ap (drop 1) cut.1)))

rank_short : (fs : List Finding) (f : Finding) → rank_among fs f ≤ length fs
rank_short fs f = count_by-le-length (are_alike f) fs

-- results that are alike rank alike
rank_alike : (f g : Finding) (fs : List Finding) → are_alike f g ≡ true → rank_among fs f ≡ rank_among fs g
rank_alike f g fs h =
    rank_told f fs ∙ ap (λ q. count_by (λ x. bytes_eq q (identity_of x)) fs) (alike_identity f g h) ∙ sym (rank_told g fs)

alike_back : (f g : Finding) → are_alike f g ≡ true → are_alike g f ≡ true
alike_back f g h = identity_tells g f ∙ (bytes_eq-Decides (identity_of g) (identity_of f)).1 (sym (alike_identity f g h))

-- a result that is among the earlier ones counts
rank_more : (f g : Finding) (before more : List Finding) → are_alike g f ≡ true → rank_among before g + 1 ≤ rank_among (before ++ f ∷ more) g
rank_more f g before more h =
    let whole = sum_by-append (λ x. cond (are_alike g x) 1 0) before (f ∷ more) in
    let first = sum_by-cons (λ x. cond (are_alike g x) 1 0) f more in
    let one = ap (λ b. cond {A = ℕ} b 1 0) h in
    omega (arith, whole, first, one)

-- the text of a result differs from that of a later one
later_differs : (f g : Finding) (before more : List Finding) → length before + 1 + length more < 2 ^ 64
    → bytes_eq (hashed_text f (rank_among before f)) (hashed_text g (rank_among (before ++ f ∷ more) g)) ≡ false
later_differs f g before more small =
    false_from_ne_true _ (λ same.
    let long = length-append before (f ∷ more) in
    let short = rank_short before f in
    let short' = rank_short (before ++ f ∷ more) g in
    let told = same_text f g (rank_among before f) (rank_among (before ++ f ∷ more) g) (omega (arith, short, small))
    (omega (arith, short', long, small)) ((bytes_eq-Decides _ _).0 same) in
    let ranks = rank_alike f g before told.0 in
    let more_of = rank_more f g before more (alike_back f g told.0) in
    omega (arith, told.1, ranks, more_of))

later_differ : (f : Finding) (before more fs : List Finding) → length before + 1 + length more + length fs < 2 ^ 64
    → AllByRecursion (λ text. bytes_eq (hashed_text f (rank_among before f)) text ≡ false) (texts_after (before ++ f ∷ more) fs)
later_differ f before more [] small = tt
later_differ f before more (g ∷ gs) small =
    let long = length-append more (g ∷ []) in
    let rest = later_differ f before (more ++ g ∷ []) gs (omega (arith, long, small)) in
    let front : (before ++ f ∷ more) ++ g ∷ [] ≡ before ++ f ∷ (more ++ g ∷ []) = append_assoc before (f ∷ more) (g ∷ []) in (
      later_differs f g before more (omega (arith, small)),
      subst (λ front. AllByRecursion (λ text. bytes_eq (hashed_text f (rank_among before f)) text ≡ false) (texts_after front gs)) (sym front) rest,
    )

texts_differ : (before fs : List Finding) → length before + length fs < 2 ^ 64 → IsDistinct bytes_eq (texts_after before fs)
unfolding IsDistinct
texts_differ before [] small = tt
texts_differ before (f ∷ fs) small =
    let long = length-append before (f ∷ []) in
    (later_differ f before [] fs (omega (arith, small)), texts_differ (before ++ f ∷ []) fs (omega (arith, long, small)))

pub hashed_apart : (fs : List Finding) → length fs < 2 ^ 64 → IsDistinct bytes_eq (hashed_texts fs)
hashed_apart fs small = texts_differ [] fs (omega (arith, small))
