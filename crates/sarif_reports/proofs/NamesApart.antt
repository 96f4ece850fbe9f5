-- The names of the test cases of a suite differ from each other.
use Rattle.std.proofs.Common.{◌≡◌, ◌<◌, ◌≤◌, ◌^◌, ◌+◌, ◌-◌, ◌==◌, ◌++◌, ℕ, Bool, true, false, not, ◌&&◌, ◌||◌, cond, List, [], ◌∷◌, length, drop, codes, decimal, bytes_eq, if◌then◌else◌, refl, sym, ap, ap₂, subst, ◌∙◌, append_assoc, arith}
use Rattle.std.specs.Prelude.{nat_eq, nat_lt}
use Rattle.std.specs.Char.{is_ascii_digit}
use Rattle.std.specs.List.{AllByRecursion, IsDistinct, list_all}
use Rattle.std.proofs.Math.Seq.{drop-append_seam}
use Rattle.std.proofs.lemmas.Bool.{and_parts, false_from_ne_true, or_parts, true≢false, ltb-false}
use Rattle.std.proofs.lemmas.Bool.Decides.{nat_tests}
use Rattle.std.proofs.lemmas.Fmt.{decimal_injective}
use Rattle.std.proofs.lemmas.List.{append_cancel_right, length-append}
use Rattle.std.proofs.lemmas.List.Sums.{count_by-le-length, sum_by-append, sum_by-cons}
use Rattle.std.proofs.lemmas.Slice.Eq.{bytes_eq-Decides}
use lib.Pointwise.{pointwise}
use Rattle.sarif_findings.specs.declared.finding.Finding.{Finding}
use Rattle.sarif_reports.specs.JunitReport.{case_name, ends_numbered, named_among, nth_name, plain_name}
use Rattle.sarif_reports.specs.JunitLaws.{names_after}
use Rattle.sarif_shown.proofs.EscapedApart.{decimal_digits}

-- ---- a name with a number, read back

abbrev is_not_opening : ℕ → Bool
is_not_opening b = not (b == 40)

digit_other : (d : ℕ) → is_ascii_digit d ≡ true → is_not_opening d ≡ true
digit_other d h = grind (arith, nat_tests, h)

digits_other : (ds : List ℕ) → list_all is_ascii_digit ds ≡ true → list_all is_not_opening ds ≡ true
digits_other [] h = refl
digits_other (d ∷ ds) h =
    let parts = and_parts (is_ascii_digit d) (list_all is_ascii_digit ds) h in
    ap₂ (λ a b. a && b) (digit_other d parts.0) (digits_other ds parts.1)

-- a list with a `(` has an element that is one
opening_in : (xs ys : List ℕ) → list_all is_not_opening (xs ++ 40 ∷ ys) ≡ true → false ≡ true
opening_in [] ys h = h
opening_in (x ∷ xs) ys h = opening_in xs ys (and_parts (is_not_opening x) (list_all is_not_opening (xs ++ 40 ∷ ys)) h).1

-- two strings are equal up to their last `(`, and after it
cut_last : (xs ys ds es : List ℕ) → list_all is_not_opening ds ≡ true → list_all is_not_opening es ≡ true
    → xs ++ 40 ∷ ds ≡ ys ++ 40 ∷ es → (xs ≡ ys) × (ds ≡ es)
cut_last [] [] ds es d e h = (refl, ap (drop 1) h)
cut_last [] (y ∷ ys) ds es d e h =
    let tail : ds ≡ ys ++ 40 ∷ es = ap (drop 1) h in
    absurd (true≢false (sym (opening_in ys es (sym (ap (list_all is_not_opening) tail) ∙ d))))
cut_last (x ∷ xs) [] ds es d e h =
    let tail : xs ++ 40 ∷ ds ≡ es = ap (drop 1) h in
    absurd (true≢false (sym (opening_in xs ds (ap (list_all is_not_opening) tail ∙ e))))
cut_last (x ∷ xs) (y ∷ ys) ds es d e h =
    let rest = cut_last xs ys ds es d e (ap (drop 1) h) in
    let first : x ∷ [] ≡ y ∷ [] = append_cancel_right (x ∷ []) (y ∷ []) (xs ++ 40 ∷ ds) (h ∙ ap₂ (λ us vs. y ∷ (us ++ 40 ∷ vs)) (sym rest.0) (sym rest.1)) in
    (ap₂ (λ us vs. us ++ vs) first rest.0, rest.1)

numbered : List ℕ → ℕ → List ℕ
numbered name n = name ++ (codes " (" ++ (decimal n ++ codes ")"))

-- two names are equal to their last `(` and to their end
numbered_parts : (name : List ℕ) (n : ℕ) → numbered name n ≡ ((name ++ 32 ∷ []) ++ 40 ∷ decimal n) ++ 41 ∷ []
unfolding numbered
numbered_parts name n = simp append_assoc

numbered_same : (a b : List ℕ) (m n : ℕ) → m < 2 ^ 64 → n < 2 ^ 64 → numbered a m ≡ numbered b n → (a ≡ b) × (m ≡ n)
numbered_same a b m n small small' e =
    let inner : (a ++ 32 ∷ []) ++ 40 ∷ decimal m ≡ (b ++ 32 ∷ []) ++ 40 ∷ decimal n =
    append_cancel_right _ _ (41 ∷ []) (sym (numbered_parts a m) ∙ e ∙ numbered_parts b n) in
    let cut = cut_last (a ++ 32 ∷ []) (b ++ 32 ∷ []) (decimal m) (decimal n) (digits_other (decimal m) (decimal_digits m small))
    (digits_other (decimal n) (decimal_digits n small')) inner in
    (append_cancel_right a b (32 ∷ []) cut.0, decimal_injective m n small small' cut.1)

-- what ends with a `)` ends as a numbered name does
ends_more : (xs : List ℕ) → ends_numbered (xs ++ 41 ∷ []) ≡ true
ends_more xs =
    let size = length-append xs (41 ∷ []) in
    let rest : length (xs ++ 41 ∷ []) - 1 ≡ length xs = omega (arith, size) in
    ap (λ k. pointwise nat_eq (41 ∷ []) (drop k (xs ++ 41 ∷ []))) rest ∙ ap (pointwise nat_eq (41 ∷ [])) (drop-append_seam xs (41 ∷ []))

numbered_ends : (name : List ℕ) (n : ℕ) → ends_numbered (numbered name n) ≡ true
numbered_ends name n = ap ends_numbered (numbered_parts name n) ∙ ends_more ((name ++ 32 ∷ []) ++ 40 ∷ decimal n)

-- whether the n-th result with a name has a numbered one
abbrev is_numbered : List ℕ → ℕ → Bool
is_numbered name n = nat_lt 1 n || ends_numbered name

name_is : (name : List ℕ) (n : ℕ) → nth_name name n ≡ (if is_numbered name n then numbered name n else name)
unfolding nth_name numbered
name_is name n = refl

one_name : (s t : Bool) (a b : List ℕ) (m n : ℕ) → is_numbered a m ≡ s → is_numbered b n ≡ t → 1 ≤ m → 1 ≤ n → m < 2 ^ 64 → n < 2 ^ 64
    → (if s then numbered a m else a) ≡ (if t then numbered b n else b) → (a ≡ b) × (m ≡ n)
one_name true true a b m n p q low low' small small' e = numbered_same a b m n small small' e
one_name true false a b m n p q low low' small small' e =
    let plain = or_parts (nat_lt 1 n) (ends_numbered b) q in
    absurd (true≢false (sym (numbered_ends a m) ∙ ap ends_numbered e ∙ plain.1))
one_name false true a b m n p q low low' small small' e =
    let plain = or_parts (nat_lt 1 m) (ends_numbered a) p in
    absurd (true≢false (sym (numbered_ends b n) ∙ ap ends_numbered (sym e) ∙ plain.1))
one_name false false a b m n p q low low' small small' e =
    let first = ltb-false 1 m (or_parts (nat_lt 1 m) (ends_numbered a) p).0 in
    let second = ltb-false 1 n (or_parts (nat_lt 1 n) (ends_numbered b) q).0 in
    (e, omega (arith, first, second, low, low'))

-- one name is of one plain name and one number
same_name : (a b : List ℕ) (m n : ℕ) → 1 ≤ m → 1 ≤ n → m < 2 ^ 64 → n < 2 ^ 64 → nth_name a m ≡ nth_name b n → (a ≡ b) × (m ≡ n)
same_name a b m n low low' small small' e =
    one_name (is_numbered a m) (is_numbered b n) a b m n refl refl low low' small small' (sym (name_is a m) ∙ e ∙ name_is b n)

-- ---- the names of a suite

named_short : (fs : List Finding) (name : List ℕ) → named_among fs name ≤ length fs
named_short fs name = count_by-le-length (λ x. bytes_eq name (plain_name x)) fs

-- a result that is among the earlier ones counts
named_one : (f : Finding) (before more : List Finding) → named_among before (plain_name f) + 1 ≤ named_among (before ++ f ∷ more) (plain_name f)
named_one f before more =
    let test = λ (x : Finding). cond {A = ℕ} (bytes_eq (plain_name f) (plain_name x)) 1 0 in
    let whole = sum_by-append test before (f ∷ more) in
    let first = sum_by-cons test f more in
    let one = ap (λ b. cond {A = ℕ} b 1 0) ((bytes_eq-Decides (plain_name f) (plain_name f)).1 refl) in
    omega (arith, whole, first, one)

-- the name of a result differs from that of a later one
later_differs : (f g : Finding) (before more : List Finding) → length before + 1 + length more + 1 < 2 ^ 64
    → bytes_eq (case_name before f) (case_name (before ++ f ∷ more) g) ≡ false
later_differs f g before more small =
    false_from_ne_true _ (λ same.
    let long = length-append before (f ∷ more) in
    let short = named_short before (plain_name f) in
    let short' = named_short (before ++ f ∷ more) (plain_name g) in
    let m = named_among before (plain_name f) in
    let n = named_among (before ++ f ∷ more) (plain_name g) in
    let told = same_name (plain_name f) (plain_name g) (m + 1) (n + 1) (omega arith) (omega arith) (omega (arith, short, small))
    (omega (arith, short', long, small))
    ((bytes_eq-Decides _ _).0 same) in
    let more_of = named_one f before more in
    let alike : named_among (before ++ f ∷ more) (plain_name f) ≡ n = ap (named_among (before ++ f ∷ more)) told.0 in
    let numbers = told.1 in
    omega (arith, numbers, alike, more_of))

later_differ : (f : Finding) (before more fs : List Finding) → length before + 1 + length more + length fs < 2 ^ 64
    → AllByRecursion (λ name. bytes_eq (case_name before f) name ≡ false) (names_after (before ++ f ∷ more) fs)
later_differ f before more [] small = tt
later_differ f before more (g ∷ gs) small =
    let long = length-append more (g ∷ []) in
    let rest = later_differ f before (more ++ g ∷ []) gs (omega (arith, long, small)) in
    let front : (before ++ f ∷ more) ++ g ∷ [] ≡ before ++ f ∷ (more ++ g ∷ []) = append_assoc before (f ∷ more) (g ∷ []) in (
      later_differs f g before more (omega (arith, small)),
      subst (λ front. AllByRecursion (λ name. bytes_eq (case_name before f) name ≡ false) (names_after front gs)) (sym front) rest,
    )

names_differ : (before fs : List Finding) → length before + length fs < 2 ^ 64 → IsDistinct bytes_eq (names_after before fs)
unfolding IsDistinct
names_differ before [] small = tt
names_differ before (f ∷ fs) small =
    let long = length-append before (f ∷ []) in
    (later_differ f before [] fs (omega (arith, small)), names_differ (before ++ f ∷ []) fs (omega (arith, long, small)))

pub names_apart : (fs : List Finding) → length fs < 2 ^ 64 → IsDistinct bytes_eq (names_after [] fs)
names_apart fs small = names_differ [] fs (omega (arith, small))
