-- The laws of the report in JUnit XML.
use Rattle.std.proofs.Common.{Option, None, ◌≡◌, ◌<◌, ◌≤◌, ◌^◌, ◌+◌, ◌==◌, ◌&&◌, ◌||◌, ◌++◌, ℕ, Bool, true, false, not, cond, List, [], ◌∷◌, codes, length, chars, if◌then◌else◌, refl, sym, ap, ◌∙◌, append-nil, ⊎_elim, arith}
use Rattle.std.specs.Prelude.{nat_lt}
use Rattle.std.specs.List.{count_by, list_all}
use Rattle.std.specs.Str.{IsUtf8}
use Rattle.std.proofs.Math.Utf8.{scalar, scalar_cases, scalars}
use Rattle.std.proofs.lemmas.Bool.{and_from, and_parts, eqb-true, le-ltb, lt-ltb, ltb-true, not-true, or_parts, true≢false}
use Rattle.std.proofs.lemmas.Bool.Decides.{nat_tests}
use Rattle.std.proofs.lemmas.List.Sums.{sum_by-cons}
use Rattle.std.proofs.lemmas.Str.{scalars-chars}
use Rattle.serde_json.specs.Data.{Data}
use Rattle.sarif_model.specs.Run.{runs_of}
use Rattle.sarif_counts.specs.declared.gate_verdict.Verdict.TheVariants.{Pass, Fail}
use Rattle.sarif_counts.specs.Impacts.{is_hit}
use Rattle.sarif_findings.specs.declared.finding.Finding.{Finding}
use Rattle.sarif_findings.specs.declared.reporting.Reporting.{Reporting}
use Rattle.sarif_shown.specs.ReportedInside.{reported_by}
use Rattle.sarif_findings.specs.Shown.{is_blank_letter, is_concealed, is_control, is_unseen_mark}
use Rattle.sarif_findings.specs.ShownLaws.{is_seen}
use Rattle.sarif_findings.proofs.CharsBack.{chars_back}
use Rattle.sarif_shown.proofs.FindingsInside.{hits_inside, told_inside}
use Rattle.sarif_reports.specs.JunitLaws.{IsXmlText, cases_of, document_of, is_xml_char, occurrences}
use Rattle.sarif_reports.specs.JunitReport.{failures_in, skipped_in}
use Rattle.sarif_shown.specs.Listed.{listed}
use Rattle.sarif_shown.specs.PolicyLaws.{is_fail}
use Rattle.sarif_shown.specs.Stopping.{is_let_pass, stopping_by, stops}
use Rattle.sarif_shown.specs.declared.stopping.Stopping.{Stopping}
use Rattle.sarif_shown.specs.declared.stopping.Stopping.TheVariants.{NoHit}
use Rattle.sarif_reports.proofs.JunitApart.{IsLines, Piece, case_tag, document_piece, failure_tag, skipped_tag, stops_hits}
use Rattle.sarif_shown.proofs.ListedMore.{counted_listed, length_listed, listed_told}
use Rattle.sarif_scope.specs.declared.gated.GatedChange.{GatedChange}
use Rattle.sarif_scope.specs.Counted.{hits_by, verdict_by}

-- the numbers of elements of a whole document
pub whole : (part text : List ℕ) (n : ℕ) → ((more : List ℕ) → occurrences part (text ++ more) ≡ occurrences part more + n) → occurrences part text ≡ n
whole part text n h = ap (occurrences part) (sym (append-nil text)) ∙ h [] ∙ omega arith

abbrev stopping_on : Option GatedChange → Reporting → Data → Stopping
stopping_on change reporting log = stopping_by None (verdict_by change reporting.policy (runs_of log))

piece : (change : Option GatedChange) (reporting : Reporting) (log : Data) → length (reported_by change reporting log) < 2 ^ 64
    → Piece (cases_of (length (listed (reported_by change reporting log)))) (failures_in (stopping_on change reporting log) (listed (reported_by change reporting log)))
    (skipped_in (stopping_on change reporting log) (listed (reported_by change reporting log))) (document_of change reporting log)
piece change reporting log small =
    let fs = reported_by change reporting log in
    let size = length_listed fs in
    document_piece (stopping_on change reporting log) (listed fs) (listed_told fs (told_inside change reporting log)) (omega (arith, size, small))

pub cases_told : (change : Option GatedChange) (reporting : Reporting) (log : Data) → length (reported_by change reporting log) < 2 ^ 64
    → occurrences (codes "<testcase ") (document_of change reporting log) ≡ cases_of (length (reported_by change reporting log))
cases_told change reporting log small =
    whole case_tag (document_of change reporting log) _ (piece change reporting log small).cases ∙ ap cases_of (length_listed (reported_by change reporting log))

one_of_two : (hit stop : Bool) → (stop ≡ true → hit ≡ true)
    → cond {A = ℕ} stop 1 0 + cond {A = ℕ} (hit && not stop) 1 0 ≡ cond hit 1 0
one_of_two true true sure = refl
one_of_two true false sure = refl
one_of_two false true sure = absurd (true≢false (sym (sure refl)))
one_of_two false false sure = refl

abbrev hits_in : List Finding → ℕ
hits_in fs = count_by (λ f. is_hit f.impact) fs

pub both : (v : Stopping) (fs : List Finding) → failures_in v fs + skipped_in v fs ≡ hits_in fs
both v [] = refl
both v (f ∷ fs) =
    let a = sum_by-cons (λ (x : Finding). cond {A = ℕ} (stops v x.impact) 1 0) f fs in
    let b = sum_by-cons (λ (x : Finding). cond {A = ℕ} (is_let_pass v x.impact) 1 0) f fs in
    let c = sum_by-cons (λ (x : Finding). cond {A = ℕ} (is_hit x.impact) 1 0) f fs in
    let one = one_of_two (is_hit f.impact) (stops v f.impact) (stops_hits v f.impact) in
    let rest = both v fs in
    omega (arith, a, b, c, one, rest)

hits_told : (change : Option GatedChange) (reporting : Reporting) (log : Data) → hits_in (listed (reported_by change reporting log)) ≡ hits_by change reporting.policy (runs_of log)
hits_told change reporting log = counted_listed (λ f. is_hit f.impact) (reported_by change reporting log) ∙ hits_inside change reporting log

pub hits_shown : (change : Option GatedChange) (reporting : Reporting) (log : Data) → length (reported_by change reporting log) < 2 ^ 64
    → occurrences (codes "<failure ") (document_of change reporting log) + occurrences (codes "<skipped ") (document_of change reporting log)
    ≡ hits_by change reporting.policy (runs_of log)
hits_shown change reporting log small =
    let fs = listed (reported_by change reporting log) in
    let failures = whole failure_tag (document_of change reporting log) _ (piece change reporting log small).failures in
    let skips = whole skipped_tag (document_of change reporting log) _ (piece change reporting log small).skips in
    let hits = both (stopping_on change reporting log) fs in
    let told = hits_told change reporting log in
    omega (arith, failures, skips, hits, told)

failed_by : (b : Bool) (max hits n : ℕ) → nat_lt max hits ≡ b → n ≡ (if b then hits else 0) → nat_lt 0 n ≡ b
failed_by true max hits n e is =
    let more = ltb-true max hits e in
    lt-ltb 0 n (omega (arith, more, is))
failed_by false max hits n e is = le-ltb 0 n (omega (arith, is))

none_stop : (fs : List Finding) → failures_in NoHit fs ≡ 0
none_stop [] = refl
none_stop (f ∷ fs) =
    let first = sum_by-cons (λ (x : Finding). cond {A = ℕ} false 1 0) f fs in
    let rest = none_stop fs in
    omega (arith, first, rest)

failures_by : (b : Bool) (fs : List Finding) → failures_in (stopping_by None (if b then Fail else Pass)) fs ≡ (if b then hits_in fs else 0)
failures_by true fs = refl
failures_by false fs = none_stop fs

fails_by : (b : Bool) → is_fail (if b then Fail else Pass) ≡ b
fails_by true = refl
fails_by false = refl

pub failures_tell : (change : Option GatedChange) (reporting : Reporting) (log : Data) → length (reported_by change reporting log) < 2 ^ 64
    → nat_lt 0 (occurrences (codes "<failure ") (document_of change reporting log)) ≡ is_fail (verdict_by change reporting.policy (runs_of log))
failures_tell change reporting log small =
    let hits = hits_by change reporting.policy (runs_of log) in
    let over = nat_lt reporting.policy.max hits in
    let failures = whole failure_tag (document_of change reporting log) _ (piece change reporting log small).failures in
    let told = failures_by over (listed (reported_by change reporting log)) ∙ ap (λ n. if over then n else 0) (hits_told change reporting log) in
    failed_by over reporting.policy.max hits _ refl (failures ∙ told) ∙ sym (fails_by over)

-- ---- characters

xml_low : (c : ℕ) → is_control c ≡ false → c < 55296 → is_xml_char c ≡ true
xml_low c h small = grind (arith, nat_tests, h, small)

xml_high : (c : ℕ) → is_control c ≡ false → 57344 ≤ c → c < 1114112 → is_xml_char c ≡ true
xml_high c h large small = grind (arith, nat_tests, h, large, small)

seen_xml : (c : ℕ) → is_seen c ≡ true → scalar c ≡ true → is_xml_char c ≡ true
seen_xml c seen whole =
    let control = (or_parts (is_control c) (is_unseen_mark c || is_blank_letter c) (not-true (is_concealed c) seen)).0 in
    ⊎_elim (λ small. xml_low c control small) (λ range. xml_high c control range.0 range.1) (scalar_cases c whole)

line_xml : (b : Bool) (c : ℕ) → (c == 10) ≡ b → (b || is_seen c) ≡ true → scalar c ≡ true → is_xml_char c ≡ true
line_xml true c e seen whole = let same = eqb-true c 10 e in rw same refl
line_xml false c e seen whole = seen_xml c seen whole

all_xml : (cs : List ℕ) → list_all (λ c. c == 10 || is_seen c) cs ≡ true → scalars cs ≡ true → list_all is_xml_char cs ≡ true
all_xml [] h s = refl
all_xml (c ∷ cs) h s =
    let seen = and_parts (c == 10 || is_seen c) (list_all (λ c. c == 10 || is_seen c) cs) h in
    let whole = and_parts (scalar c) (scalars cs) s in
    and_from (is_xml_char c) (list_all is_xml_char cs) (line_xml (c == 10) c refl seen.0 whole.0) (all_xml cs seen.1 whole.1)

lines_xml : (text : List ℕ) → IsLines text → IsUtf8 text → IsXmlText text
lines_xml text lines utf8 =
    let same : chars text ≡ lines.0 = sym (ap chars lines.1) ∙ chars_back lines.0 in
    (lines.0, lines.1, all_xml lines.0 lines.2 (ap scalars (sym same) ∙ scalars-chars text utf8))

pub characters_allowed : (change : Option GatedChange) (reporting : Reporting) (log : Data) → length (reported_by change reporting log) < 2 ^ 64
    → IsUtf8 (document_of change reporting log) → IsXmlText (document_of change reporting log)
characters_allowed change reporting log small utf8 = lines_xml (document_of change reporting log) (piece change reporting log small).lines utf8
