-- The elements and the characters of the report in JUnit XML.
use Rattle.std.proofs.Common.{◌≡◌, ◌<◌, ◌≤◌, ◌^◌, ◌+◌, ◌==◌, ◌++◌, ℕ, Bool, true, false, not, ◌&&◌, ◌||◌, cond, List, [], ◌∷◌, Option, Some, None, IfSome, codes, decimal, length, map, filter, flat_map, bytes_eq, unwrap_or, if◌then◌else◌, refl, sym, ap, ap₂, subst, ◌∙◌, append_assoc, append-nil, arith}
use Rattle.std.specs.Prelude.{encode_utf8_all, nat_lt}
use Rattle.std.specs.Char.{encode_utf8, is_ascii_digit}
use Rattle.std.specs.List.{AllByRecursion, list_all, sum_by}
use Rattle.std.proofs.lemmas.Bool.{and_from, and_parts, eqb-true, false_from_ne_true, ltb-true, not-true, or_parts, true≢false, or_right}
use Rattle.std.proofs.lemmas.Bool.Decides.{nat_tests}
use Rattle.std.proofs.lemmas.List.{length-append}
use Rattle.std.proofs.lemmas.List.Folds.{flat_map-map}
use Rattle.std.proofs.lemmas.List.Sums.{count_by-le-length, length-filter, sum_by-append, sum_by-cons}
use Rattle.std.proofs.lemmas.Str.{encode_ascii, encodes-append}
use Rattle.sarif_model.specs.Level.{level_name}
use Rattle.sarif_model.specs.State.{state_name}
use Rattle.sarif_shown.specs.declared.stopping.Stopping.{Stopping}
use Rattle.sarif_shown.specs.declared.stopping.Stopping.TheVariants.{EachHit, NoHit, MarkedHit}
use Rattle.sarif_shown.specs.Stopping.{is_let_pass, stops}
use Rattle.sarif_counts.specs.declared.gate_verdict.Impact.{Impact}
use Rattle.sarif_counts.specs.declared.gate_verdict.Impact.TheVariants as impacts
use Rattle.sarif_counts.specs.Impacts.{is_hit}
use Rattle.sarif_findings.specs.declared.finding.Finding.{Finding}
use Rattle.sarif_findings.specs.Finding.{spot_text}
use Rattle.sarif_findings.specs.ShownLaws.{is_seen, are_seen}
use Rattle.sarif_findings.proofs.ToldFindings.{IsPath, IsTold}
use Rattle.sarif_shown.specs.declared.escaping.Escaping.TheVariants.{Page}
use Rattle.sarif_shown.specs.Escaped.{escaped, escaped_char, page_char}
use Rattle.sarif_shown.specs.EscapedLaws.{begins_entity, is_element_text, is_markup}
use Rattle.sarif_reports.specs.JunitReport.{attribute, case_begin, case_name, cases_after, class_of, colon_rule, counted, document_begin, document_end, document_head, end_by, ends_numbered, failure, failure_end, failures_in, file_attribute, junit_document, line_attribute, named_among, nth_name, passed_document, plain_name, results_of, shown_line, skipped, skipped_end, skipped_in, suite_begin, suite_end, suite_of, suites_in, test_case, test_counts, tools_of}
use Rattle.sarif_reports.specs.JunitLaws.{cases_of, occurrences}
use Rattle.sarif_reports.specs.Internal.Suites.{Suite, suites_of, with_result}
use Rattle.sarif_shown.specs.TextReport.{bracketed, result_line}
use Rattle.sarif_shown.proofs.EscapedApart.{decimal_digits, page_apart}
use Rattle.sarif_shown.proofs.SeenTexts.{IsSeenText, escaped_chars, place_seen, plain_text, shown_text, two_texts}
use Rattle.sarif_reports.proofs.SuitesMore.{suites_more}
use Rattle.sarif_shown.proofs.TextApart.{decimal_plain, is_plain, level_plain, state_plain}

-- ---- characters

-- lines of visible characters
abbrev pub IsLines : List ℕ → Type 0
IsLines text = (cs : List ℕ) × (encode_utf8_all cs ≡ text) × (list_all (λ c. c == 10 || is_seen c) cs ≡ true)

all_append : (xs ys : List ℕ) → list_all (λ c. c == 10 || is_seen c) xs ≡ true → list_all (λ c. c == 10 || is_seen c) ys ≡ true
    → list_all (λ c. c == 10 || is_seen c) (xs ++ ys) ≡ true
all_append [] ys h rest = rest
all_append (x ∷ xs) ys h rest =
    let parts = and_parts (x == 10 || is_seen x) (list_all (λ c. c == 10 || is_seen c) xs) h in
    and_from (x == 10 || is_seen x) (list_all (λ c. c == 10 || is_seen c) (xs ++ ys)) parts.0 (all_append xs ys parts.1 rest)

two_lines : (a b : List ℕ) → IsLines a → IsLines b → IsLines (a ++ b)
two_lines a b first second =
    (first.0 ++ second.0, encodes-append first.0 second.0 ∙ ap₂ (λ x y. x ++ y) first.1 second.1, all_append first.0 second.0 first.2 second.2)

abbrev is_line_ascii : ℕ → Bool
is_line_ascii w = nat_lt w 128 && (w == 10 || is_seen w)

ascii_bytes : (ws : List ℕ) → list_all is_line_ascii ws ≡ true → encode_utf8_all ws ≡ ws
ascii_bytes [] h = refl
ascii_bytes (w ∷ ws) h =
    let parts = and_parts (is_line_ascii w) (list_all is_line_ascii ws) h in
    let small = (and_parts (nat_lt w 128) (w == 10 || is_seen w) parts.0).0 in
    ap₂ (λ x y. x ++ y) (encode_ascii w (ltb-true w 128 small)) (ascii_bytes ws parts.1)

ascii_all : (ws : List ℕ) → list_all is_line_ascii ws ≡ true → list_all (λ c. c == 10 || is_seen c) ws ≡ true
ascii_all [] h = refl
ascii_all (w ∷ ws) h =
    let parts = and_parts (is_line_ascii w) (list_all is_line_ascii ws) h in
    and_from (w == 10 || is_seen w) (list_all (λ c. c == 10 || is_seen c) ws) (and_parts (nat_lt w 128) (w == 10 || is_seen w) parts.0).1 (ascii_all ws parts.1)

ascii_lines : (ws : List ℕ) → list_all is_line_ascii ws ≡ true → IsLines ws
ascii_lines ws h = (ws, ascii_bytes ws h, ascii_all ws h)

char_lines : (c : ℕ) → is_seen c ≡ true → IsLines (encode_utf8 c)
char_lines c seen = (c ∷ [], append-nil (encode_utf8 c), and_from (c == 10 || is_seen c) true (or_right (c == 10) (is_seen c) seen) refl)

page_lines : (b0 b1 b2 b3 b4 : Bool) (c : ℕ) → is_seen c ≡ true
    → IsLines
    (if b0 then codes "&amp;" else
    (if b1 then codes "&lt;" else
    (if b2 then codes "&gt;" else (if b3 then codes "&quot;" else (if b4 then codes "&#39;" else encode_utf8 c)))))
page_lines true b1 b2 b3 b4 c seen = ascii_lines (codes "&amp;") refl
page_lines false true b2 b3 b4 c seen = ascii_lines (codes "&lt;") refl
page_lines false false true b3 b4 c seen = ascii_lines (codes "&gt;") refl
page_lines false false false true b4 c seen = ascii_lines (codes "&quot;") refl
page_lines false false false false true c seen = ascii_lines (codes "&#39;") refl
page_lines false false false false false c seen = char_lines c seen

pages_lines : (cs : List ℕ) → are_seen cs ≡ true → IsLines (flat_map (escaped_char Page) cs)
pages_lines [] seen = ascii_lines [] refl
pages_lines (c ∷ cs) seen =
    let parts = and_parts (is_seen c) (are_seen cs) seen in
    two_lines (page_char c) (flat_map (escaped_char Page) cs) (page_lines (c == 38) (c == 60) (c == 62) (c == 34) (c == 39) c parts.0) (pages_lines cs parts.1)

escaped_lines : (text : List ℕ) → IsSeenText text → IsLines (escaped Page text)
escaped_lines text is = subst IsLines (sym (escaped_chars Page text is)) (pages_lines is.0 is.2)

-- ---- elements

abbrev pub case_tag : List ℕ
case_tag = codes "<testcase "

abbrev pub failure_tag : List ℕ
failure_tag = codes "<failure "

abbrev pub skipped_tag : List ℕ
skipped_tag = codes "<skipped "

abbrev is_no_tag : ℕ → Bool
is_no_tag b = not (b == 60)

other_way : (b : ℕ) → is_no_tag b ≡ true → (60 == b) ≡ false
other_way b h =
    false_from_ne_true _ (λ same. true≢false (sym (ap (λ k. k == 60) (sym (eqb-true 60 b same))) ∙ not-true (b == 60) h))

no_case : (ws more : List ℕ) → list_all is_no_tag ws ≡ true → occurrences case_tag (ws ++ more) ≡ occurrences case_tag more
no_case [] more h = refl
no_case (w ∷ ws) more h =
    let parts = and_parts (is_no_tag w) (list_all is_no_tag ws) h in
    rw (other_way w parts.0) (no_case ws more parts.1)

no_failure : (ws more : List ℕ) → list_all is_no_tag ws ≡ true → occurrences failure_tag (ws ++ more) ≡ occurrences failure_tag more
no_failure [] more h = refl
no_failure (w ∷ ws) more h =
    let parts = and_parts (is_no_tag w) (list_all is_no_tag ws) h in
    rw (other_way w parts.0) (no_failure ws more parts.1)

no_skip : (ws more : List ℕ) → list_all is_no_tag ws ≡ true → occurrences skipped_tag (ws ++ more) ≡ occurrences skipped_tag more
no_skip [] more h = refl
no_skip (w ∷ ws) more h =
    let parts = and_parts (is_no_tag w) (list_all is_no_tag ws) h in
    rw (other_way w parts.0) (no_skip ws more parts.1)

-- a part of a document: its characters, and how many test cases, failures and skipped ones begin in it
pub record Piece (a b c : ℕ) (text : List ℕ) : Type 0 where
  pub cases : (more : List ℕ) → occurrences case_tag (text ++ more) ≡ occurrences case_tag more + a
  pub failures : (more : List ℕ) → occurrences failure_tag (text ++ more) ≡ occurrences failure_tag more + b
  pub skips : (more : List ℕ) → occurrences skipped_tag (text ++ more) ≡ occurrences skipped_tag more + c
  pub lines : IsLines text

none : {x y : ℕ} → x ≡ y → x ≡ y + 0
none e = omega (arith, e)

one_after : (x y z m n : ℕ) → x ≡ y + m → y ≡ z + n → x ≡ z + (m + n)
one_after x y z m n e d = omega (arith, e, d)

then_piece : {a b c a' b' c' : ℕ} {s t : List ℕ} → Piece a b c s → Piece a' b' c' t → Piece (a + a') (b + b') (c + c') (s ++ t)
then_piece {a} {b} {c} {a'} {b'} {c'} {s} {t} first second = record {
  cases = λ more. ap (occurrences case_tag) (append_assoc s t more)
      ∙ (let e = first.cases (t ++ more) in let d = second.cases more in omega (arith, e, d));
  failures = λ more. ap (occurrences failure_tag) (append_assoc s t more)
      ∙ (let e = first.failures (t ++ more) in let d = second.failures more in omega (arith, e, d));
  skips = λ more. ap (occurrences skipped_tag) (append_assoc s t more)
      ∙ (let e = first.skips (t ++ more) in let d = second.skips more in omega (arith, e, d));
  lines = two_lines s t first.lines second.lines;
}

-- the same part, with its numbers written in another way
as_piece : {a b c : ℕ} {t : List ℕ} (a' b' c' : ℕ) → a ≡ a' → b ≡ b' → c ≡ c' → Piece a b c t → Piece a' b' c' t
as_piece a' b' c' e f g piece = record {
  cases = λ more. piece.cases more ∙ ap (λ n. occurrences case_tag more + n) e;
  failures = λ more. piece.failures more ∙ ap (λ n. occurrences failure_tag more + n) f;
  skips = λ more. piece.skips more ∙ ap (λ n. occurrences skipped_tag more + n) g;
  lines = piece.lines;
}

quiet_piece : (ws : List ℕ) → list_all is_no_tag ws ≡ true → IsLines ws → Piece 0 0 0 ws
quiet_piece ws h lines = record {
  cases = λ more. none (no_case ws more h);
  failures = λ more. none (no_failure ws more h);
  skips = λ more. none (no_skip ws more h);
  lines = lines;
}

-- ---- strings and numbers

element_tags : (text : List ℕ) → is_element_text text ≡ true → list_all is_no_tag text ≡ true
element_tags [] h = refl
element_tags (b ∷ bs) h =
    let parts = and_parts (not (is_markup b)) ((not (b == 38) || begins_entity (b ∷ bs)) && is_element_text bs) h in
    let tests = or_parts (b == 60) (b == 62 || (b == 34 || b == 39)) (not-true (is_markup b) parts.0) in
    and_from (is_no_tag b) (list_all is_no_tag bs) (ap not tests.0)
    (element_tags bs (and_parts (not (b == 38) || begins_entity (b ∷ bs)) (is_element_text bs) parts.1).1)

escaped_piece : (text : List ℕ) → IsSeenText text → Piece 0 0 0 (escaped Page text)
escaped_piece text is = quiet_piece (escaped Page text) (element_tags (escaped Page text) (page_apart text)) (escaped_lines text is)

digit_line : (d : ℕ) → is_ascii_digit d ≡ true → is_no_tag d ≡ true
digit_line d h = grind (arith, nat_tests, h)

digits_tags : (ds : List ℕ) → list_all is_ascii_digit ds ≡ true → list_all is_no_tag ds ≡ true
digits_tags [] h = refl
digits_tags (d ∷ ds) h =
    let parts = and_parts (is_ascii_digit d) (list_all is_ascii_digit ds) h in
    and_from (is_no_tag d) (list_all is_no_tag ds) (digit_line d parts.0) (digits_tags ds parts.1)

plains_ascii : (ws : List ℕ) → list_all is_plain ws ≡ true → list_all is_line_ascii ws ≡ true
plains_ascii [] h = refl
plains_ascii (w ∷ ws) h =
    let parts = and_parts (is_plain w) (list_all is_plain ws) h in
    let tests = and_parts (is_seen w) (not (w == 35) && nat_lt w 128) parts.0 in
    and_from (is_line_ascii w) (list_all is_line_ascii ws)
    (and_from (nat_lt w 128) (w == 10 || is_seen w) (and_parts (not (w == 35)) (nat_lt w 128) tests.1).1 (or_right (w == 10) (is_seen w) tests.0))
    (plains_ascii ws parts.1)

number_piece : (n : ℕ) → n < 2 ^ 64 → Piece 0 0 0 (decimal n)
number_piece n small =
    quiet_piece (decimal n) (digits_tags (decimal n) (decimal_digits n small)) (ascii_lines (decimal n) (plains_ascii (decimal n) (decimal_plain n small)))

attribute_piece : {a b c : ℕ} (begin value : List ℕ) → Piece a b c begin → IsSeenText value → Piece a b c (attribute begin value)
unfolding attribute
attribute_piece {a} {b} {c} begin value first is =
    as_piece a b c (omega arith) (omega arith) (omega arith) (then_piece first (escaped_piece value is))

counted_piece : (begin : List ℕ) (n : ℕ) → Piece 0 0 0 begin → n < 2 ^ 64 → Piece 0 0 0 (counted begin n)
unfolding counted
counted_piece begin n first small = as_piece 0 0 0 refl refl refl (then_piece first (number_piece n small))

-- ---- seen strings

colon_seen : (rule : List ℕ) → IsSeenText rule → IsSeenText (colon_rule rule)
colon_seen [] is = plain_text [] refl
colon_seen (b ∷ bs) is = two_texts (codes ": ") (b ∷ bs) (plain_text (codes ": ") refl) is

name_seen : (f : Finding) → IsTold f → IsSeenText (plain_name f)
name_seen f told = two_texts (spot_text f) (colon_rule f.rule) (place_seen f told) (colon_seen f.rule (shown_text f.rule told.rule))

nth_by : (b : Bool) (name : List ℕ) (n : ℕ) → IsSeenText name → n < 2 ^ 64 → IsSeenText (if b then name ++ (codes " (" ++ (decimal n ++ codes ")")) else name)
nth_by true name n is small =
    two_texts name _ is
    (two_texts (codes " (") _ (plain_text (codes " (") refl)
    (two_texts (decimal n) (codes ")") (plain_text (decimal n) (decimal_plain n small)) (plain_text (codes ")") refl)))
nth_by false name n is small = is

nth_seen : (name : List ℕ) (n : ℕ) → IsSeenText name → n < 2 ^ 64 → IsSeenText (nth_name name n)
unfolding nth_name
nth_seen name n is small = nth_by (nat_lt 1 n || ends_numbered name) name n is small

bracketed_seen : (rule : List ℕ) → IsSeenText rule → IsSeenText (bracketed rule)
bracketed_seen [] is = plain_text [] refl
bracketed_seen (b ∷ bs) is = two_texts (codes " [") _ (plain_text (codes " [") refl) (two_texts (b ∷ bs) (codes "]") is (plain_text (codes "]") refl))

line_seen : (f : Finding) → IsTold f → IsSeenText (result_line f)
line_seen f told =
    two_texts (spot_text f) _ (place_seen f told)
    (two_texts _ _
    (two_texts (codes ": ") _ (plain_text (codes ": ") refl)
    (two_texts (level_name f.level) _ (plain_text (level_name f.level) (level_plain f.level))
    (two_texts (codes ": ") f.message (plain_text (codes ": ") refl) (shown_text f.message told.message))))
    (two_texts (bracketed f.rule) _ (bracketed_seen f.rule (shown_text f.rule told.rule))
    (two_texts (codes " (") _ (plain_text (codes " (") refl)
    (two_texts f.tool _ (shown_text f.tool told.tool)
    (two_texts (codes ", ") _ (plain_text (codes ", ") refl)
    (two_texts (state_name f.state) (codes ")") (plain_text (state_name f.state) (state_plain f.state)) (plain_text (codes ")") refl)))))))

class_seen : (path : Option (List ℕ)) (tool : List ℕ) → IfSome path IsPath → IsSeenText tool → IsSeenText (unwrap_or path tool)
class_seen None tool is is' = is'
class_seen (Some path) tool is is' = shown_text path is.shown

-- ---- a test case

file_piece : (path : Option (List ℕ)) → IfSome path IsPath → Piece 0 0 0 (file_attribute path)
file_piece None is = quiet_piece [] refl (ascii_lines [] refl)
file_piece (Some path) is =
    as_piece 0 0 0 refl refl refl
    (then_piece (attribute_piece (codes " file=\"") path (quiet_piece (codes " file=\"") refl (ascii_lines (codes " file=\"") refl)) (shown_text path is.shown))
    (quiet_piece (codes "\"") refl (ascii_lines (codes "\"") refl)))

line_piece : (line : Option ℕ) → IfSome line (λ k. k < 2 ^ 64) → Piece 0 0 0 (line_attribute line)
line_piece None small = quiet_piece [] refl (ascii_lines [] refl)
line_piece (Some line) small =
    as_piece 0 0 0 refl refl refl
    (then_piece (quiet_piece (codes " line=\"") refl (ascii_lines (codes " line=\"") refl))
    (then_piece (number_piece line small) (quiet_piece (codes "\"") refl (ascii_lines (codes "\"") refl))))

case_first : Piece 1 0 0 (codes "<testcase name=\"")
case_first = record { cases = λ more. refl; failures = λ more. none refl; skips = λ more. none refl; lines = ascii_lines (codes "<testcase name=\"") refl }

begin_piece : (name : List ℕ) (f : Finding) → IsSeenText name → IsTold f → Piece 1 0 0 (case_begin name f)
unfolding case_begin
begin_piece name f is told =
    as_piece 1 0 0 refl refl refl
    (then_piece (attribute_piece (codes "<testcase name=\"") name case_first is)
    (then_piece
    (attribute_piece (codes "\" classname=\"") (class_of f)
    (quiet_piece (codes "\" classname=\"") refl (ascii_lines (codes "\" classname=\"") refl))
    (class_seen f.path f.tool told.path (shown_text f.tool told.tool)))
    (then_piece (quiet_piece (codes "\"") refl (ascii_lines (codes "\"") refl)) (then_piece (file_piece f.path told.path) (line_piece f.line told.line)))))

failure_first : Piece 0 1 0 (codes "><failure type=\"")
failure_first = record { cases = λ more. none refl; failures = λ more. refl; skips = λ more. none refl; lines = ascii_lines (codes "><failure type=\"") refl }

failure_last : Piece 0 0 0 failure_end
unfolding failure_end
failure_last =
    record {
      cases = λ more. none refl;
      failures = λ more. none refl;
      skips = λ more. none refl;
      lines =
          ascii_lines (codes "</failure></testcase>\n") refl;
    }

shown_piece : (f : Finding) → IsTold f → Piece 0 0 0 (shown_line f)
unfolding shown_line
shown_piece f told = attribute_piece (codes "\">") (result_line f) (quiet_piece (codes "\">") refl (ascii_lines (codes "\">") refl)) (line_seen f told)

failure_piece : (f : Finding) → IsTold f → Piece 0 1 0 (failure f)
unfolding failure
failure_piece f told =
    as_piece 0 1 0 refl refl refl
    (then_piece (attribute_piece (codes "><failure type=\"") (level_name f.level) failure_first (plain_text (level_name f.level) (level_plain f.level)))
    (then_piece
    (attribute_piece (codes "\" message=\"") f.message (quiet_piece (codes "\" message=\"") refl (ascii_lines (codes "\" message=\"") refl))
    (shown_text f.message told.message))
    (then_piece (shown_piece f told) failure_last)))

skipped_first : Piece 0 0 1 (codes "><skipped message=\"")
skipped_first =
    record {
      cases = λ more. none refl;
      failures = λ more. none refl;
      skips = λ more. refl;
      lines =
          ascii_lines (codes "><skipped message=\"") refl;
    }

skipped_last : Piece 0 0 0 skipped_end
unfolding skipped_end
skipped_last =
    record {
      cases = λ more. none refl;
      failures = λ more. none refl;
      skips = λ more. none refl;
      lines =
          ascii_lines (codes "\"/></testcase>\n") refl;
    }

skipped_piece : (f : Finding) → IsTold f → Piece 0 0 1 (skipped f)
unfolding skipped
skipped_piece f told =
    as_piece 0 0 1 refl refl refl
    (then_piece (attribute_piece (codes "><skipped message=\"") f.message skipped_first (shown_text f.message told.message)) skipped_last)

abbrev one_if : Bool → ℕ
one_if b = if b then 1 else 0

abbrev fails_one : Stopping → Finding → ℕ
fails_one v f = one_if (stops v f.impact)

abbrev skips_one : Stopping → Finding → ℕ
skips_one v f = one_if (is_let_pass v f.impact)

passed_end : Piece 0 0 0 (codes "/>\n")
passed_end = quiet_piece (codes "/>\n") refl (ascii_lines (codes "/>\n") refl)

-- by whether a result stops the change, and whether it is a hit; what stops the change is a hit
end_piece : (stop hit : Bool) (f : Finding) → (stop ≡ true → hit ≡ true) → IsTold f
    → Piece 0 (one_if stop) (one_if (hit && not stop)) (end_by stop hit f)
end_piece true true f sure told = failure_piece f told
end_piece true false f sure told = absurd (true≢false (sym (sure refl)))
end_piece false true f sure told = skipped_piece f told
end_piece false false f sure told = passed_end

pub stops_hits : (v : Stopping) (i : Impact) → stops v i ≡ true → is_hit i ≡ true
stops_hits EachHit i e = e
stops_hits NoHit i e = absurd (true≢false (sym e))
stops_hits MarkedHit impacts.Stops e = refl
stops_hits MarkedHit impacts.Hit e = refl
stops_hits MarkedHit impacts.None e = e

case_piece : (v : Stopping) (name : List ℕ) (f : Finding) → IsSeenText name → IsTold f → Piece 1 (fails_one v f) (skips_one v f) (test_case v name f)
case_piece v name f is told =
    as_piece 1 (fails_one v f) (skips_one v f) refl (omega arith) (omega arith)
    (then_piece (begin_piece name f is told) (end_piece (stops v f.impact) (is_hit f.impact) f (stops_hits v f.impact) told))

-- ---- the test cases of a suite

fails_more : (v : Stopping) (f : Finding) (fs : List Finding) → failures_in v (f ∷ fs) ≡ fails_one v f + failures_in v fs
fails_more v f fs = sum_by-cons (λ x. cond (stops v x.impact) 1 0) f fs

skips_more : (v : Stopping) (f : Finding) (fs : List Finding) → skipped_in v (f ∷ fs) ≡ skips_one v f + skipped_in v fs
skips_more v f fs = sum_by-cons (λ x. cond (is_let_pass v x.impact) 1 0) f fs

nothing_piece : Piece 0 0 0 []
nothing_piece = quiet_piece [] refl (ascii_lines [] refl)

cases_piece : (v : Stopping) (before fs : List Finding) → AllByRecursion IsTold fs → length before + length fs < 2 ^ 64
    → Piece (length fs) (failures_in v fs) (skipped_in v fs) (cases_after v before fs)
cases_piece v before [] told small = nothing_piece
cases_piece v before (f ∷ fs) told small =
    let few = count_by-le-length (λ x. bytes_eq (plain_name f) (plain_name x)) before in
    let long = length-append before (f ∷ []) in
    let name = nth_seen (plain_name f) (named_among before (plain_name f) + 1) (name_seen f told.0) (omega (arith, few, small)) in
    let rest = cases_piece v (before ++ f ∷ []) fs told.1 (omega (arith, long, small)) in
    as_piece (length (f ∷ fs)) (failures_in v (f ∷ fs)) (skipped_in v (f ∷ fs)) (omega arith) (sym (fails_more v f fs)) (sym (skips_more v f fs))
    (then_piece (case_piece v (case_name before f) f name told.0) rest)

-- ---- suites

fails_few : (v : Stopping) (fs : List Finding) → failures_in v fs ≤ length fs
fails_few v fs = count_by-le-length (λ x. stops v x.impact) fs

skips_few : (v : Stopping) (fs : List Finding) → skipped_in v fs ≤ length fs
skips_few v fs = count_by-le-length (λ x. is_let_pass v x.impact) fs

counts_piece : (v : Stopping) (fs : List Finding) → length fs < 2 ^ 64 → Piece 0 0 0 (test_counts v fs)
unfolding test_counts
counts_piece v fs small =
    let few = fails_few v fs in
    as_piece 0 0 0 refl refl refl
    (then_piece (counted_piece (codes "\" tests=\"") (length fs) (quiet_piece (codes "\" tests=\"") refl (ascii_lines (codes "\" tests=\"") refl)) small)
    (counted_piece (codes "\" failures=\"") (failures_in v fs)
    (quiet_piece (codes "\" failures=\"") refl (ascii_lines (codes "\" failures=\"") refl)) (omega (arith, few, small))))

suite_first : Piece 0 0 0 (codes "<testsuite name=\"")
suite_first =
    record {
      cases = λ more. none refl;
      failures = λ more. none refl;
      skips = λ more. none refl;
      lines =
          ascii_lines (codes "<testsuite name=\"") refl;
    }

tag_last : Piece 0 0 0 (codes "\">\n")
tag_last = quiet_piece (codes "\">\n") refl (ascii_lines (codes "\">\n") refl)

suite_begins : (v : Stopping) (tool : List ℕ) (fs : List Finding) → IsSeenText tool → length fs < 2 ^ 64 → Piece 0 0 0 (suite_begin v tool fs)
unfolding suite_begin
suite_begins v tool fs is small =
    let few = skips_few v fs in
    as_piece 0 0 0 refl refl refl
    (then_piece (attribute_piece (codes "<testsuite name=\"") tool suite_first is)
    (then_piece (counts_piece v fs small)
    (then_piece
    (counted_piece (codes "\" skipped=\"") (skipped_in v fs)
    (quiet_piece (codes "\" skipped=\"") refl (ascii_lines (codes "\" skipped=\"") refl)) (omega (arith, few, small)))
    tag_last)))

suite_last : Piece 0 0 0 suite_end
unfolding suite_end
suite_last = record { cases = λ more. none refl; failures = λ more. none refl; skips = λ more. none refl; lines = ascii_lines (codes "</testsuite>\n") refl }

-- a suite of results of a log
record IsGood (s : Suite) : Type 0 where
  tool : IsSeenText s.0
  told : AllByRecursion IsTold s.1
  small : length s.1 < 2 ^ 64

suite_piece : (v : Stopping) (s : Suite) → IsGood s → Piece (length s.1) (failures_in v s.1) (skipped_in v s.1) (suite_of v s.0 s.1)
suite_piece v s good =
    let small = good.small in
    as_piece (length s.1) (failures_in v s.1) (skipped_in v s.1) (omega arith) (omega arith) (omega arith)
    (then_piece (suite_begins v s.0 s.1 good.tool good.small) (then_piece (cases_piece v [] s.1 good.told (omega (arith, small))) suite_last))

abbrev total : (List Finding → ℕ) → List Suite → ℕ
total size suites = sum_by (λ s. size s.1) suites

all_suites : (v : Stopping) (suites : List Suite) → AllByRecursion IsGood suites
    → Piece (total length suites) (total (failures_in v) suites) (total (skipped_in v) suites) (flat_map (λ s. suite_of v s.0 s.1) suites)
all_suites v [] good = nothing_piece
all_suites v (s ∷ suites) good =
    as_piece (total length (s ∷ suites)) (total (failures_in v) (s ∷ suites)) (total (skipped_in v) (s ∷ suites))
    (sym (sum_by-cons (λ s. length s.1) s suites)) (sym (sum_by-cons (λ s. failures_in v s.1) s suites)) (sym (sum_by-cons (λ s. skipped_in v s.1) s suites))
    (then_piece (suite_piece v s good.0) (all_suites v suites good.1))

-- ---- each result is in one suite

-- a number of results that grows with each
record IsSize (size : List Finding → ℕ) : Type 0 where
  zero : size [] ≡ 0
  more : (gs : List Finding) (f : Finding) → size (gs ++ f ∷ []) ≡ size gs + size (f ∷ [])

total_by : (b : Bool) (size : List Finding → ℕ) → IsSize size → (f : Finding) (s : Suite) (suites : List Suite)
    → total size (with_result f suites) ≡ total size suites + size (f ∷ [])
    → total size (if b then (s.0, s.1 ++ f ∷ []) ∷ suites else s ∷ with_result f suites) ≡ total size (s ∷ suites) + size (f ∷ [])
total_by true size is f s suites rest =
    let new = sum_by-cons (λ s. size s.1) (s.0, s.1 ++ f ∷ []) suites in
    let old = sum_by-cons (λ s. size s.1) s suites in
    let grown = is.more s.1 f in
    omega (arith, new, old, grown)
total_by false size is f s suites rest =
    let new = sum_by-cons (λ s. size s.1) s (with_result f suites) in
    let old = sum_by-cons (λ s. size s.1) s suites in
    omega (arith, new, old, rest)

total_more : (size : List Finding → ℕ) → IsSize size → (f : Finding) (suites : List Suite)
    → total size (with_result f suites) ≡ total size suites + size (f ∷ [])
total_more size is f [] = let one = sum_by-cons (λ (s : Suite). size s.1) (f.tool, f ∷ []) [] in omega (arith, one)
total_more size is f (s ∷ suites) = total_by (bytes_eq f.tool s.0) size is f s suites (total_more size is f suites)

total_after : (size : List Finding → ℕ) → IsSize size → (done fs : List Finding) → total size (suites_of done) ≡ size done
    → total size (suites_of (done ++ fs)) ≡ size (done ++ fs)
total_after size is done [] h = subst (λ gs. total size (suites_of gs) ≡ size gs) (sym (append-nil done)) h
total_after size is done (f ∷ fs) h =
    let next : total size (suites_of (done ++ f ∷ [])) ≡ size (done ++ f ∷ []) =
    ap (total size) (suites_more done f) ∙ total_more size is f (suites_of done) ∙ ap (λ n. n + size (f ∷ [])) h ∙ sym (is.more done f) in
    subst (λ gs. total size (suites_of gs) ≡ size gs) (append_assoc done (f ∷ []) fs) (total_after size is (done ++ f ∷ []) fs next)

total_is : (size : List Finding → ℕ) → IsSize size → (fs : List Finding) → total size (suites_of fs) ≡ size fs
total_is size is fs = total_after size is [] fs (sym is.zero)

length_size : IsSize length
length_size = record { zero = refl; more = λ gs f. length-append gs (f ∷ []) }

fails_size : (v : Stopping) → IsSize (failures_in v)
fails_size v = record { zero = refl; more = λ gs f. sum_by-append (λ x. cond (stops v x.impact) 1 0) gs (f ∷ []) }

skips_size : (v : Stopping) → IsSize (skipped_in v)
skips_size v = record { zero = refl; more = λ gs f. sum_by-append (λ x. cond (is_let_pass v x.impact) 1 0) gs (f ∷ []) }

fails_total : (v : Stopping) (fs : List Finding) → total (failures_in v) (suites_of fs) ≡ failures_in v fs
fails_total v fs = total_is (failures_in v) (fails_size v) fs

skips_total : (v : Stopping) (fs : List Finding) → total (skipped_in v) (suites_of fs) ≡ skipped_in v fs
skips_total v fs = total_is (skipped_in v) (skips_size v) fs

-- ---- the suites of results of a log

kept_by : {X : Type 0} (P : X → Type 0) (b : Bool) (x : X) (xs : List X) → P x → AllByRecursion P xs → AllByRecursion P (cond b (x ∷ xs) xs)
kept_by P true x xs here rest = (here, rest)
kept_by P false x xs here rest = rest

pub all_kept : {X : Type 0} (P : X → Type 0) (test : X → Bool) (xs : List X) → AllByRecursion P xs → AllByRecursion P (filter test xs)
all_kept P test [] h = tt
all_kept P test (x ∷ xs) h = kept_by P (test x) x (filter test xs) h.0 (all_kept P test xs h.1)

tools_seen : (fs : List Finding) → AllByRecursion IsTold fs → AllByRecursion IsSeenText (tools_of fs)
tools_seen [] told = tt
tools_seen (f ∷ fs) told = (shown_text f.tool told.0.tool, all_kept IsSeenText (λ tool. not (bytes_eq f.tool tool)) (tools_of fs) (tools_seen fs told.1))

all_good : (fs : List Finding) (tools : List (List ℕ)) → AllByRecursion IsTold fs → length fs < 2 ^ 64 → AllByRecursion IsSeenText tools
    → AllByRecursion IsGood (map (λ tool. (tool, results_of fs tool)) tools)
all_good fs [] told small seen = tt
all_good fs (t ∷ tools) told small seen =
    let size = length-filter (λ f. bytes_eq t f.tool) fs in
    let few = count_by-le-length (λ f. bytes_eq t f.tool) fs in (
      record { tool = seen.0; told = all_kept IsTold (λ f. bytes_eq t f.tool) fs told; small = omega (arith, size, few, small) },
      all_good fs tools told small seen.1,
    )

suites_piece : (v : Stopping) (fs : List Finding) → AllByRecursion IsTold fs → length fs < 2 ^ 64
    → Piece (length fs) (failures_in v fs) (skipped_in v fs) (suites_in v fs)
suites_piece v fs told small =
    let whole = all_suites v (suites_of fs) (all_good fs (tools_of fs) told small (tools_seen fs told)) in
    subst (Piece (length fs) (failures_in v fs) (skipped_in v fs)) (flat_map-map (λ s. suite_of v s.0 s.1) (λ tool. (tool, results_of fs tool)) (tools_of fs))
    (as_piece (length fs) (failures_in v fs) (skipped_in v fs) (total_is length length_size fs) (fails_total v fs) (skips_total v fs) whole)

-- ---- the document

head_piece : Piece 0 0 0 document_head
unfolding document_head
head_piece = record { cases = λ more. none refl; failures = λ more. none refl; skips = λ more. none refl; lines = ascii_lines document_head refl }

last_piece : Piece 0 0 0 document_end
unfolding document_end
last_piece = record { cases = λ more. none refl; failures = λ more. none refl; skips = λ more. none refl; lines = ascii_lines (codes "</testsuites>\n") refl }

passed_piece : Piece 1 0 0 passed_document
unfolding passed_document
passed_piece = record { cases = λ more. refl; failures = λ more. none refl; skips = λ more. none refl; lines = ascii_lines passed_document refl }

document_begins : (v : Stopping) (fs : List Finding) → length fs < 2 ^ 64 → Piece 0 0 0 (document_begin v fs)
unfolding document_begin
document_begins v fs small = as_piece 0 0 0 refl refl refl (then_piece head_piece (then_piece (counts_piece v fs small) tag_last))

nothing_in : (v : Stopping) (fs : List Finding) → (length fs == 0) ≡ true → (failures_in v fs ≡ 0) × (skipped_in v fs ≡ 0)
nothing_in v fs none =
    let size = eqb-true (length fs) 0 none in
    let few = fails_few v fs in
    let few' = skips_few v fs in
    (omega (arith, size, few), omega (arith, size, few'))

document_by : (b : Bool) (v : Stopping) (fs : List Finding) → (length fs == 0) ≡ b → AllByRecursion IsTold fs → length fs < 2 ^ 64
    → Piece (if b then 1 else length fs) (failures_in v fs) (skipped_in v fs)
    (if b then passed_document else document_begin v fs ++ (suites_in v fs ++ document_end))
document_by true v fs e told small =
    let none = nothing_in v fs e in
    as_piece 1 (failures_in v fs) (skipped_in v fs) refl (sym none.0) (sym none.1) passed_piece
document_by false v fs e told small =
    as_piece (length fs) (failures_in v fs) (skipped_in v fs) (omega arith) (omega arith) (omega arith)
    (then_piece (document_begins v fs small) (then_piece (suites_piece v fs told small) last_piece))

pub document_piece : (v : Stopping) (fs : List Finding) → AllByRecursion IsTold fs → length fs < 2 ^ 64
    → Piece (cases_of (length fs)) (failures_in v fs) (skipped_in v fs) (junit_document v fs)
document_piece v fs told small = document_by (length fs == 0) v fs refl told small
