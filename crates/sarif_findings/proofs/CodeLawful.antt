-- The properties of a code, for any snippets.
use Rattle.std.proofs.Common.{◌≡◌, ◌<◌, ◌≤◌, ◌+◌, ◌-◌, ◌==◌, ℕ, zero, suc, Bool, true, false, cond, not, ◌&&◌, ◌||◌, List, [], ◌∷◌, ◌++◌, Option, Some, None, IfSome, length, get_or, map, filter, take, drop, reverse, replicate, chars, encode_utf8, refl, sym, subst, ap, ◌∙◌, inl, inr, arith, if◌then◌else◌}
use Rattle.std.specs.Prelude.{min, fold, flat_map, nat_le, nat_lt, option_map, option_and_then, encode_utf8_all}
use Rattle.std.specs.List.{AllByRecursion, list_any, prefix_len, suffix_len}
use Rattle.std.specs.Option.{option_or}
use Rattle.std.specs.Str.Lines as of_text
use Rattle.std.proofs.Math.Nat.{min-eq_left, min-eq_right}
use Rattle.std.proofs.lemmas.Bool.{and_parts, and_from, or_cases, or_left, or_right, cases_lt, eq-eqb, eqb-true, ne_eqb, eqb-false, leb-true, ltb-true, true≢false}
use Rattle.std.proofs.lemmas.List.{length-map, length-take-le, length-drop, length-take, length-reverse, get_or-drop, get_or-take, get_or-reverse, get_or-map}
use Rattle.std.proofs.lemmas.List.Sums.{prefix_len_stops}
use Rattle.std.proofs.lemmas.Str.{char_from_byte, length-le-encodes}
use Rattle.sarif_model.specs.Members.{none_if_empty}
use Rattle.sarif_findings.specs.declared.code.Code.{Code}
use Rattle.sarif_findings.specs.Code.{chosen_lines, code_by, common_indent, cut_line, cut_lines, if_before, indent_of, index_among, is_blank, is_written, least, lines_around, lines_without_hit, most_lines, most_of_line, own_lines, spread, spread_line, spread_lines, taken_lines, trimmed_lines, two_before, unless_empty, with_hit, without_indent}
use Rattle.sarif_findings.specs.CodeLaws.{HasNumber, IsCode, IsSeenLine, begins_filled, begins_without_space}
use Rattle.sarif_findings.specs.CodeRows.{is_filled}
use Rattle.sarif_findings.specs.Shown.{kept, plain}
use Rattle.sarif_findings.specs.ShownLaws.{are_seen, is_seen}
use Rattle.sarif_findings.proofs.CharsBack.{chars_back}
use Rattle.sarif_findings.proofs.CodeLines.{least_within, within_by}
use Rattle.sarif_findings.proofs.SeenMore.{kept_seen, plain_seen}
use Rattle.sarif_findings.proofs.ShownMore.{kept-cons}

-- ---- the characters of a line

seen_append : (xs ys : List ℕ) → are_seen xs ≡ true → are_seen ys ≡ true → are_seen (xs ++ ys) ≡ true
seen_append [] ys first second = second
seen_append (c ∷ cs) ys first second =
    let parts = and_parts (is_seen c) (are_seen cs) first in
    and_from (is_seen c) (are_seen (cs ++ ys)) parts.0 (seen_append cs ys parts.1 second)

spread_seen_by : (b : Bool) (c : ℕ) → are_seen (if b then replicate 4 32 else plain c ∷ []) ≡ true
spread_seen_by true c = refl
spread_seen_by false c = and_from (is_seen (plain c)) true (plain_seen c) refl

spread_seen : (cs : List ℕ) → are_seen (flat_map spread cs) ≡ true
spread_seen [] = refl
spread_seen (c ∷ cs) = seen_append (spread c) (flat_map spread cs) (spread_seen_by (c == 9) c) (spread_seen cs)

drop_seen : (n : ℕ) (cs : List ℕ) → are_seen cs ≡ true → are_seen (drop n cs) ≡ true
drop_seen zero cs h = h
drop_seen (suc n) [] h = refl
drop_seen (suc n) (c ∷ cs) h = drop_seen n cs (and_parts (is_seen c) (are_seen cs) h).1

without_seen_by : (b : Bool) (n : ℕ) (line : List ℕ) → are_seen line ≡ true → are_seen (if b then [] else drop n line) ≡ true
without_seen_by true n line h = refl
without_seen_by false n line h = drop_seen n line h

kept_short : (room : ℕ) (cs : List ℕ) → length (kept room cs) ≤ room + 1
unfolding kept
kept_short zero [] = omega arith
kept_short (suc room) [] = omega arith
kept_short zero (c ∷ cs) = omega arith
kept_short (suc room) (c ∷ cs) = let h : length (kept room cs) ≤ room + 1 = kept_short room cs in omega (arith, h)

kept_some : (room : ℕ) (cs : List ℕ) → 0 < length cs → 0 < length (kept room cs)
unfolding kept
kept_some zero [] h = absurd (omega (arith, h))
kept_some (suc room) [] h = absurd (omega (arith, h))
kept_some zero (c ∷ cs) h = omega arith
kept_some (suc room) (c ∷ cs) h = omega arith

seen_line : (n : ℕ) (line : List ℕ) → are_seen line ≡ true → IsSeenLine (cut_line n line)
seen_line n line h =
    let P : List ℕ → Type 0 = λ cs. (length cs ≤ most_of_line + 1) × (are_seen cs ≡ true) in
    let cs : List ℕ = without_indent n line in
    subst P (sym (chars_back (kept most_of_line cs)))
    (kept_short most_of_line cs, kept_seen most_of_line cs (without_seen_by (is_blank line) n line h))

abbrev AreSeen : List (List ℕ) → Type 0
AreSeen lines = AllByRecursion (λ line. are_seen line ≡ true) lines

spread_all : (lines : List (List ℕ)) → AreSeen (map spread_line lines)
spread_all [] = tt
spread_all (line ∷ lines) = (spread_seen (chars line), spread_all lines)

take_all_seen : (n : ℕ) (lines : List (List ℕ)) → AreSeen lines → AreSeen (take n lines)
take_all_seen zero lines all = tt
take_all_seen (suc n) [] all = tt
take_all_seen (suc n) (line ∷ lines) all = (all.0, take_all_seen n lines all.1)

drop_all_seen : (n : ℕ) (lines : List (List ℕ)) → AreSeen lines → AreSeen (drop n lines)
drop_all_seen zero lines all = all
drop_all_seen (suc n) [] all = tt
drop_all_seen (suc n) (line ∷ lines) all = drop_all_seen n lines all.1

cut_all_seen : (n : ℕ) (lines : List (List ℕ)) → AreSeen lines → AllByRecursion IsSeenLine (map (cut_line n) lines)
cut_all_seen n [] all = tt
cut_all_seen n (line ∷ lines) all = (seen_line n line all.0, cut_all_seen n lines all.1)

-- ---- a line that isn't blank

short_by : (b : Bool) (c : ℕ) (cs : List ℕ) → (b && is_blank cs) ≡ false → (is_blank cs ≡ false → indent_of cs < length cs)
    → cond b (1 + indent_of cs) 0 < length (c ∷ cs)
short_by true c cs h rest = let less : indent_of cs < length cs = rest h in omega (arith, less)
short_by false c cs h rest = omega arith

indent_short : (line : List ℕ) → is_blank line ≡ false → indent_of line < length line
indent_short [] h = absurd (true≢false h)
indent_short (c ∷ cs) h = short_by (c == 32) c cs h (indent_short cs)

filled_from : (line : List ℕ) → 0 < length line → is_filled line ≡ true
filled_from line some = ap not (ne_eqb (length line) 0 (λ none. omega (arith, some, none)))

cut_some_by : (b : Bool) (n : ℕ) (line : List ℕ) → b ≡ false → n < length line → 0 < length (if b then [] else drop n line)
cut_some_by true n line h less = absurd (true≢false h)
cut_some_by false n line h less = let e : length (drop n line) ≡ length line - n = length-drop n line in omega (arith, e, less)

cut_filled : (n : ℕ) (line : List ℕ) → is_blank line ≡ false → n ≤ indent_of line → is_filled (cut_line n line) ≡ true
cut_filled n line written within =
    let short : indent_of line < length line = indent_short line written in
    let cs : List ℕ = without_indent n line in
    let some : 0 < length cs = cut_some_by (is_blank line) n line written (omega (arith, short, within)) in
    let kept_any : 0 < length (kept most_of_line cs) = kept_some most_of_line cs some in
    let bytes : length (kept most_of_line cs) ≤ length (cut_line n line) = length-le-encodes (kept most_of_line cs) in
    filled_from (cut_line n line) (omega (arith, kept_any, bytes))

-- ---- the line with the least indentation begins without a space

pub record FirstWritten (cs : List ℕ) : Type 0 where
  pub first : ℕ
  pub rest : List ℕ
  pub is : cs ≡ first ∷ rest
  pub apart : (first == 32) ≡ false

after_by : (b : Bool) (c : ℕ) (cs : List ℕ) → (c == 32) ≡ b → (b && is_blank cs) ≡ false
    → (is_blank cs ≡ false → FirstWritten (drop (indent_of cs) cs))
    → FirstWritten (drop (cond b (1 + indent_of cs) 0) (c ∷ cs))
after_by true c cs test h rest =
    let more : 1 + indent_of cs ≡ suc (indent_of cs) = omega arith in
    subst (λ n. FirstWritten (drop n (c ∷ cs))) (sym more) (rest h)
after_by false c cs test h rest = record { first = c; rest = cs; is = refl; apart = test }

after_indent : (line : List ℕ) → is_blank line ≡ false → FirstWritten (drop (indent_of line) line)
after_indent [] h = absurd (true≢false h)
after_indent (c ∷ cs) h = after_by (c == 32) c cs refl h (after_indent cs)

byte_by : (b : Bool) (byte : ℕ) (bytes rest : List ℕ) (c : ℕ) → (byte == 32) ≡ b → byte ∷ bytes ≡ encode_utf8 c ++ rest
    → (c == 32) ≡ false → not b ≡ true
byte_by true byte bytes rest c test is apart =
    let same : byte ≡ 32 = eqb-true byte 32 test in
    let found : c ≡ byte = char_from_byte (byte ∷ bytes) rest c is (omega (arith, same)) (omega arith) in
    absurd (true≢false (sym (eq-eqb c 32 (found ∙ same)) ∙ apart))
byte_by false byte bytes rest c test is apart = refl

first_byte : (bytes rest : List ℕ) (c : ℕ) → 0 < length bytes → bytes ≡ encode_utf8 c ++ rest → (c == 32) ≡ false
    → begins_without_space bytes ≡ true
first_byte [] rest c some is apart = absurd (omega (arith, some))
first_byte (byte ∷ bytes) rest c some is apart = byte_by (byte == 32) byte bytes rest c refl is apart

kept_first : (cs : List ℕ) (found : FirstWritten cs)
    → encode_utf8_all (kept most_of_line cs) ≡ encode_utf8 found.first ++ encode_utf8_all (kept 119 found.rest)
kept_first cs found =
    ap (λ text. encode_utf8_all (kept most_of_line text)) found.is ∙ ap encode_utf8_all (kept-cons 119 found.first found.rest)

apart_by : (b : Bool) (line : List ℕ) → b ≡ false → FirstWritten (drop (indent_of line) line)
    → FirstWritten (if b then [] else drop (indent_of line) line)
apart_by true line h found = absurd (true≢false h)
apart_by false line h found = found

cut_apart : (line : List ℕ) → is_blank line ≡ false → begins_without_space (cut_line (indent_of line) line) ≡ true
cut_apart line written =
    let found = apart_by (is_blank line) line written (after_indent line written) in
    let short : indent_of line < length line = indent_short line written in
    let some : 0 < length (without_indent (indent_of line) line) = cut_some_by (is_blank line) (indent_of line) line written short in
    let kept_any : 0 < length (kept most_of_line (without_indent (indent_of line) line)) = kept_some most_of_line (without_indent (indent_of line) line) some in
    let bytes : length (kept most_of_line (without_indent (indent_of line) line)) ≤ length (cut_line (indent_of line) line)
    = length-le-encodes (kept most_of_line (without_indent (indent_of line) line)) in
    first_byte (cut_line (indent_of line) line) (encode_utf8_all (kept 119 found.rest)) found.first (omega (arith, kept_any, bytes))
    (kept_first (without_indent (indent_of line) line) found) found.apart

lesser_of : (m n r : ℕ) (rest : Bool) → (min m n == r) ≡ true → ((m == r) || ((n == r) || rest)) ≡ true
lesser_of m n r rest h =
    elim (cases_lt m n) as (λ _. ((m == r) || ((n == r) || rest)) ≡ true) [
      | inl less ↦ let e : min m n ≡ m = min-eq_left (omega (arith, less)) in or_left (m == r) ((n == r) || rest) (ap (λ k. k == r) (sym e) ∙ h)
      | inr more ↦ let e : min m n ≡ n = min-eq_right more in
          or_right (m == r) ((n == r) || rest) (or_left (n == r) rest (ap (λ k. k == r) (sym e) ∙ h))
    ]

least_reached : (m : ℕ) (ns : List ℕ) → list_any (λ n. n == fold min m ns) (m ∷ ns) ≡ true
least_reached m [] = or_left (m == m) false (eq-eqb m m refl)
least_reached m (n ∷ ns) =
    let r : ℕ = fold min (min m n) ns in
    let rest : Bool = list_any (λ k. k == r) ns in
    elim (or_cases (min m n == r) rest (least_reached (min m n) ns)) as (λ _. ((m == r) || ((n == r) || rest)) ≡ true) [
      | inl here ↦ lesser_of m n r rest here
      | inr there ↦ or_right (m == r) ((n == r) || rest) (or_right (n == r) rest there)
    ]

written_by : (b : Bool) (k : ℕ) (line : List ℕ) (lines : List (List ℕ)) → is_blank line ≡ b
    → list_any (λ n. n == k) (map indent_of (cond (not b) (line ∷ filter is_written lines) (filter is_written lines))) ≡ true
    → (list_any (λ n. n == k) (map indent_of (filter is_written lines)) ≡ true → list_any begins_without_space (map (cut_line k) lines) ≡ true)
    → list_any begins_without_space (map (cut_line k) (line ∷ lines)) ≡ true
written_by true k line lines test h rest =
    or_right (begins_without_space (cut_line k line)) (list_any begins_without_space (map (cut_line k) lines)) (rest h)
written_by false k line lines test h rest =
    let here : Bool = begins_without_space (cut_line k line) in
    let there : Bool = list_any begins_without_space (map (cut_line k) lines) in
    elim (or_cases (indent_of line == k) (list_any (λ n. n == k) (map indent_of (filter is_written lines))) h) as (λ _. (here || there) ≡ true) [
      | inl same ↦ or_left here there
          (sym (ap (λ n. begins_without_space (cut_line n line)) (eqb-true (indent_of line) k same)) ∙ cut_apart line test)
      | inr later ↦ or_right here there (rest later)
    ]

any_apart : (k : ℕ) (lines : List (List ℕ)) → list_any (λ n. n == k) (map indent_of (filter is_written lines)) ≡ true
    → list_any begins_without_space (map (cut_line k) lines) ≡ true
any_apart k [] h = h
any_apart k (line ∷ lines) h = written_by (is_blank line) k line lines refl h (any_apart k lines)

some_by : (ns : List ℕ) → 0 < length ns → list_any (λ n. n == least ns) ns ≡ true
some_by [] h = absurd (omega (arith, h))
some_by (n ∷ ns) h = least_reached n ns

outdented : (lines : List (List ℕ)) → 0 < length (filter is_written lines)
    → list_any begins_without_space (map (cut_line (common_indent lines)) lines) ≡ true
outdented lines some =
    let ns : List ℕ = map indent_of (filter is_written lines) in
    let e : length ns ≡ length (filter is_written lines) = length-map (filter is_written lines) indent_of in
    any_apart (common_indent lines) lines (some_by ns (omega (arith, e, some)))

-- ---- the first line and the last

abbrev Within : ℕ → List (List ℕ) → Type 0
Within k lines = AllByRecursion (λ line. is_blank line ≡ false → k ≤ indent_of line) lines

all_within : (k : ℕ) (lines : List (List ℕ)) → AllByRecursion (λ n. k ≤ n) (map indent_of (filter is_written lines)) → Within k lines
all_within k [] all = tt
all_within k (line ∷ lines) all =
    let parts = within_by (is_blank line) k line (filter is_written lines) all in
    (parts.0, all_within k lines parts.1)

line_within : (k : ℕ) (lines : List (List ℕ)) (i : ℕ) → Within k lines → i < length lines
    → is_blank (get_or lines i []) ≡ false → k ≤ indent_of (get_or lines i [])
line_within k [] i all less = absurd (omega (arith, less))
line_within k (line ∷ lines) zero all less = all.0
line_within k (line ∷ lines) (suc i) all less = line_within k lines i all.1 (omega (arith, less))

written_at : (lines : List (List ℕ)) (i : ℕ) → i < length lines → is_blank (get_or lines i []) ≡ false → 0 < length (filter is_written lines)
written_at [] i less h = absurd (omega (arith, less))
written_at (line ∷ lines) zero less h =
    let P : Bool → Type 0 = λ b. 0 < length (cond (not b) (line ∷ filter is_written lines) (filter is_written lines)) in
    subst P (sym h) (omega arith)
written_at (line ∷ lines) (suc i) less h =
    let more : 0 < length (filter is_written lines) = written_at lines i (omega (arith, less)) h in
    elim (is_blank line) as (λ b. 0 < length (cond (not b) (line ∷ filter is_written lines) (filter is_written lines)))
    [ true ↦ more | false ↦ omega arith ]

begins_at : (lines : List (List ℕ)) → 0 < length lines → is_filled (get_or lines 0 []) ≡ true → begins_filled lines ≡ true
begins_at [] some h = absurd (omega (arith, some))
begins_at (line ∷ lines) some h = h

cut_at : (k : ℕ) (lines : List (List ℕ)) (i : ℕ) → Within k lines → i < length lines → is_blank (get_or lines i []) ≡ false
    → is_filled (get_or (map (cut_line k) lines) i []) ≡ true
cut_at k lines i all less written =
    ap is_filled (get_or-map (cut_line k) lines i [] [] less)
    ∙ cut_filled k (get_or lines i []) written (line_within k lines i all less written)

module _ (lines : List (List ℕ)) where
  abbrev from : ℕ
  from = prefix_len is_blank lines

  abbrev to : ℕ
  to = length lines - suffix_len is_blank lines

  abbrev trimmed : List (List ℕ)
  trimmed = drop from (take to lines)

  length_trimmed : length trimmed ≡ to - from
  length_trimmed = length-drop from (take to lines) ∙ ap (λ n. n - from) (length-take-le to lines (omega arith))

  line_at : (i : ℕ) → i < length trimmed → get_or trimmed i [] ≡ get_or lines (from + i) []
  line_at i less =
      let e : length trimmed ≡ to - from = length_trimmed in
      get_or-drop from (take to lines) i [] ∙ get_or-take to lines (from + i) [] (omega (arith, e, less))

  first_written : 0 < length trimmed → is_blank (get_or trimmed 0 []) ≡ false
  first_written some =
      let e : length trimmed ≡ to - from = length_trimmed in
      let same : from + 0 ≡ from = omega arith in
      ap is_blank (line_at 0 some ∙ ap (λ n. get_or lines n []) same)
      ∙ prefix_len_stops is_blank lines [] (omega (arith, e, some))

  last_written : 0 < length trimmed → is_blank (get_or trimmed (length trimmed - 1) []) ≡ false
  last_written some =
      let e : length trimmed ≡ to - from = length_trimmed in
      let blank : ℕ = suffix_len is_blank lines in
      let long : length (reverse lines) ≡ length lines = length-reverse lines in
      let less : blank < length lines = omega (arith, e, some) in
      let same : from + (length trimmed - 1) ≡ length lines - 1 - blank = omega (arith, e, some) in
      ap is_blank (line_at (length trimmed - 1) (omega (arith, some)) ∙ ap (λ n. get_or lines n []) same ∙ sym (get_or-reverse lines blank [] less))
      ∙ prefix_len_stops is_blank (reverse lines) [] (omega (arith, less, long))

  abbrev indent : ℕ
  indent = common_indent trimmed

  abbrev cuts : List (List ℕ)
  cuts = map (cut_line indent) trimmed

  trimmed_within : Within indent trimmed
  trimmed_within = all_within indent trimmed (least_within (map indent_of (filter is_written trimmed)))

  length_cuts : length cuts ≡ length trimmed
  length_cuts = length-map trimmed (cut_line indent)

  cuts_begin : 0 < length trimmed → begins_filled cuts ≡ true
  cuts_begin some =
      let e : length cuts ≡ length trimmed = length_cuts in
      begins_at cuts (omega (arith, e, some)) (cut_at indent trimmed 0 trimmed_within some (first_written some))

  cuts_end : 0 < length trimmed → begins_filled (reverse cuts) ≡ true
  cuts_end some =
      let e : length cuts ≡ length trimmed = length_cuts in
      let long : length (reverse cuts) ≡ length cuts = length-reverse cuts in
      let last : length cuts - 1 - 0 ≡ length trimmed - 1 = omega (arith, e) in
      begins_at (reverse cuts) (omega (arith, long, e, some))
      (ap is_filled (get_or-reverse cuts 0 [] (omega (arith, e, some)) ∙ ap (λ n. get_or cuts n []) last)
      ∙ cut_at indent trimmed (length trimmed - 1) trimmed_within (omega (arith, some)) (last_written some))

  cuts_outdented : 0 < length trimmed → list_any begins_without_space cuts ≡ true
  cuts_outdented some = outdented trimmed (written_at trimmed 0 some (first_written some))

-- ---- the number of the hit line

moved : (n : Option ℕ) (k hit : ℕ) (first : Option ℕ) → k ≤ hit → option_map (λ f. f + hit) first ≡ n
    → option_map (λ f. f + (hit - k)) (option_map (λ f. f + k) first) ≡ n
moved n k hit None within e = e
moved n k hit (Some f) within e = let same : f + k + (hit - k) ≡ f + hit = omega (arith, within) in ap Some same ∙ e

from_by : (b : Bool) (n : Option ℕ) (k hit : ℕ) (first : Option ℕ) → nat_le k hit ≡ b → option_map (λ f. f + hit) first ≡ n
    → HasNumber n (option_map (λ f. f + k) first) (if b then Some (hit - k) else None)
from_by true n k hit first test e = moved n k hit first (leb-true k hit test) e
from_by false n k hit first test e = tt

from_number : (n : Option ℕ) (k : ℕ) (first hit : Option ℕ) → HasNumber n first hit
    → HasNumber n (option_map (λ f. f + k) first) (option_and_then (index_among k) hit)
from_number n k first None h = tt
from_number n k first (Some hit) h = from_by (nat_le k hit) n k hit first refl h

before_by : (b : Bool) (n : Option ℕ) (hit : ℕ) (first : Option ℕ) → option_map (λ f. f + hit) first ≡ n
    → HasNumber n first (if b then Some hit else None)
before_by true n hit first e = e
before_by false n hit first e = tt

before_number : (n : Option ℕ) (k : ℕ) (first hit : Option ℕ) → HasNumber n first hit
    → HasNumber n first (option_and_then (if_before k) hit)
before_number n k first None h = tt
before_number n k first (Some hit) h = before_by (nat_lt hit k) n hit first h

abbrev IsNumbered : Option ℕ → Code → Type 0
IsNumbered n code = HasNumber n code.first_number code.hit_line

hit_by : (b : Bool) (context : List ℕ) (first n : ℕ) → first ≤ n
    → IfSome (if b then Some (record {
      lines = of_text.lines context;
      first_number = Some first;
      hit_line = Some (n - first);
    }) else None) (IsNumbered (Some n))
hit_by true context first n within = let same : first + (n - first) ≡ n = omega (arith, within) in ap Some same
hit_by false context first n within = tt

around_by : (b : Bool) (context : List ℕ) (first n : ℕ) → nat_le first n ≡ b
    → IfSome (option_and_then (with_hit context first) (if b then Some (n - first) else None)) (IsNumbered (Some n))
around_by true context first n test = hit_by (nat_lt (n - first) (length (of_text.lines context))) context first n (leb-true first n test)
around_by false context first n test = tt

around_numbered : (context : Option (List ℕ)) (first n : Option ℕ) → IfSome (lines_around context first n) (IsNumbered n)
around_numbered None first n = tt
around_numbered (Some context) None n = tt
around_numbered (Some context) (Some first) None = tt
around_numbered (Some context) (Some first) (Some n) = around_by (nat_le first n) context first n refl

own_number : (n : Option ℕ) → HasNumber n n (option_map (λ _. 0) n)
own_number None = tt
own_number (Some n) = let same : n + 0 ≡ n = omega arith in ap Some same

own_numbered : (n : Option ℕ) (region : Option (List ℕ)) → IfSome (option_map (own_lines n) region) (IsNumbered n)
own_numbered n None = tt
own_numbered n (Some region) = own_number n

without_numbered : (first n : Option ℕ) (context : Option (List ℕ)) → IfSome (option_map (lines_without_hit first) context) (IsNumbered n)
without_numbered first n None = tt
without_numbered first n (Some context) = tt

either : (P : Code → Type 0) (a b : Option Code) → IfSome a P → IfSome b P → IfSome (option_or a b) P
either P None b first second = second
either P (Some code) b first second = first

chosen_numbered : (region context : Option (List ℕ)) (first n : Option ℕ) → IfSome (chosen_lines region context first n) (IsNumbered n)
chosen_numbered region context first n =
    either (IsNumbered n) (lines_around context first n)
    (option_or (option_map (own_lines n) region) (option_map (lines_without_hit first) context))
    (around_numbered context first n)
    (either (IsNumbered n) (option_map (own_lines n) region) (option_map (lines_without_hit first) context)
    (own_numbered n region) (without_numbered first n context))

-- ---- the hit line is one of the lines

index_by : (b : Bool) (k hit end size : ℕ) → nat_le k hit ≡ b → hit < end → size ≡ end - k
    → IfSome (if b then Some (hit - k) else None) (λ at. at < size)
index_by true k hit end size test less is = let within : k ≤ hit = leb-true k hit test in omega (arith, within, less, is)
index_by false k hit end size test less is = tt

end_by : (b : Bool) (k hit end size : ℕ) → nat_lt hit end ≡ b → size ≡ end - k
    → IfSome (option_and_then (index_among k) (if b then Some hit else None)) (λ at. at < size)
end_by true k hit end size test is = index_by (nat_le k hit) k hit end size refl (ltb-true hit end test) is
end_by false k hit end size test is = tt

hit_within : (k end size : ℕ) (hit : Option ℕ) → size ≡ end - k
    → IfSome (option_and_then (index_among k) (option_and_then (if_before end) hit)) (λ at. at < size)
hit_within k end size None is = tt
hit_within k end size (Some hit) is = end_by (nat_lt hit end) k hit end size refl is

lengthen : (a b : ℕ) (hit : Option ℕ) → a ≡ b → IfSome hit (λ at. at < a) → IfSome hit (λ at. at < b)
lengthen a b hit e h = subst (λ n. IfSome hit (λ at. at < n)) e h

-- ---- the whole

few_taken : (code : Code) → length (taken_lines code).lines ≤ most_lines
few_taken code =
    let ls : List (List ℕ) = drop (two_before code.hit_line) code.lines in
    let e : length (take 5 ls) ≡ min 5 (length ls) = length-take 5 ls in
    elim (cases_lt (length ls) 5) as (λ _. length (take 5 ls) ≤ 5) [
      | inl less ↦ let m : min 5 (length ls) ≡ length ls = min-eq_right (omega (arith, less)) in omega (arith, e, m, less)
      | inr more ↦ let m : min 5 (length ls) ≡ 5 = min-eq_left more in omega (arith, e, m)
    ]

module _ (n : Option ℕ) (code : Code) (few : length code.lines ≤ most_lines) (numbered : IsNumbered n code) where
  abbrev spread_of : List (List ℕ)
  spread_of = map spread_line code.lines

  whole : 0 < length (trimmed spread_of) → IsCode n (cut_lines (trimmed_lines (spread_lines code)))
  whole some =
      let size : length (trimmed spread_of) ≡ to spread_of - from spread_of = length_trimmed spread_of in
      let cut : length (cuts spread_of) ≡ length (trimmed spread_of) = length_cuts spread_of in
      let all : length spread_of ≡ length code.lines = length-map code.lines spread_line in
      record {
        few = omega (arith, size, cut, all, few);
        seen = cut_all_seen (indent spread_of) (trimmed spread_of)
            (drop_all_seen (from spread_of) (take (to spread_of) spread_of) (take_all_seen (to spread_of) spread_of (spread_all code.lines)));
        first = cuts_begin spread_of some;
        last = cuts_end spread_of some;
        outdented = cuts_outdented spread_of some;
        within = hit_within (from spread_of) (to spread_of) (length (cuts spread_of)) code.hit_line (cut ∙ size);
        number = from_number n (from spread_of) code.first_number (option_and_then (if_before (to spread_of)) code.hit_line)
            (before_number n (to spread_of) code.first_number code.hit_line numbered);
      }

  finished_by : (b : Bool) → (length (cuts spread_of) == 0) ≡ b
      → IfSome (if b then None else Some (cut_lines (trimmed_lines (spread_lines code)))) (IsCode n)
  finished_by true test = tt
  finished_by false test =
      let cut : length (cuts spread_of) ≡ length (trimmed spread_of) = length_cuts spread_of in
      let some : length (cuts spread_of) ≡ 0 → ⊥ = eqb-false (length (cuts spread_of)) 0 test in
      whole (omega (arith, cut, some))

  finished : IfSome (unless_empty (cut_lines (trimmed_lines (spread_lines code)))) (IsCode n)
  finished = finished_by (length (cuts spread_of) == 0) refl

taken_numbered : (n : Option ℕ) (code : Code) → IsNumbered n code → IsNumbered n (taken_lines code)
taken_numbered n code h =
    before_number n most_lines (option_map (λ f. f + two_before code.hit_line) code.first_number)
    (option_and_then (index_among (two_before code.hit_line)) code.hit_line)
    (from_number n (two_before code.hit_line) code.first_number code.hit_line h)

made : (n : Option ℕ) (chosen : Option Code) → IfSome chosen (IsNumbered n)
    → IfSome (option_and_then (λ code. unless_empty (cut_lines (trimmed_lines (spread_lines (taken_lines code))))) chosen) (IsCode n)
made n None h = tt
made n (Some code) h = finished n (taken_lines code) (few_taken code) (taken_numbered n code h)

pub code_lawful : (region context : Option (List ℕ)) (first n : Option ℕ) → IfSome (code_by region context first n) (IsCode n)
unfolding code_by
code_lawful region context first n =
    made n (chosen_lines (option_and_then none_if_empty region) (option_and_then none_if_empty context) first n)
    (chosen_numbered (option_and_then none_if_empty region) (option_and_then none_if_empty context) first n)
