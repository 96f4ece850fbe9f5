-- The lines of a code: their indentation, which of them are blank, and what a code shows of each.
use Rattle.std.proofs.Common.{◌≡◌, ◌<◌, ◌≤◌, ◌+◌, ◌-◌, ◌==◌, ℕ, zero, suc, Bool, true, false, cond, not, ◌&&◌, List, [], ◌∷◌, ◌++◌, Option, Some, None, length, get_or, map, filter, drop, reverse, replicate, encode_utf8, IsUtf8, refl, sym, subst, ap, ◌∙◌, append_assoc, arith}
use mathlib.Core.List.{reverse_aux}
use Rattle.std.specs.Prelude.{min, fold, flat_map, encode_utf8_all, if◌then◌else◌}
use Rattle.std.specs.List.{AllByRecursion, list_all, prefix_len, suffix_len}
use Rattle.std.proofs.StrCases.{chars_of_empty}
use Rattle.std.proofs.lemmas.Bool.{eqb-true, true≢false}
use Rattle.std.specs.Char.{len_utf8}
use Rattle.std.proofs.lemmas.List.{length-append, length-replicate, replicate-append-replicate, drop_more, drop-append-le, drop-replicate}
use Rattle.std.proofs.lemmas.Str.{chars_past_char, length-encode, len_utf8_bounds}
use Rattle.std.proofs.Math.Nat.{min-le_left, min-le_right}
use Rattle.sarif_findings.specs.declared.code_indented.Indented.{Indented}
use Rattle.sarif_findings.specs.Code.{common_indent, cut_line, indent_of, is_blank, is_space, is_written, least, most_of_line, spread, spread_line, without_indent}
use Rattle.sarif_findings.specs.Internal.CodeParts.{cut_of, least_with, lesser, line_of, without_spaces_of}
use Rattle.sarif_findings.specs.declared.shown_text.ShownText.{ShownText}
use Rattle.sarif_findings.specs.Internal.ShownSoFar.{KeepsAll, kept_with}
use Rattle.sarif_findings.specs.Shown.{kept, plain}
use Rattle.sarif_findings.proofs.ShownMore.{kept-nil}

-- ---- one character

abbrev spread_by : Bool → ℕ → List ℕ
spread_by tab p = if tab then replicate 4 32 else p ∷ []

abbrev first_spaces : List ℕ → ℕ
first_spaces cs = prefix_len is_space cs

some_char : (b : Bool) (p spaces : ℕ) → (p == 32) ≡ b → spaces ≡ cond b 1 0 → (spaces ≡ 0 → ⊥) → p ∷ [] ≡ replicate spaces 32
some_char true p spaces test e some = ap (λ q. q ∷ []) (eqb-true p 32 test) ∙ ap (λ n. replicate n 32) (sym e)
some_char false p spaces test e some = absurd (some e)

some_by : (tab : Bool) (p spaces : ℕ) → spaces ≡ first_spaces (spread_by tab p) → (spaces ≡ 0 → ⊥) → spread_by tab p ≡ replicate spaces 32
some_by true p spaces e some = ap (λ n. replicate n 32) (sym e)
some_by false p spaces e some = some_char (p == 32) p spaces refl e some

none_char : (b : Bool) (p : ℕ) (more : List ℕ) → (p == 32) ≡ b → ◌≡◌ {A = ℕ} 0 (cond b 1 0)
    → (◌≡◌ {A = ℕ} (cond b (1 + first_spaces more) 0) 0) × ((b && list_all is_space more) ≡ false)
none_char true p more test e = absurd (omega (arith, e))
none_char false p more test e = (refl, refl)

none_by : (tab : Bool) (p : ℕ) (more : List ℕ) → 0 ≡ first_spaces (spread_by tab p)
    → (first_spaces (spread_by tab p ++ more) ≡ 0) × (list_all is_space (spread_by tab p ++ more) ≡ false)
none_by true p more e = absurd (omega (arith, e))
none_by false p more e = none_char (p == 32) p more refl e

-- a character that is shown as spaces
spread_some : (c spaces : ℕ) → spaces ≡ first_spaces (spread c) → (spaces ≡ 0 → ⊥) → spread c ≡ replicate spaces 32
spread_some c spaces e some = some_by (c == 9) (plain c) spaces e some

spread_step : (text rest : List ℕ) (c : ℕ) → IsUtf8 text → text ≡ encode_utf8 c ++ rest → spread_line text ≡ spread c ++ spread_line rest
spread_step text rest c utf8 parts = ap (flat_map spread) (chars_past_char text rest c utf8 parts)

-- a character that isn't ends the indentation
pub ends_first : (text rest : List ℕ) (c spaces : ℕ) → IsUtf8 text → text ≡ encode_utf8 c ++ rest
    → spaces ≡ first_spaces (spread c) → spaces ≡ 0
    → (first_spaces (spread_line text) ≡ 0) × (is_blank (spread_line text) ≡ false)
ends_first text rest c spaces utf8 parts e none =
    let P : List ℕ → Type 0 = λ cs. (first_spaces cs ≡ 0) × (list_all is_space cs ≡ false) in
    subst P (sym (spread_step text rest c utf8 parts)) (none_by (c == 9) (plain c) (spread_line rest) (sym none ∙ e))

-- a character takes a byte or more
pub one_byte : (text rest : List ℕ) (c : ℕ) → text ≡ encode_utf8 c ++ rest → length rest + 1 ≤ length text
one_byte text rest c parts =
    let e : length text ≡ length (encode_utf8 c) + length rest = ap length parts ∙ length-append (encode_utf8 c) rest in
    let b : length (encode_utf8 c) ≡ len_utf8 c = length-encode c in
    let some = len_utf8_bounds c in
    omega (arith, e, b, some.0)

-- the indentation goes on
pub goes_on_first : (text rest : List ℕ) (c indent spaces : ℕ) → IsUtf8 text → text ≡ encode_utf8 c ++ rest
    → spaces ≡ first_spaces (spread c) → (spaces ≡ 0 → ⊥)
    → replicate (indent + spaces) 32 ++ spread_line rest ≡ replicate indent 32 ++ spread_line text
goes_on_first text rest c indent spaces utf8 parts e some =
    ap (λ cs. cs ++ spread_line rest) (sym (replicate-append-replicate {A = ℕ} indent spaces 32))
    ∙ append_assoc (replicate indent 32) (replicate spaces 32) (spread_line rest)
    ∙ ap (λ cs. replicate indent 32 ++ (cs ++ spread_line rest)) (sym (spread_some c spaces e some))
    ∙ ap (λ cs. replicate indent 32 ++ cs) (sym (spread_step text rest c utf8 parts))

-- nothing follows the indentation
pub nothing_left : (text : List ℕ) → length text ≡ 0 → spread_line text ≡ []
nothing_left text none = ap (flat_map spread) (chars_of_empty text none)

-- ---- one line

all_spaces : (n : ℕ) (cs : List ℕ) → list_all is_space (replicate n 32 ++ cs) ≡ list_all is_space cs
all_spaces zero cs = refl
all_spaces (suc n) cs = all_spaces n cs

spaces_before : (n : ℕ) (cs : List ℕ) → first_spaces (replicate n 32 ++ cs) ≡ n + first_spaces cs
spaces_before zero cs = omega arith
spaces_before (suc n) cs = let e : first_spaces (replicate n 32 ++ cs) ≡ n + first_spaces cs = spaces_before n cs in omega (arith, e)

pub blank_of : (line : Indented) → line.blank ≡ is_blank (line_of line)
blank_of line = line.blank_is ∙ sym (all_spaces line.indent (spread_line line.rest.now))

indent_is : (line : Indented) → indent_of (line_of line) ≡ line.indent
indent_is line =
    let e : first_spaces (line_of line) ≡ line.indent + first_spaces (spread_line line.rest.now)
    = spaces_before line.indent (spread_line line.rest.now) in
    let none : first_spaces (spread_line line.rest.now) ≡ 0 = line.begins in
    omega (arith, e, none)

-- ---- blank lines

pub blank_first : (lines : List Indented) → prefix_len (λ line. line.blank) lines ≡ prefix_len is_blank (map line_of lines)
blank_first [] = refl
blank_first (line ∷ lines) =
    ap (λ b. cond b (1 + prefix_len (λ line. line.blank) lines) 0) (blank_of line)
    ∙ ap (λ n. cond (is_blank (line_of line)) (1 + n) 0) (blank_first lines)

map_onto : (lines done : List Indented) → map line_of (reverse_aux lines done) ≡ reverse_aux (map line_of lines) (map line_of done)
map_onto [] done = refl
map_onto (line ∷ lines) done = map_onto lines (line ∷ done)

pub blank_last : (lines : List Indented) → suffix_len (λ line. line.blank) lines ≡ suffix_len is_blank (map line_of lines)
blank_last lines = blank_first (reverse lines) ∙ ap (prefix_len is_blank) (map_onto lines [])

-- ---- the common indentation

lesser_before : (least_so_far : Option ℕ) (n : ℕ) (ns : List ℕ) → least_with least_so_far (n ∷ ns) ≡ fold min (lesser least_so_far n) ns
lesser_before None n ns = refl
lesser_before (Some least_so_far) n ns = refl

pub least_step : (so_far : Option ℕ) (line : Indented) (lines : List (List ℕ)) → line.blank ≡ false
    → least_with (Some (lesser so_far line.indent)) (map indent_of (filter is_written lines))
    ≡ least_with so_far (map indent_of (filter is_written (line_of line ∷ lines)))
least_step so_far line lines written =
    let test : is_blank (line_of line) ≡ false = sym (blank_of line) ∙ written in
    let more : List ℕ = map indent_of (filter is_written lines) in
    ap (λ n. fold min (lesser so_far n) more) (sym (indent_is line))
    ∙ sym (lesser_before so_far (indent_of (line_of line)) more)
    ∙ sym (ap (λ b. least_with so_far (map indent_of (cond (not b) (line_of line ∷ filter is_written lines) (filter is_written lines)))) test)

pub least_skip : (so_far : Option ℕ) (line : Indented) (lines : List (List ℕ)) → line.blank ≡ true
    → least_with so_far (map indent_of (filter is_written lines))
    ≡ least_with so_far (map indent_of (filter is_written (line_of line ∷ lines)))
least_skip so_far line lines blank =
    let test : is_blank (line_of line) ≡ true = sym (blank_of line) ∙ blank in
    sym (ap (λ b. least_with so_far (map indent_of (cond (not b) (line_of line ∷ filter is_written lines) (filter is_written lines)))) test)

-- the lines from one on
pub lines_left : (lines : List Indented) (i : ℕ) (line : Indented) → i < length lines → line ≡ get_or lines i line
    → line_of line ∷ map line_of (drop (i + 1) lines) ≡ map line_of (drop i lines)
lines_left lines i line within is =
    ap (λ first. line_of first ∷ map line_of (drop (i + 1) lines)) is ∙ sym (ap (map line_of) (drop_more lines i line within))

fold_within : (m : ℕ) (ns : List ℕ) → fold min m ns ≤ m
fold_within m [] = omega arith
fold_within m (n ∷ ns) =
    let rest : fold min (min m n) ns ≤ min m n = fold_within (min m n) ns in
    let first : min m n ≤ m = min-le_left m n in
    omega (arith, rest, first)

fold_least : (m : ℕ) (ns : List ℕ) → AllByRecursion (λ n. fold min m ns ≤ n) ns
fold_least m [] = tt
fold_least m (n ∷ ns) =
    let rest : fold min (min m n) ns ≤ min m n = fold_within (min m n) ns in
    let second : min m n ≤ n = min-le_right m n in
    (omega (arith, rest, second), fold_least (min m n) ns)

pub least_within : (ns : List ℕ) → AllByRecursion (λ n. least ns ≤ n) ns
least_within [] = tt
least_within (n ∷ ns) = (fold_within n ns, fold_least n ns)

-- ---- what is kept

dropped : (n indent : ℕ) (cs : List ℕ) → n ≤ indent → drop n (replicate indent 32 ++ cs) ≡ replicate (indent - n) 32 ++ cs
dropped n indent cs within =
    let fits : n ≤ length (replicate indent 32) = rw (length-replicate {A = ℕ} indent 32) within in
    drop-append-le n (replicate indent 32) cs fits ∙ ap (λ spaces. spaces ++ cs) (drop-replicate {X = ℕ} n indent 32)

-- a blank line
pub blank_cut : (n : ℕ) (line : Indented) → line.blank ≡ true → [] ≡ cut_of n line
blank_cut n line blank =
    sym (ap (λ b. encode_utf8_all (kept most_of_line (if b then [] else replicate (line.indent - n) 32 ++ spread_line line.rest.now))) blank
    ∙ ap encode_utf8_all (kept-nil most_of_line))

-- one more character of a line is kept
pub keeps_step : (old new : ShownText) (text left more : List ℕ) (c : ℕ) → IsUtf8 text → text ≡ encode_utf8 c ++ left
    → KeepsAll old new (spread c) → kept_with old (spread_line text ++ more) ≡ kept_with new (spread_line left ++ more)
keeps_step old new text left more c utf8 parts keeps =
    ap (λ cs. kept_with old (cs ++ more)) (spread_step text left c utf8 parts)
    ∙ ap (kept_with old) (append_assoc (spread c) (spread_line left) more)
    ∙ keeps (spread_line left ++ more)

-- a line by whether it is blank
written_by : (b : Bool) (n : ℕ) (line : Indented) → (b ≡ false → n ≤ line.indent)
    → (if b then [] else replicate (line.indent - n) 32 ++ spread_line line.rest.now) ≡ (if b then [] else drop n (line_of line))
written_by true n line within = refl
written_by false n line within = sym (dropped n line.indent (spread_line line.rest.now) (within refl))

without_of : (n : ℕ) (line : Indented) → (line.blank ≡ false → n ≤ line.indent) → without_spaces_of n line ≡ without_indent n (line_of line)
without_of n line within =
    written_by line.blank n line within ∙ ap (λ b. if b then [] else drop n (line_of line)) (blank_of line)

cut_same : (n : ℕ) (line : Indented) → (line.blank ≡ false → n ≤ line.indent) → cut_of n line ≡ cut_line n (line_of line)
cut_same n line within = ap (λ cs. encode_utf8_all (kept most_of_line cs)) (without_of n line within)

abbrev AreWithin : ℕ → List (List ℕ) → Type 0
AreWithin n lines = AllByRecursion (λ k. n ≤ k) (map indent_of lines)

pub within_by : (b : Bool) (n : ℕ) (line : List ℕ) (lines : List (List ℕ)) → AreWithin n (cond (not b) (line ∷ lines) lines)
    → (b ≡ false → n ≤ indent_of line) × AreWithin n lines
within_by true n line lines all = (λ e. absurd (true≢false e), all)
within_by false n line lines all = (λ e. all.0, all.1)

cuts_by : (n : ℕ) (lines : List Indented) → AreWithin n (filter is_written (map line_of lines))
    → map (cut_of n) lines ≡ map (cut_line n) (map line_of lines)
cuts_by n [] all = refl
cuts_by n (line ∷ lines) all =
    let parts = within_by (is_blank (line_of line)) n (line_of line) (filter is_written (map line_of lines)) all in
    let within : line.blank ≡ false → n ≤ line.indent = λ e.
    let h : n ≤ indent_of (line_of line) = parts.0 (sym (blank_of line) ∙ e) in
    let same : indent_of (line_of line) ≡ line.indent = indent_is line in
    omega (arith, h, same) in
    ap (λ cut. cut ∷ map (cut_of n) lines) (cut_same n line within)
    ∙ ap (λ cuts. cut_line n (line_of line) ∷ cuts) (cuts_by n lines parts.1)

-- lines that are cut at their common indentation
pub cuts_same : (lines : List Indented)
    → map (cut_of (common_indent (map line_of lines))) lines ≡ map (cut_line (common_indent (map line_of lines))) (map line_of lines)
cuts_same lines = cuts_by (common_indent (map line_of lines)) lines (least_within (map indent_of (filter is_written (map line_of lines))))
