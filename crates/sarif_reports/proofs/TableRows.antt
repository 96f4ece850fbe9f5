-- The table of results in Markdown: which results have a row, and how long the rows are.
use Rattle.std.proofs.Common.{◌≡◌, ◌<◌, ◌≤◌, ◌+◌, ◌*◌, ◌-◌, ◌^◌, ◌++◌, ℕ, zero, suc, Bool, true, false, not, ◌&&◌, cond, map, List, [], ◌∷◌, Option, Some, None, IfSome, chars, codes, decimal, encode_utf8, flat_map, length, length-append, take, drop, if◌then◌else◌, refl, ap, sym, ◌∙◌, append_assoc, arith}
use Rattle.std.specs.Prelude.{encode_utf8_all, nat_le}
use Rattle.std.specs.List.{All, AllByRecursion, count_by, enumerate_from, list_all}
use Rattle.std.proofs.lemmas.Bool.{and_parts, leb-true}
use Rattle.std.proofs.lemmas.Bool.Decides.{nat_tests}
use Rattle.std.proofs.lemmas.Fmt.{length-decimal-le}
use Rattle.std.proofs.lemmas.List.{take-append-drop, drop-append-le, drop-map, length-map, map-append}
use Rattle.std.proofs.lemmas.List.Elements.{All-from_recursion}
use Rattle.std.proofs.lemmas.List.FromFn.{length-enumerate_from}
use Rattle.std.proofs.lemmas.List.Sums.{sum_by-append, sum_by-cons}
use Rattle.std.proofs.lemmas.Str.{encodes-append, length-encode, len_utf8_bounds}
use Rattle.serde_json.specs.Data.{Data}
use Rattle.sarif_model.specs.declared.kinds.Level.{Level}
use Rattle.sarif_model.specs.declared.kinds.Level.TheVariants.{NoLevel, Note, Warning, Error}
use Rattle.sarif_model.specs.declared.kinds.State.{State}
use Rattle.sarif_model.specs.declared.kinds.State.TheVariants.{New, Unchanged, Updated, Absent}
use Rattle.sarif_model.specs.Level.{level_name}
use Rattle.sarif_model.specs.State.{state_name}
use Rattle.sarif_model.specs.Run.{runs_of}
use Rattle.sarif_counts.specs.Impacts.{is_hit}
use Rattle.sarif_findings.specs.declared.finding.Finding.{Finding}
use Rattle.sarif_findings.specs.declared.reporting.Reporting.{Reporting}
use Rattle.sarif_findings.specs.Finding.{spot_text, place, place_path, numbered, begins_with_colon}
use Rattle.sarif_shown.specs.ReportedInside.{reported_by}
use Rattle.sarif_findings.specs.Shown.{kept, most_characters, shown_chars}
use Rattle.sarif_findings.proofs.CharsBack.{chars_back}
use Rattle.sarif_shown.proofs.FindingsInside.{hits_inside}
use Rattle.sarif_findings.proofs.ToldFindings.{IsShown, IsPath, IsTold}
use Rattle.sarif_shown.specs.declared.escaping.Escaping.TheVariants.{Markdown, Page}
use Rattle.sarif_shown.specs.Escaped.{escaped, escaped_char, is_mark, markdown_char}
use Rattle.sarif_shown.specs.Listed.{listed}
use Rattle.sarif_shown.specs.Linked.{place_link}
use Rattle.sarif_links.specs.Address.{after_scheme, begins_with_host, has_two_signs, is_address, is_address_sign, most_of_address}
use Rattle.sarif_links.proofs.AddressSigns.{signs}
use Rattle.sarif_findings.specs.declared.code.Code.{Code}
use Rattle.sarif_findings.specs.CodeLaws.{IsSeenLine}
use Rattle.sarif_findings.specs.CodeRows.{one_line}
use Rattle.sarif_reports.specs.MarkdownLaws.{AreLinks}
use Rattle.sarif_reports.specs.MarkdownReport.{Row, anchor, code_line, code_of, fitting, hit_cell, in_table, is_coded, left_out, linked, message_cell, most_bytes, most_rows, place_cell, place_cells, result_row, room_for, row_text, rule_cell, rule_cells, title_of, tool_cells}
use Rattle.sarif_reports.proofs.AddressRows.{IsAddressed, address_chars, link_addressed, weight, weight_few}
use Rattle.sarif_reports.proofs.Tabled.{IsTabled, all_tabled, code_seen, line_seen, listed_each}
use Rattle.sarif_shown.proofs.ListedMore.{counted_listed, length_listed}
use Rattle.sarif_shown.proofs.TextApart.{decimal_plain, is_plain, plain_bytes}
use Rattle.sarif_scope.specs.declared.gated.GatedChange.{GatedChange}
use Rattle.sarif_scope.specs.Counted.{hits_by}

-- ---- the rows fit

module _ (link : Option (List ℕ)) where
  rows_by : (b : Bool) (row : Row) (rows : List Row) (room : ℕ) → nat_le (length (row_text link row)) room ≡ b
      → length (flat_map (row_text link) rows) ≤ room - length (row_text link row)
      → length (flat_map (row_text link) (if b then row ∷ rows else [])) ≤ room
  rows_by true row rows room e rest =
      let fits : length (row_text link row) ≤ room = leb-true (length (row_text link row)) room e in
      let whole : length (row_text link row ++ flat_map (row_text link) rows) ≡ length (row_text link row) + length (flat_map (row_text link) rows) =
      length-append (row_text link row) (flat_map (row_text link) rows) in
      omega (arith, fits, rest, whole)
  rows_by false row rows room e rest = omega arith

  rows_fit : (room : ℕ) (rows : List Row) → length (flat_map (row_text link) (fitting link room rows)) ≤ room
  rows_fit room [] = omega arith
  rows_fit room (row ∷ rows) =
      rows_by (nat_le (length (row_text link row)) room) row (fitting link (room - length (row_text link row)) rows) room refl
      (rows_fit (room - length (row_text link row)) rows)

pub table_fits : (link : Option (List ℕ)) (room : ℕ) (fs : List Finding) → length (flat_map (row_text link) (in_table link room fs)) ≤ room
table_fits link room fs = rows_fit link room (enumerate_from 0 (take most_rows (listed fs)))

-- ---- each listed result has a row or is left out

parts_by : (b : Bool) (row : Row) (hs rows : List Row) → hs ++ drop (length hs) rows ≡ rows
    → (if b then row ∷ hs else []) ++ drop (length (if b then row ∷ hs else [])) (row ∷ rows) ≡ row ∷ rows
parts_by true row hs rows e = ap (λ gs. row ∷ gs) e
parts_by false row hs rows e = refl

fitting_parts : (link : Option (List ℕ)) (room : ℕ) (rows : List Row) → fitting link room rows ++ drop (length (fitting link room rows)) rows ≡ rows
fitting_parts link room [] = refl
fitting_parts link room (row ∷ rows) =
    parts_by (nat_le (length (row_text link row)) room) row (fitting link (room - length (row_text link row)) rows) rows
    (fitting_parts link (room - length (row_text link row)) rows)

fitting_few : (link : Option (List ℕ)) (room : ℕ) (rows : List Row) → length (fitting link room rows) ≤ length rows
fitting_few link room rows =
    let whole = length-append (fitting link room rows) (drop (length (fitting link room rows)) rows) in
    let same = ap length (fitting_parts link room rows) in
    omega (arith, whole, same)

-- the results of these rows
abbrev pub results_in : List Row → List Finding
results_in rows = map (λ row. row.1) rows

pub unnumbered : (n : ℕ) (fs : List Finding) → results_in (enumerate_from n fs) ≡ fs
unnumbered n [] = refl
unnumbered n (f ∷ fs) = ap (λ gs. f ∷ gs) (unnumbered (n + 1) fs)

table_parts : (link : Option (List ℕ)) (room : ℕ) (fs : List Finding) → results_in (in_table link room fs) ++ left_out link room fs ≡ listed fs
table_parts link room fs =
    let all : List Finding = listed fs in
    let first : List Finding = take most_rows all in
    let rest : List Finding = drop most_rows all in
    let numbered : List Row = enumerate_from 0 first in
    let rows : List Row = fitting link room numbered in
    let whole : first ++ rest ≡ all = take-append-drop most_rows all in
    let few : length rows ≤ length first = omega (arith, fitting_few link room numbered, length-enumerate_from 0 first) in
    let split : results_in rows ++ drop (length rows) first ≡ first =
    ap (λ gs. results_in rows ++ drop (length rows) gs) (sym (unnumbered 0 first))
    ∙ ap (λ gs. results_in rows ++ gs) (drop-map (λ (row : Row). row.1) (length rows) numbered)
    ∙ sym (map-append (λ (row : Row). row.1) rows (drop (length rows) numbered))
    ∙ ap results_in (fitting_parts link room numbered) ∙ unnumbered 0 first in
    ap (λ gs. results_in rows ++ drop (length rows) gs) (sym whole)
    ∙ ap (λ gs. results_in rows ++ gs) (drop-append-le (length rows) first rest few)
    ∙ sym (append_assoc (results_in rows) (drop (length rows) first) rest)
    ∙ ap (λ gs. gs ++ rest) split ∙ whole

pub results_parted : (link : Option (List ℕ)) (room : ℕ) (fs : List Finding) → length (in_table link room fs) + length (left_out link room fs) ≡ length fs
results_parted link room fs =
    ap (λ n. n + length (left_out link room fs)) (sym (length-map (in_table link room fs) (λ (row : Row). row.1)))
    ∙ sym (length-append (results_in (in_table link room fs)) (left_out link room fs)) ∙ ap length (table_parts link room fs) ∙ length_listed fs

abbrev pub hits_in : List Finding → ℕ
hits_in fs = count_by (λ f. is_hit f.impact) fs

cond_few : (b : Bool) → cond {A = ℕ} b 1 0 ≤ 1
cond_few true = omega arith
cond_few false = omega arith

pub hits_few : (fs : List Finding) → hits_in fs ≤ length fs
hits_few [] = omega arith
hits_few (f ∷ fs) =
    let first = sum_by-cons (λ g. cond (is_hit g.impact) 1 0) f fs in
    let one = cond_few (is_hit f.impact) in
    let rest = hits_few fs in
    omega (arith, first, one, rest)

rows_hits : (rows : List Row) → count_by (λ row. is_hit row.1.impact) rows ≡ hits_in (results_in rows)
rows_hits [] = refl
rows_hits (row ∷ rows) =
    sum_by-cons (λ (one : Row). cond (is_hit one.1.impact) 1 0) row rows ∙ ap (λ n. cond (is_hit row.1.impact) 1 0 + n) (rows_hits rows)
    ∙ sym (sum_by-cons (λ (g : Finding). cond (is_hit g.impact) 1 0) row.1 (results_in rows))

pub hits_parted : (link : Option (List ℕ)) (room : ℕ) (change : Option GatedChange) (reporting : Reporting) (log : Data)
    → count_by (λ row. is_hit row.1.impact) (in_table link room (reported_by change reporting log)) + hits_in (left_out link room (reported_by change reporting log))
    ≡ hits_by change reporting.policy (runs_of log)
hits_parted link room change reporting log =
    let fs : List Finding = reported_by change reporting log in
    ap (λ n. n + hits_in (left_out link room fs)) (rows_hits (in_table link room fs))
    ∙ sym (sum_by-append (λ g. cond (is_hit g.impact) 1 0) (results_in (in_table link room fs)) (left_out link room fs)) ∙ ap hits_in (table_parts link room fs)
    ∙ counted_listed (λ f. is_hit f.impact) fs ∙ hits_inside change reporting log

-- ---- one row fits

-- a string of at most this number of characters
record Short (n : ℕ) (text : List ℕ) : Type 0 where
  cs : List ℕ
  is : encode_utf8_all cs ≡ text
  few : length cs ≤ n

two_short : (m n : ℕ) (a b : List ℕ) → Short m a → Short n b → Short (m + n) (a ++ b)
two_short m n a b first second =
    let whole = length-append first.cs second.cs in
    let less = first.few in
    let more = second.few in record {
      cs = first.cs ++ second.cs;
      is = encodes-append first.cs second.cs ∙ ap (λ x. x ++ encode_utf8_all second.cs) first.is ∙ ap (λ y. a ++ y) second.is;
      few = omega (arith, whole, less, more);
    }

plain_short : (n : ℕ) (ws : List ℕ) → list_all is_plain ws ≡ true → length ws ≤ n → Short n ws
plain_short n ws h few = record { cs = ws; is = plain_bytes ws h; few = few }

kept_few : (room : ℕ) (cs : List ℕ) → length (kept room cs) ≤ room + 1
unfolding kept
kept_few zero [] = omega arith
kept_few (suc room) [] = omega arith
kept_few zero (c ∷ cs) = omega arith
kept_few (suc room) (c ∷ cs) = let rest = kept_few room cs in omega (arith, rest)

shown_short : (text : List ℕ) → IsShown text → Short (most_characters + 1) text
shown_short text is = record { cs = shown_chars is.0; is = sym is.1; few = kept_few most_characters _ }

number_short : (o : Option ℕ) → IfSome o (λ k. k < 2 ^ 64) → Short 21 (numbered o)
number_short None h = plain_short 21 [] refl (omega arith)
number_short (Some k) h =
    let digits : length (decimal k) ≤ 20 = length-decimal-le 20 k (omega arith) (omega (arith, h)) h in
    plain_short 21 (codes ":" ++ decimal k) (decimal_plain k h) (omega (arith, digits))

path_short : (b : Bool) (path : List ℕ) → IsShown path → Short 1003 (if b then codes "./" ++ path else path)
path_short true path is = two_short 2 1001 (codes "./") path (plain_short 2 (codes "./") refl (omega arith)) (shown_short path is)
path_short false path is = let held = shown_short path is in let few = held.few in record { cs = held.cs; is = held.is; few = omega (arith, few) }

place_short : (path : Option (List ℕ)) (line column : Option ℕ) → IfSome path IsPath → IfSome line (λ k. k < 2 ^ 64) → IfSome column (λ k. k < 2 ^ 64)
    → Short 1045 (place path line column)
place_short None line column p l c = plain_short 1045 (codes "-") refl (omega arith)
place_short (Some path) line column p l c =
    two_short 1003 42 (place_path path) (numbered line ++ numbered column) (path_short (begins_with_colon path) path p.shown)
    (two_short 21 21 (numbered line) (numbered column) (number_short line l) (number_short column c))

mark_low : (c : ℕ) → is_mark c ≡ true → c < 128
mark_low c mark = grind (arith, nat_tests, mark)

char_by : (b : Bool) (c : ℕ) → is_mark c ≡ b → length (if b then codes "&#" ++ (decimal c ++ codes ";") else encode_utf8 c) ≤ 6
char_by true c e =
    let small : c < 128 = mark_low c e in
    let digits : length (decimal c) ≤ 3 = length-decimal-le 3 c (omega arith) (omega (arith, small)) (omega (arith, small)) in
    let whole = length-append (decimal c) (codes ";") in
    omega (arith, digits, whole)
char_by false c e =
    let bytes = length-encode c in
    let four = (len_utf8_bounds c).1 in
    omega (arith, bytes, four)

pub chars_few : (cs : List ℕ) → length (flat_map (escaped_char Markdown) cs) ≤ 6 * length cs
chars_few [] = omega arith
chars_few (c ∷ cs) =
    let one = char_by (is_mark c) c refl in
    let rest = chars_few cs in
    let whole = length-append (markdown_char c) (flat_map (escaped_char Markdown) cs) in
    omega (arith, one, rest, whole)

escaped_few : (n : ℕ) (text : List ℕ) → Short n text → length (escaped Markdown text) ≤ 6 * n
unfolding escaped
escaped_few n text is =
    let same : escaped Markdown text ≡ flat_map (escaped_char Markdown) is.cs =
    ap (λ t. flat_map (escaped_char Markdown) (chars t)) (sym is.is) ∙ ap (flat_map (escaped_char Markdown)) (chars_back is.cs) in
    let less = chars_few is.cs in
    let few = is.few in
    let long = ap length same in
    omega (arith, less, few, long)

code_few : (n : ℕ) (text : List ℕ) → Short n text → length (code_of text) ≤ 6 * n + 13
code_few n [] is = omega arith
code_few n (b ∷ bs) is =
    let inner = escaped_few n (b ∷ bs) is in
    let whole = length-append (escaped Markdown (b ∷ bs)) (codes "</code>") in
    omega (arith, inner, whole)

-- a string of few seen characters
seen_few : (line : List ℕ) → IsSeenLine line → length (escaped Markdown line) ≤ 726
unfolding escaped
seen_few line seen =
    let less = chars_few (chars line) in
    let few = seen.0 in
    omega (arith, less, few)

level_few : (l : Level) → length (level_name l) ≤ 7
level_few NoLevel = omega arith
level_few Note = omega arith
level_few Warning = omega arith
level_few Error = omega arith

pub state_few : (s : State) → length (state_name s) ≤ 9
state_few New = omega arith
state_few Unchanged = omega arith
state_few Updated = omega arith
state_few Absent = omega arith

hit_few : (b : Bool) → length (hit_cell b) ≤ 8
hit_few true = omega arith
hit_few false = omega arith

-- a link to an address
title_few : (name : Option (List ℕ)) → IfSome name IsSeenLine → length (title_of name) ≤ 740
title_few None h = omega arith
title_few (Some name) h =
    let inner = seen_few name h in
    let whole = length-append (escaped Markdown name) (codes "\"") in
    omega (arith, inner, whole)

anchor_few : (n : ℕ) (address : List ℕ) (name : Option (List ℕ)) (text : List ℕ) → list_all is_address_sign address ≡ true → weight address ≤ n
    → IfSome name IsSeenLine → length (anchor address name text) ≤ n + 756 + length (code_of text)
unfolding weight
anchor_few n address name text signs few named =
    let same = ap length (address_chars address signs) in
    let title = title_few name named in
    let a = length-append (escaped Page address) (codes "\"" ++ (title_of name ++ (codes ">" ++ (code_of text ++ codes "</a>")))) in
    let b = length-append (title_of name) (codes ">" ++ (code_of text ++ codes "</a>")) in
    let c = length-append (code_of text) (codes "</a>") in
    omega (arith, same, few, title, a, b, c)

-- a link without a title
anchor_short : (n : ℕ) (address text : List ℕ) → list_all is_address_sign address ≡ true → weight address ≤ n
    → length (anchor address None text) ≤ n + 16 + length (code_of text)
unfolding weight
anchor_short n address text signs few =
    let same = ap length (address_chars address signs) in
    let a = length-append (escaped Page address) (codes "\"" ++ (codes ">" ++ (code_of text ++ codes "</a>"))) in
    let c = length-append (code_of text) (codes "</a>") in
    omega (arith, same, few, a, c)

place_by : (address : Option (List ℕ)) (text : List ℕ) → IfSome address IsAddressed → length (linked address None text) ≤ 17028 + length (code_of text)
place_by None text h = omega arith
place_by (Some address) text h = anchor_short 17012 address text h.signs h.few

place_few : (link : Option (List ℕ)) (f : Finding) → AreLinks link → IsTabled f → length (place_cells link f) ≤ 23340
place_few link f links is =
    let told = is.told in
    let hit = hit_few (is_hit f.impact) in
    let level = level_few f.level in
    let code = code_few 1045 (spot_text f) (place_short f.path f.line f.column told.path told.line told.column) in
    let cell = place_by (place_link link f) (spot_text f) (link_addressed link f links told.path is.line) in
    let a = length-append (hit_cell (is_hit f.impact)) (level_name f.level ++ (codes " | " ++ (place_cell link f ++ codes " | "))) in
    let b = length-append (level_name f.level) (codes " | " ++ (place_cell link f ++ codes " | ")) in
    let c = length-append (place_cell link f) (codes " | ") in
    omega (arith, hit, level, code, cell, a, b, c)

address_short : (address : List ℕ) → is_address address ≡ true → length address ≤ 1000
address_short address h =
    leb-true (length address) most_of_address
    (and_parts (nat_le (length address) most_of_address) (begins_with_host (after_scheme address) && not (has_two_signs false address)) h).0

help_by : (help name : Option (List ℕ)) (text : List ℕ) → IfSome help (λ a. is_address a ≡ true) → IfSome name IsSeenLine
    → length (linked help name text) ≤ 5756 + length (code_of text)
help_by None name text h seen = omega arith
help_by (Some help) name text h seen =
    let short = address_short help h in
    let few = weight_few help (signs help h) in
    anchor_few 5000 help name text (signs help h) (omega (arith, short, few)) seen

rule_cell_few : (rule : List ℕ) (help name : Option (List ℕ)) → IsShown rule → IfSome help (λ a. is_address a ≡ true) → IfSome name IsSeenLine
    → length (rule_cell rule help name) ≤ 11775
rule_cell_few [] help name is h seen = omega arith
rule_cell_few (b ∷ bs) help name is h seen =
    let cell = help_by help name (b ∷ bs) h seen in
    let code = code_few 1001 (b ∷ bs) (shown_short (b ∷ bs) is) in
    omega (arith, cell, code)

line_few : (line : List ℕ) → IsSeenLine line → length (code_of line) ≤ 739
line_few [] h = omega arith
line_few (b ∷ bs) h =
    let inner = seen_few (b ∷ bs) h in
    let whole = length-append (escaped Markdown (b ∷ bs)) (codes "</code>") in
    omega (arith, inner, whole)

code_line_few : (coded : Bool) (code : Option Code) → IfSome code (λ c. AllByRecursion IsSeenLine c.lines) → length (code_line coded code) ≤ 743
code_line_few coded None h = omega arith
code_line_few false (Some code) h = omega arith
code_line_few true (Some code) h = let line = line_few (one_line code) (line_seen code h) in omega (arith, line)

rule_few : (coded : Bool) (f : Finding) → IsTabled f → length (rule_cells coded f) ≤ 18543
rule_few coded f is =
    let rule = rule_cell_few f.rule f.help f.rule_name is.told.rule is.address is.label in
    let message = code_few 1001 f.message (shown_short f.message is.told.message) in
    let line = code_line_few coded f.code (code_seen f.line f.code is.code) in
    let a = length-append (rule_cell f.rule f.help f.rule_name) (codes " | " ++ (message_cell coded f ++ codes " | ")) in
    let b = length-append (message_cell coded f) (codes " | ") in
    let c = length-append (code_of f.message) (code_line coded f.code) in
    omega (arith, rule, message, line, a, b, c)

tool_few : (f : Finding) → IsTold f → length (tool_cells f) ≤ 6040
tool_few f told =
    let tool = code_few 1001 f.tool (shown_short f.tool told.tool) in
    let state = state_few f.state in
    let a = length-append (code_of f.tool) (codes " | " ++ (state_name f.state ++ codes " |\n")) in
    let b = length-append (state_name f.state) (codes " |\n") in
    omega (arith, tool, state, a, b)

-- a row takes at most 48,000 bytes
row_few : (link : Option (List ℕ)) (coded : Bool) (f : Finding) → AreLinks link → IsTabled f → length (result_row link coded f) ≤ 48000
row_few link coded f links is =
    let place = place_few link f links is in
    let rule = rule_few coded f is in
    let tool = tool_few f is.told in
    let a = length-append (place_cells link f) (rule_cells coded f ++ tool_cells f) in
    let b = length-append (rule_cells coded f) (tool_cells f) in
    omega (arith, place, rule, tool, a, b)

pub rows_short : (link : Option (List ℕ)) (coded : Bool) (fs : List Finding) → AreLinks link → AllByRecursion IsTabled fs
    → AllByRecursion (λ f. length (result_row link coded f) ≤ 48000) fs
rows_short link coded [] links h = tt
rows_short link coded (f ∷ fs) links h = (row_few link coded f links h.0, rows_short link coded fs links h.1)

pub each_short : (link : Option (List ℕ)) (coded : Bool) (change : Option GatedChange) (reporting : Reporting) (log : Data) → AreLinks link
    → All (λ f. length (result_row link coded f) ≤ 48000) (reported_by change reporting log)
each_short link coded change reporting log links =
    All-from_recursion (λ f. length (result_row link coded f) ≤ 48000) (reported_by change reporting log)
    (rows_short link coded (reported_by change reporting log) links (all_tabled change reporting log))

-- the first row
fits_by : (b : Bool) (row : Row) (rows : List Row) (n room : ℕ) → nat_le n room ≡ b → n ≤ room → 0 < length (if b then row ∷ rows else [])
fits_by true row rows n room e fits = omega arith
fits_by false row rows n room e fits = absurd (grind (arith, nat_tests, e, fits))

first_fits : (link : Option (List ℕ)) (fs : List Finding) → AreLinks link → AllByRecursion IsTabled fs → 0 < length fs
    → 0 < length (fitting link most_bytes (enumerate_from 0 fs))
first_fits link [] links h some = absurd (omega (arith, some))
first_fits link (f ∷ fs) links h some =
    let few = row_few link (is_coded (0, f)) f links h.0 in
    fits_by (nat_le (length (row_text link (0, f))) most_bytes) (0, f)
    (fitting link (most_bytes - length (row_text link (0, f))) (enumerate_from 1 fs)) (length (row_text link (0, f))) most_bytes refl (omega (arith, few))

take_tabled : (n : ℕ) (fs : List Finding) → AllByRecursion IsTabled fs → AllByRecursion IsTabled (take n fs)
take_tabled zero fs h = tt
take_tabled (suc n) [] h = tt
take_tabled (suc n) (f ∷ fs) h = (h.0, take_tabled n fs h.1)

take_some : (n : ℕ) (fs : List Finding) → 0 < length fs → 0 < length (take (suc n) fs)
take_some n [] some = some
take_some n (f ∷ fs) some = omega arith

pub some_row : (link : Option (List ℕ)) (change : Option GatedChange) (reporting : Reporting) (log : Data) → AreLinks link → 0 < length (reported_by change reporting log)
    → 0 < length (in_table link (room_for None) (reported_by change reporting log))
some_row link change reporting log links some =
    let fs : List Finding = reported_by change reporting log in
    let count = length_listed fs in
    first_fits link (take most_rows (listed fs)) links (take_tabled most_rows (listed fs) (listed_each IsTabled fs (all_tabled change reporting log)))
    (take_some 199 (listed fs) (omega (arith, some, count)))
