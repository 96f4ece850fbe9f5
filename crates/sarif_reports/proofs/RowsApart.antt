-- The table of results in Markdown, row by row.
use Rattle.std.proofs.Common.{◌≡◌, ◌+◌, ◌-◌, ◌==◌, ◌++◌, ℕ, Bool, true, false, not, ◌&&◌, List, [], ◌∷◌, Option, Some, None, IfSome, chars, codes, decimal, length, flat_map, encode_utf8, if◌then◌else◌, refl, sym, ap, ◌∙◌, cond, append_assoc, subst, arith, take}
use Rattle.std.specs.List.{AllByRecursion, count_by, enumerate_from, list_all}
use Rattle.std.proofs.lemmas.Str.{encode_ascii}
use Rattle.std.specs.Char.{is_ascii_digit}
use Rattle.std.proofs.lemmas.Bool.{and_parts, and_from, false_from_ne_true, eqb-true, true≢false, not-true}
use Rattle.std.proofs.lemmas.Bool.Decides.{nat_tests}
use Rattle.std.proofs.lemmas.List.Sums.{sum_by-cons}
use Rattle.std.proofs.lemmas.List.Elements.{recursion_from_All, All-from_recursion, All-take}
use Rattle.serde_json.specs.Data.{Data}
use Rattle.sarif_model.specs.declared.kinds.Level.{Level}
use Rattle.sarif_model.specs.declared.kinds.Level.TheVariants.{NoLevel, Note, Warning, Error}
use Rattle.sarif_model.specs.declared.kinds.State.{State}
use Rattle.sarif_model.specs.declared.kinds.State.TheVariants.{New, Unchanged, Updated, Absent}
use Rattle.sarif_model.specs.Level.{level_name}
use Rattle.sarif_model.specs.State.{state_name}
use Rattle.sarif_counts.specs.Impacts.{is_hit}
use Rattle.sarif_links.specs.Address.{is_address, is_address_sign}
use Rattle.sarif_links.proofs.AddressSigns.{signs}
use Rattle.sarif_shown.specs.declared.escaping.Escaping.TheVariants.{Markdown, Page}
use Rattle.sarif_findings.specs.declared.finding.Finding.{Finding}
use Rattle.sarif_findings.specs.declared.reporting.Reporting.{Reporting}
use Rattle.sarif_findings.specs.declared.code.Code.{Code}
use Rattle.sarif_findings.specs.CodeLaws.{IsSeenLine}
use Rattle.sarif_findings.specs.CodeRows.{one_line}
use Rattle.sarif_shown.specs.Escaped.{escaped, escaped_char, markdown_char, page_char, is_mark}
use Rattle.sarif_shown.specs.Linked.{place_link}
use Rattle.sarif_findings.specs.Finding.{spot_text}
use Rattle.sarif_reports.specs.MarkdownReport.{Row, anchor, code_line, code_of, hit_cell, is_coded, linked, place_cell, result_row, row_text, rule_cell, title_of}
use Rattle.sarif_reports.specs.MarkdownLaws.{AreLinks, have_bars}
use Rattle.sarif_shown.specs.ReportedInside.{reported_by}
use Rattle.sarif_findings.specs.ShownLaws.{is_seen, are_seen}
use Rattle.sarif_shown.proofs.EscapedApart.{decimal_digits, mark_small}
use Rattle.sarif_findings.proofs.HighBytes.{high_apart, char_kept}
use Rattle.sarif_shown.proofs.SeenTexts.{IsSeenText, shown_text, place_seen, escaped_chars}
use Rattle.sarif_shown.proofs.TextApart.{seen_in_line, same_ends}
use Rattle.sarif_findings.proofs.ToldFindings.{IsShown}
use Rattle.sarif_shown.specs.Listed.{listed}
use Rattle.sarif_reports.specs.MarkdownReport.{most_rows, fitting, in_table}
use Rattle.sarif_reports.proofs.AddressRows.{IsAddressed, address_chars, link_addressed, sign_small}
use Rattle.sarif_reports.proofs.Tabled.{IsTabled, all_tabled, code_seen, line_seen, listed_each}
use Rattle.std.specs.Prelude.{nat_le}
use Rattle.sarif_scope.specs.declared.gated.GatedChange.{GatedChange}

-- this many lines end, each with eight bars, after this many earlier ones
pub record Cells (count before : ℕ) (text : List ℕ) : Type 0 where
  pub ends : count_by (λ b. b == 10) text ≡ count
  pub bars : have_bars 8 before text ≡ true

byte_more : (n k b : ℕ) (text : List ℕ) → (b == 10) ≡ false → (b == 124) ≡ false → Cells n k text → Cells n k (b ∷ text)
byte_more n k b text line bar rest = record { ends = same_ends n b text line rest.ends; bars = rw (line, bar) rest.bars }

bar_more : (n k : ℕ) (text : List ℕ) → Cells n (k + 1) text → Cells n k (124 ∷ text)
bar_more n k text rest = record { ends = same_ends n 124 text refl rest.ends; bars = rest.bars }

is_quiet : ℕ → Bool
is_quiet b = not (b == 10) && not (b == 124)

quiet_more : (n k : ℕ) (ws text : List ℕ) → list_all is_quiet ws ≡ true → Cells n k text → Cells n k (ws ++ text)
unfolding is_quiet
quiet_more n k [] text h rest = rest
quiet_more n k (w ∷ ws) text h rest =
    let parts = and_parts (not (w == 10) && not (w == 124)) (list_all is_quiet ws) h in
    let tests = and_parts (not (w == 10)) (not (w == 124)) parts.0 in
    byte_more n k w (ws ++ text) (not-true (w == 10) tests.0) (not-true (w == 124) tests.1) (quiet_more n k ws text parts.1 rest)

-- the bar between two cells
cell_more : (n k : ℕ) (text : List ℕ) → Cells n (k + 1) text → Cells n k (codes " | " ++ text)
cell_more n k text rest =
    byte_more n k 32 (124 ∷ 32 ∷ text) refl refl (bar_more n k (32 ∷ text) (byte_more n (k + 1) 32 text refl refl rest))

digit_quiet : (d : ℕ) → is_ascii_digit d ≡ true → is_quiet d ≡ true
unfolding is_quiet
digit_quiet d h = grind (arith, nat_tests, h)

digits_quiet : (ds : List ℕ) → list_all is_ascii_digit ds ≡ true → list_all is_quiet ds ≡ true
digits_quiet [] h = refl
digits_quiet (d ∷ ds) h =
    let parts = and_parts (is_ascii_digit d) (list_all is_ascii_digit ds) h in
    and_from (is_quiet d) (list_all is_quiet ds) (digit_quiet d parts.0) (digits_quiet ds parts.1)

-- ---- an escaped text

mark_by : (b : Bool) (n k c : ℕ) (text : List ℕ) → is_mark c ≡ b → is_seen c ≡ true → Cells n k text
    → Cells n k ((if b then codes "&#" ++ (decimal c ++ codes ";") else encode_utf8 c) ++ text)
unfolding is_quiet
mark_by true n k c text mark seen rest =
    let inner = quiet_more n k (decimal c) (codes ";" ++ text) (digits_quiet (decimal c) (decimal_digits c (mark_small c mark)))
    (quiet_more n k (codes ";") text refl rest) in
    subst (Cells n k) (ap (λ t. codes "&#" ++ t) (sym (append_assoc (decimal c) (codes ";") text))) (quiet_more n k (codes "&#") _ refl inner)
mark_by false n k c text mark seen rest =
    let bar : (c == 124) ≡ false = false_from_ne_true (c == 124) (λ same. true≢false (sym (ap is_mark (eqb-true c 124 same)) ∙ mark)) in
    char_kept (Cells n k) (λ b more high h. byte_more n k b more (high_apart b 10 high (omega arith)) (high_apart b 124 high (omega arith)) h) c text
    (λ _ h. byte_more n k c text (seen_in_line c seen) bar h) rest

marks_more : (n k : ℕ) (cs text : List ℕ) → are_seen cs ≡ true → Cells n k text → Cells n k (flat_map (escaped_char Markdown) cs ++ text)
marks_more n k [] text seen rest = rest
marks_more n k (c ∷ cs) text seen rest =
    let parts = and_parts (is_seen c) (are_seen cs) seen in
    subst (Cells n k) (sym (append_assoc (markdown_char c) (flat_map (escaped_char Markdown) cs) text))
    (mark_by (is_mark c) n k c _ refl parts.0 (marks_more n k cs text parts.1 rest))

escaped_more : (n k : ℕ) (shows text : List ℕ) → IsSeenText shows → Cells n k text → Cells n k (escaped Markdown shows ++ text)
escaped_more n k shows text is rest =
    subst (λ t. Cells n k (t ++ text)) (sym (escaped_chars Markdown shows is)) (marks_more n k is.0 text is.2 rest)

code_more : (n k : ℕ) (shows text : List ℕ) → IsSeenText shows → Cells n k text → Cells n k (code_of shows ++ text)
unfolding is_quiet
code_more n k [] text is rest = rest
code_more n k (b ∷ bs) text is rest =
    let inner = escaped_more n k (b ∷ bs) (codes "</code>" ++ text) is (quiet_more n k (codes "</code>") text refl rest) in
    subst (Cells n k) (ap (λ t. codes "<code>" ++ t) (sym (append_assoc (escaped Markdown (b ∷ bs)) (codes "</code>") text)))
    (quiet_more n k (codes "<code>") _ refl inner)

-- ---- a row

level_quiet : (l : Level) → list_all is_quiet (level_name l) ≡ true
unfolding is_quiet
level_quiet NoLevel = refl
level_quiet Note = refl
level_quiet Warning = refl
level_quiet Error = refl

state_quiet : (s : State) → list_all is_quiet (state_name s) ≡ true
unfolding is_quiet
state_quiet New = refl
state_quiet Unchanged = refl
state_quiet Updated = refl
state_quiet Absent = refl

hit_more : (n : ℕ) (hit : Bool) (text : List ℕ) → Cells n 2 text → Cells n 0 (hit_cell hit ++ text)
unfolding is_quiet
hit_more n true text rest =
    bar_more n 0 _ (quiet_more n 1 (codes " yes ") _ refl (bar_more n 1 _ (byte_more n 2 32 text refl refl rest)))
hit_more n false text rest =
    bar_more n 0 _ (quiet_more n 1 (codes "  ") _ refl (bar_more n 1 _ (byte_more n 2 32 text refl refl rest)))

row_ends : (n : ℕ) (text : List ℕ) → Cells n 0 text → Cells (n + 1) 7 (codes " |\n" ++ text)
row_ends n text rest =
    let first = sum_by-cons (λ b. cond (b == 10) 1 0) 10 text in
    let held = rest.ends in
    byte_more (n + 1) 7 32 _ refl refl (bar_more (n + 1) 7 _ (record { ends = omega (arith, first, held); bars = rest.bars }))

-- ---- links

join : (n k : ℕ) (a b text : List ℕ) → Cells n k (a ++ (b ++ text)) → Cells n k ((a ++ b) ++ text)
join n k a b text rest = subst (Cells n k) (sym (append_assoc a b text)) rest

sign_quiet : (c : ℕ) → is_address_sign c ≡ true → is_quiet c ≡ true
unfolding is_quiet
sign_quiet c h = grind (arith, nat_tests, h)

page_by : (a b d e f : Bool) (x : List ℕ) → list_all is_quiet x ≡ true
    → list_all is_quiet (if a then codes "&amp;" else (if b then codes "&lt;" else (if d then codes "&gt;" else (if e then codes "&quot;" else (if f then codes "&#39;" else x))))) ≡ true
unfolding is_quiet
page_by true b d e f x h = refl
page_by false true d e f x h = refl
page_by false false true e f x h = refl
page_by false false false true f x h = refl
page_by false false false false true x h = refl
page_by false false false false false x h = h

page_quiet : (c : ℕ) → is_address_sign c ≡ true → list_all is_quiet (page_char c) ≡ true
page_quiet c h =
    page_by (c == 38) (c == 60) (c == 62) (c == 34) (c == 39) (encode_utf8 c)
    (subst (λ (bytes : List ℕ). list_all is_quiet bytes ≡ true) (sym (encode_ascii c (sign_small c h))) (and_from (is_quiet c) true (sign_quiet c h) refl))

signs_more : (n k : ℕ) (cs text : List ℕ) → list_all is_address_sign cs ≡ true → Cells n k text → Cells n k (flat_map page_char cs ++ text)
signs_more n k [] text h rest = rest
signs_more n k (c ∷ cs) text h rest =
    let parts = and_parts (is_address_sign c) (list_all is_address_sign cs) h in
    join n k (page_char c) (flat_map page_char cs) text (quiet_more n k (page_char c) _ (page_quiet c parts.0) (signs_more n k cs text parts.1 rest))

address_more : (n k : ℕ) (address text : List ℕ) → list_all is_address_sign address ≡ true → Cells n k text → Cells n k (escaped Page address ++ text)
address_more n k address text h rest =
    subst (λ (bytes : List ℕ). Cells n k (bytes ++ text)) (sym (address_chars address h)) (signs_more n k address text h rest)

-- an escaped string of seen characters
seen_more : (n k : ℕ) (line text : List ℕ) → IsSeenLine line → Cells n k text → Cells n k (escaped Markdown line ++ text)
unfolding escaped
seen_more n k line text seen rest = marks_more n k (chars line) text seen.1 rest

title_more : (n k : ℕ) (name : Option (List ℕ)) (text : List ℕ) → IfSome name IsSeenLine → Cells n k text → Cells n k (title_of name ++ text)
unfolding is_quiet
title_more n k None text seen rest = rest
title_more n k (Some name) text seen rest =
    let inner = seen_more n k name (codes "\"" ++ text) seen (quiet_more n k (codes "\"") text refl rest) in
    join n k (codes " title=\"") (escaped Markdown name ++ codes "\"") text
    (quiet_more n k (codes " title=\"") _ refl (join n k (escaped Markdown name) (codes "\"") text inner))

anchor_more : (n k : ℕ) (address : List ℕ) (name : Option (List ℕ)) (plain text : List ℕ) → list_all is_address_sign address ≡ true
    → IfSome name IsSeenLine → IsSeenText plain → Cells n k text → Cells n k (anchor address name plain ++ text)
unfolding is_quiet
anchor_more n k address name plain text signs seen is rest =
    let e : List ℕ = codes "</a>" in
    let d : List ℕ = code_of plain ++ e in
    let c : List ℕ = codes ">" ++ d in
    let b : List ℕ = title_of name ++ c in
    let a : List ℕ = codes "\"" ++ b in
    let coded = join n k (code_of plain) e text (code_more n k plain (e ++ text) is (quiet_more n k e text refl rest)) in
    let begun = join n k (codes ">") d text (quiet_more n k (codes ">") (d ++ text) refl coded) in
    let titled = join n k (title_of name) c text (title_more n k name (c ++ text) seen begun) in
    let quoted = join n k (codes "\"") b text (quiet_more n k (codes "\"") (b ++ text) refl titled) in
    let linked = join n k (escaped Page address) a text (address_more n k address (a ++ text) signs quoted) in
    join n k (codes "<a href=\"") (escaped Page address ++ a) text (quiet_more n k (codes "<a href=\"") ((escaped Page address ++ a) ++ text) refl linked)

linked_more : (n k : ℕ) (address : Option (List ℕ)) (name : Option (List ℕ)) (plain text : List ℕ) → IfSome address (λ a. list_all is_address_sign a ≡ true)
    → IfSome name IsSeenLine → IsSeenText plain → Cells n k text → Cells n k (linked address name plain ++ text)
linked_more n k None name plain text signs seen is rest = code_more n k plain text is rest
linked_more n k (Some address) name plain text signs seen is rest = anchor_more n k address name plain text signs seen is rest

address_signs : (o : Option (List ℕ)) → IfSome o (λ help. is_address help ≡ true) → IfSome o (λ a. list_all is_address_sign a ≡ true)
address_signs None h = tt
address_signs (Some help) h = signs help h

link_signs : (o : Option (List ℕ)) → IfSome o IsAddressed → IfSome o (λ a. list_all is_address_sign a ≡ true)
link_signs None h = tt
link_signs (Some address) h = h.signs

rule_more : (n k : ℕ) (rule : List ℕ) (help name : Option (List ℕ)) (text : List ℕ) → IsShown rule → IfSome help (λ a. is_address a ≡ true)
    → IfSome name IsSeenLine → Cells n k text → Cells n k (rule_cell rule help name ++ text)
rule_more n k [] help name text is address seen rest = rest
rule_more n k (b ∷ bs) help name text is address seen rest =
    linked_more n k help name (b ∷ bs) text (address_signs help address) seen (shown_text (b ∷ bs) is) rest

line_code : (n k : ℕ) (line text : List ℕ) → IsSeenLine line → Cells n k text → Cells n k (code_of line ++ text)
unfolding is_quiet
line_code n k [] text seen rest = rest
line_code n k (b ∷ bs) text seen rest =
    let inner = seen_more n k (b ∷ bs) (codes "</code>" ++ text) seen (quiet_more n k (codes "</code>") text refl rest) in
    join n k (codes "<code>") (escaped Markdown (b ∷ bs) ++ codes "</code>") text
    (quiet_more n k (codes "<code>") _ refl (join n k (escaped Markdown (b ∷ bs)) (codes "</code>") text inner))

code_line_more : (n k : ℕ) (coded : Bool) (code : Option Code) (text : List ℕ) → IfSome code (λ c. AllByRecursion IsSeenLine c.lines) → Cells n k text
    → Cells n k (code_line coded code ++ text)
unfolding is_quiet
code_line_more n k coded None text seen rest = rest
code_line_more n k false (Some code) text seen rest = rest
code_line_more n k true (Some code) text seen rest =
    join n k (codes "<br>") (code_of (one_line code)) text
    (quiet_more n k (codes "<br>") _ refl (line_code n k (one_line code) text (line_seen code seen) rest))

regroup : (h l p b r m d t s e text : List ℕ)
    → ((h ++ (l ++ (b ++ (p ++ b)))) ++ ((r ++ (b ++ ((m ++ d) ++ b))) ++ (t ++ (b ++ (s ++ e))))) ++ text
    ≡ h ++ (l ++ (b ++ (p ++ (b ++ (r ++ (b ++ (m ++ (d ++ (b ++ (t ++ (b ++ (s ++ (e ++ text)))))))))))))
regroup h l p b r m d t s e text = simp append_assoc

row_more : (n : ℕ) (link : Option (List ℕ)) (coded : Bool) (f : Finding) (text : List ℕ) → AreLinks link → IsTabled f → Cells n 0 text
    → Cells (n + 1) 0 (result_row link coded f ++ text)
row_more n link coded f text links is rest =
    let told = is.told in
    let state = quiet_more (n + 1) 7 (state_name f.state) _ (state_quiet f.state) (row_ends n text rest) in
    let tool = code_more (n + 1) 6 f.tool _ (shown_text f.tool told.tool) (cell_more (n + 1) 6 _ state) in
    let line = code_line_more (n + 1) 5 coded f.code _ (code_seen f.line f.code is.code) (cell_more (n + 1) 5 _ tool) in
    let message = code_more (n + 1) 5 f.message _ (shown_text f.message told.message) line in
    let rule = rule_more (n + 1) 4 f.rule f.help f.rule_name _ told.rule is.address is.label (cell_more (n + 1) 4 _ message) in
    let place = linked_more (n + 1) 3 (place_link link f) None (spot_text f) _ (link_signs (place_link link f) (link_addressed link f links told.path is.line)) tt
    (place_seen f told) (cell_more (n + 1) 3 _ rule) in
    let level = quiet_more (n + 1) 2 (level_name f.level) _ (level_quiet f.level) (cell_more (n + 1) 2 _ place) in
    subst (Cells (n + 1) 0)
    (sym
    (regroup (hit_cell (is_hit f.impact)) (level_name f.level) (place_cell link f) (codes " | ") (rule_cell f.rule f.help f.rule_name) (code_of f.message)
    (code_line coded f.code) (code_of f.tool) (state_name f.state) (codes " |\n") text))
    (hit_more (n + 1) (is_hit f.impact) _ level)

all_rows : (link : Option (List ℕ)) (rows : List Row) → AreLinks link → AllByRecursion (λ row. IsTabled row.1) rows
    → Cells (length rows) 0 (flat_map (row_text link) rows)
all_rows link [] links h = record { ends = refl; bars = refl }
all_rows link (row ∷ rows) links h =
    let count : length rows + 1 ≡ length (row ∷ rows) = omega arith in
    subst (λ n. Cells n 0 (flat_map (row_text link) (row ∷ rows))) count
    (row_more (length rows) link (is_coded row) row.1 (flat_map (row_text link) rows) links h.0 (all_rows link rows links h.1))

-- ---- the rows of the table

numbered_tabled : (n : ℕ) (fs : List Finding) → AllByRecursion IsTabled fs → AllByRecursion (λ row. IsTabled row.1) (enumerate_from n fs)
numbered_tabled n [] h = tt
numbered_tabled n (f ∷ fs) h = (h.0, numbered_tabled (n + 1) fs h.1)

fitting_by : (b : Bool) (row : Row) (rows : List Row) → IsTabled row.1 → AllByRecursion (λ one. IsTabled one.1) rows
    → AllByRecursion (λ one. IsTabled one.1) (if b then row ∷ rows else [])
fitting_by true row rows h rest = (h, rest)
fitting_by false row rows h rest = tt

fitting_tabled : (link : Option (List ℕ)) (room : ℕ) (rows : List Row) → AllByRecursion (λ row. IsTabled row.1) rows
    → AllByRecursion (λ row. IsTabled row.1) (fitting link room rows)
fitting_tabled link room [] h = tt
fitting_tabled link room (row ∷ rows) h =
    fitting_by (nat_le (length (row_text link row)) room) row (fitting link (room - length (row_text link row)) rows) h.0
    (fitting_tabled link (room - length (row_text link row)) rows h.1)

pub table_tabled : (link : Option (List ℕ)) (room : ℕ) (fs : List Finding) → AllByRecursion IsTabled fs → AllByRecursion (λ row. IsTabled row.1) (in_table link room fs)
table_tabled link room fs h =
    let all = listed_each IsTabled fs h in
    fitting_tabled link room (enumerate_from 0 (take most_rows (listed fs)))
    (numbered_tabled 0 (take most_rows (listed fs))
    (recursion_from_All IsTabled (take most_rows (listed fs)) (All-take IsTabled most_rows (listed fs) (All-from_recursion IsTabled (listed fs) all))))

pub tabled_rows : (link : Option (List ℕ)) (room : ℕ) (fs : List Finding) → AreLinks link → AllByRecursion IsTabled fs
    → Cells (length (in_table link room fs)) 0 (flat_map (row_text link) (in_table link room fs))
tabled_rows link room fs links tabled = all_rows link (in_table link room fs) links (table_tabled link room fs tabled)

table_rows : (link : Option (List ℕ)) (room : ℕ) (change : Option GatedChange) (reporting : Reporting) (log : Data) → AreLinks link
    → Cells (length (in_table link room (reported_by change reporting log))) 0 (flat_map (row_text link) (in_table link room (reported_by change reporting log)))
table_rows link room change reporting log links =
    tabled_rows link room (reported_by change reporting log) links (all_tabled change reporting log)

pub rows_barred : (link : Option (List ℕ)) (room : ℕ) (change : Option GatedChange) (reporting : Reporting) (log : Data) → AreLinks link
    → have_bars 8 0 (flat_map (row_text link) (in_table link room (reported_by change reporting log))) ≡ true
rows_barred link room change reporting log links = (table_rows link room change reporting log links).bars

pub rows_end : (link : Option (List ℕ)) (room : ℕ) (change : Option GatedChange) (reporting : Reporting) (log : Data) → AreLinks link
    → count_by (λ b. b == 10) (flat_map (row_text link) (in_table link room (reported_by change reporting log))) ≡ length (in_table link room (reported_by change reporting log))
rows_end link room change reporting log links = (table_rows link room change reporting log links).ends
