-- Escaped strings contain no markup.
use Rattle.std.proofs.Common.{◌≡◌, ◌<◌, ◌≤◌, ◌==◌, ◌^◌, ◌+◌, ℕ, Bool, true, false, List, [], ◌∷◌, ◌++◌, codes, chars, decimal, flat_map, encode_utf8, if◌then◌else◌, refl, ap, sym, ◌∙◌, append_assoc, arith}
use Rattle.std.specs.List.{list_all}
use Rattle.std.specs.Char.{is_ascii_digit}
use Rattle.std.proofs.Common.{◌%◌}
use Rattle.std.proofs.lemmas.Bool.{and_parts, and_from, false_from_ne_true, eqb-true, true≢false}
use Rattle.std.proofs.lemmas.Bool.Decides.{nat_tests}
use Rattle.std.proofs.lemmas.Fmt.{decimal_by_steps}
use Rattle.sarif_shown.specs.declared.escaping.Escaping.TheVariants.{Markdown, Page}
use Rattle.sarif_shown.specs.Escaped.{escaped, page_char, markdown_char, is_mark}
use Rattle.sarif_shown.specs.EscapedLaws.{is_element_text, has_no_mark, ends_number}
use Rattle.sarif_shown.proofs.TextApart.{remainder}
use Rattle.sarif_findings.proofs.HighBytes.{high_apart, char_kept}

-- ---- in a page

page_high : (b : ℕ) (rest : List ℕ) → 128 ≤ b → is_element_text rest ≡ true → is_element_text (b ∷ rest) ≡ true
page_high b rest high h =
    rw (
      high_apart b 60 high (omega arith),
      high_apart b 62 high (omega arith),
      high_apart b 34 high (omega arith),
      high_apart b 39 high (omega arith),
      high_apart b 38 high (omega arith),
    ) h

page_low : (c : ℕ) (rest : List ℕ) → (c == 38) ≡ false → (c == 60) ≡ false → (c == 62) ≡ false → (c == 34) ≡ false → (c == 39) ≡ false
    → is_element_text rest ≡ true → is_element_text (c ∷ rest) ≡ true
page_low c rest e0 e1 e2 e3 e4 h = rw (e0, e1, e2, e3, e4) h

page_by : (b0 b1 b2 b3 b4 : Bool) (c : ℕ) (rest : List ℕ) → (c == 38) ≡ b0 → (c == 60) ≡ b1 → (c == 62) ≡ b2 → (c == 34) ≡ b3 → (c == 39) ≡ b4
    → is_element_text rest ≡ true
    → is_element_text ((if b0 then codes "&amp;" else (if b1 then codes "&lt;" else (if b2 then codes "&gt;" else (
    if b3 then codes "&quot;" else (if b4 then codes "&#39;" else encode_utf8 c))))) ++ rest) ≡ true
page_by true b1 b2 b3 b4 c rest e0 e1 e2 e3 e4 h = h
page_by false true b2 b3 b4 c rest e0 e1 e2 e3 e4 h = h
page_by false false true b3 b4 c rest e0 e1 e2 e3 e4 h = h
page_by false false false true b4 c rest e0 e1 e2 e3 e4 h = h
page_by false false false false true c rest e0 e1 e2 e3 e4 h = h
page_by false false false false false c rest e0 e1 e2 e3 e4 h =
    char_kept (λ bs. is_element_text bs ≡ true) page_high c rest (λ _ g. page_low c rest e0 e1 e2 e3 e4 g) h

pub page_chars : (cs : List ℕ) → is_element_text (flat_map page_char cs) ≡ true
page_chars [] = refl
page_chars (c ∷ cs) =
    page_by (c == 38) (c == 60) (c == 62) (c == 34) (c == 39) c (flat_map page_char cs) refl refl refl refl refl (page_chars cs)

pub page_apart : (text : List ℕ) → is_element_text (escaped Page text) ≡ true
unfolding escaped
page_apart text = page_chars (chars text)

-- ---- in Markdown

mark_high : (b : ℕ) → 128 ≤ b → is_mark b ≡ false
mark_high b high = grind (arith, nat_tests, high)

marks_high : (b : ℕ) (rest : List ℕ) → 128 ≤ b → has_no_mark rest ≡ true → has_no_mark (b ∷ rest) ≡ true
marks_high b rest high h = rw (high_apart b 38 high (omega arith), mark_high b high) h

mark_low : (c : ℕ) (rest : List ℕ) → (c == 38) ≡ false → is_mark c ≡ false → has_no_mark rest ≡ true → has_no_mark (c ∷ rest) ≡ true
mark_low c rest e0 e1 h = rw (e0, e1) h

-- ---- the digits of a number

digit_ends : (d : ℕ) (rest : List ℕ) → is_ascii_digit d ≡ true → ends_number (d ∷ rest) ≡ ends_number rest
digit_ends d rest digit =
    let other : (d == 59) ≡ false = grind (arith, nat_tests, digit) in
    rw (other, digit) refl

digits_end : (ds rest : List ℕ) → list_all is_ascii_digit ds ≡ true → ends_number (ds ++ (59 ∷ rest)) ≡ has_no_mark rest
digits_end [] rest h = refl
digits_end (d ∷ ds) rest h =
    let parts = and_parts (is_ascii_digit d) (list_all is_ascii_digit ds) h in
    digit_ends d (ds ++ (59 ∷ rest)) parts.0 ∙ digits_end ds rest parts.1

last_digit : (n : ℕ) → n < 10 → is_ascii_digit (48 + n) ≡ true
last_digit n small = grind (arith, nat_tests, small)

digits_more : (ds : List ℕ) (d : ℕ) → list_all is_ascii_digit ds ≡ true → is_ascii_digit d ≡ true → list_all is_ascii_digit (ds ++ d ∷ []) ≡ true
digits_more [] d h e = rw e refl
digits_more (c ∷ ds) d h e =
    let parts = and_parts (is_ascii_digit c) (list_all is_ascii_digit ds) h in
    and_from _ _ parts.0 (digits_more ds d parts.1 e)

pub decimal_digits : (n : ℕ) → n < 2 ^ 64 → list_all is_ascii_digit (decimal n) ≡ true
decimal_digits n small =
    decimal_by_steps (λ _ ds. list_all is_ascii_digit ds ≡ true)
    (λ k low. and_from _ _ (last_digit k low) refl)
    (λ k ds _ h. digits_more ds (48 + k % 10) h (last_digit (k % 10) (remainder k)))
    n small

pub mark_small : (c : ℕ) → is_mark c ≡ true → c < 2 ^ 64
mark_small c mark = grind (arith, nat_tests, mark)

mark_by : (b : Bool) (c : ℕ) (rest : List ℕ) → is_mark c ≡ b → has_no_mark rest ≡ true
    → has_no_mark ((if b then codes "&#" ++ (decimal c ++ codes ";") else encode_utf8 c) ++ rest) ≡ true
mark_by true c rest e h =
    ap ends_number (append_assoc (decimal c) (codes ";") rest) ∙ digits_end (decimal c) rest (decimal_digits c (mark_small c e)) ∙ h
mark_by false c rest e h =
    let other : (c == 38) ≡ false = false_from_ne_true (c == 38) (λ same. true≢false (sym (ap is_mark (eqb-true c 38 same)) ∙ e)) in
    char_kept (λ bs. has_no_mark bs ≡ true) marks_high c rest (λ _ g. mark_low c rest other e g) h

mark_chars : (cs : List ℕ) → has_no_mark (flat_map markdown_char cs) ≡ true
mark_chars [] = refl
mark_chars (c ∷ cs) = mark_by (is_mark c) c (flat_map markdown_char cs) refl (mark_chars cs)

pub marks_apart : (text : List ℕ) → has_no_mark (escaped Markdown text) ≡ true
unfolding escaped
marks_apart text = mark_chars (chars text)
