-- Code in a page has no markup, and no `#` as it is.
use Rattle.std.proofs.Common.{◌≡◌, ◌≤◌, ◌==◌, ◌++◌, ℕ, Bool, true, false, List, [], ◌∷◌, codes, chars, flat_map, encode_utf8, if◌then◌else◌, refl, arith}
use Rattle.sarif_page.specs.HtmlCode.{code_char, code_text}
use Rattle.sarif_page.specs.HtmlLaws.{is_code_text}
use Rattle.sarif_findings.proofs.HighBytes.{high_apart, char_kept}

high_kept : (b : ℕ) (rest : List ℕ) → 128 ≤ b → is_code_text false rest ≡ true → is_code_text false (b ∷ rest) ≡ true
high_kept b rest high h =
    rw (
      high_apart b 60 high (omega arith),
      high_apart b 62 high (omega arith),
      high_apart b 34 high (omega arith),
      high_apart b 39 high (omega arith),
      high_apart b 38 high (omega arith),
      high_apart b 35 high (omega arith),
    ) h

low_kept : (c : ℕ) (rest : List ℕ) → (c == 35) ≡ false → (c == 38) ≡ false → (c == 60) ≡ false → (c == 62) ≡ false → (c == 34) ≡ false
    → (c == 39) ≡ false → is_code_text false rest ≡ true → is_code_text false (c ∷ rest) ≡ true
low_kept c rest e e0 e1 e2 e3 e4 h = rw (e, e0, e1, e2, e3, e4) h

char_by : (b b0 b1 b2 b3 b4 : Bool) (c : ℕ) (rest : List ℕ) → (c == 35) ≡ b → (c == 38) ≡ b0 → (c == 60) ≡ b1 → (c == 62) ≡ b2 → (c == 34) ≡ b3
    → (c == 39) ≡ b4 → is_code_text false rest ≡ true
    → is_code_text false ((if b then codes "&#35;" else (if b0 then codes "&amp;" else (if b1 then codes "&lt;" else (if b2 then codes "&gt;" else (
    if b3 then codes "&quot;" else (if b4 then codes "&#39;" else encode_utf8 c)))))) ++ rest) ≡ true
char_by true b0 b1 b2 b3 b4 c rest e e0 e1 e2 e3 e4 h = h
char_by false true b1 b2 b3 b4 c rest e e0 e1 e2 e3 e4 h = h
char_by false false true b2 b3 b4 c rest e e0 e1 e2 e3 e4 h = h
char_by false false false true b3 b4 c rest e e0 e1 e2 e3 e4 h = h
char_by false false false false true b4 c rest e e0 e1 e2 e3 e4 h = h
char_by false false false false false true c rest e e0 e1 e2 e3 e4 h = h
char_by false false false false false false c rest e e0 e1 e2 e3 e4 h =
    char_kept (λ bs. is_code_text false bs ≡ true) high_kept c rest (λ _ g. low_kept c rest e e0 e1 e2 e3 e4 g) h

code_chars : (cs : List ℕ) → is_code_text false (flat_map code_char cs) ≡ true
code_chars [] = refl
code_chars (c ∷ cs) =
    char_by (c == 35) (c == 38) (c == 60) (c == 62) (c == 34) (c == 39) c (flat_map code_char cs) refl refl refl refl refl refl (code_chars cs)

pub code_apart : (text : List ℕ) → is_code_text false (code_text text) ≡ true
unfolding code_text
code_apart text = code_chars (chars text)
