-- A path or a rule in a page has no tags but its breaks.
use Rattle.std.proofs.Common.{◌≡◌, ◌≤◌, ◌==◌, ◌&&◌, ◌++◌, ℕ, Bool, true, false, List, [], ◌∷◌, codes, chars, encode_utf8, if◌then◌else◌, refl, sym, ap, subst, ◌∙◌, append_assoc, arith}
use Rattle.sarif_shown.specs.Escaped.{page_char}
use Rattle.sarif_page.specs.HtmlBreaks.{break_if, broken, broken_after, ends_part, is_capital, is_small}
use Rattle.sarif_page.specs.HtmlLaws.{has_breaks}
use Rattle.sarif_findings.proofs.HighBytes.{high_apart, char_kept}

high_kept : (b : ℕ) (rest : List ℕ) → 128 ≤ b → has_breaks [] rest ≡ true → has_breaks [] (b ∷ rest) ≡ true
high_kept b rest high h =
    rw (
      high_apart b 60 high (omega arith),
      high_apart b 62 high (omega arith),
      high_apart b 34 high (omega arith),
      high_apart b 39 high (omega arith),
      high_apart b 38 high (omega arith),
    ) h

low_kept : (c : ℕ) (rest : List ℕ) → (c == 38) ≡ false → (c == 60) ≡ false → (c == 62) ≡ false → (c == 34) ≡ false → (c == 39) ≡ false
    → has_breaks [] rest ≡ true → has_breaks [] (c ∷ rest) ≡ true
low_kept c rest e0 e1 e2 e3 e4 h = rw (e0, e1, e2, e3, e4) h

char_by : (b0 b1 b2 b3 b4 : Bool) (c : ℕ) (rest : List ℕ) → (c == 38) ≡ b0 → (c == 60) ≡ b1 → (c == 62) ≡ b2 → (c == 34) ≡ b3 → (c == 39) ≡ b4
    → has_breaks [] rest ≡ true
    → has_breaks [] ((if b0 then codes "&amp;" else (if b1 then codes "&lt;" else (if b2 then codes "&gt;" else (
    if b3 then codes "&quot;" else (if b4 then codes "&#39;" else encode_utf8 c))))) ++ rest) ≡ true
char_by true b1 b2 b3 b4 c rest e0 e1 e2 e3 e4 h = h
char_by false true b2 b3 b4 c rest e0 e1 e2 e3 e4 h = h
char_by false false true b3 b4 c rest e0 e1 e2 e3 e4 h = h
char_by false false false true b4 c rest e0 e1 e2 e3 e4 h = h
char_by false false false false true c rest e0 e1 e2 e3 e4 h = h
char_by false false false false false c rest e0 e1 e2 e3 e4 h =
    char_kept (λ bs. has_breaks [] bs ≡ true) high_kept c rest (λ _ g. low_kept c rest e0 e1 e2 e3 e4 g) h

break_kept : (b : Bool) (rest : List ℕ) → has_breaks [] rest ≡ true → has_breaks [] (break_if b ++ rest) ≡ true
break_kept true rest h = h
break_kept false rest h = h

broken_chars : (small : Bool) (cs : List ℕ) → has_breaks [] (broken_after small cs) ≡ true
broken_chars small [] = refl
broken_chars small (c ∷ cs) =
    let rest = broken_after (is_small c) cs in
    let first = break_if (small && is_capital c) in
    let last = break_if (ends_part c) in
    let parts : (first ++ (page_char c ++ last)) ++ rest ≡ first ++ (page_char c ++ (last ++ rest)) =
    append_assoc first (page_char c ++ last) rest ∙ ap (λ l. first ++ l) (append_assoc (page_char c) last rest) in
    subst (λ l. has_breaks [] l ≡ true) (sym parts)
    (break_kept (small && is_capital c) (page_char c ++ (last ++ rest))
    (char_by (c == 38) (c == 60) (c == 62) (c == 34) (c == 39) c (last ++ rest) refl refl refl refl refl
    (break_kept (ends_part c) rest (broken_chars (is_small c) cs))))

pub broken_apart : (text : List ℕ) → has_breaks [] (broken text) ≡ true
unfolding broken
broken_apart text = broken_chars false (chars text)
