-- Placeholders that are replaced by nothing.
use Rattle.std.proofs.Common.{◌≡◌, ◌<◌, ◌==◌, ℕ, ◌+◌, ◌-◌, ◌*◌, true, false, List, [], ◌∷◌, ◌++◌, Some, chars, IsUtf8, drop, get_or, length, refl, sym, ap, ◌∙◌, arith}
use Rattle.std.specs.Char.{is_ascii_digit}
use Rattle.std.proofs.lemmas.Bool.Decides.{nat_tests}
use Rattle.std.proofs.lemmas.List.{drop_more}
use Rattle.std.specs.Str.{IsCharBoundary}
use Rattle.std.proofs.StrCases.{chars_of_empty}
use Rattle.std.proofs.lemmas.Str.{encode_ascii, IsCharBoundary-after_ascii}
use Rattle.serde_json.specs.Data.{Data}
use Rattle.sarif_findings.specs.declared.links.Part.TheVariants.{Outside}
use Rattle.sarif_findings.specs.Links.{begins_pair, unlinked_from}
use Rattle.sarif_findings.specs.Placeholders.{argument_at, filled_from, index_from, piece_of}
use Rattle.sarif_findings.specs.Internal.Unlinked.{IsEmptied, PassesEmpties}
use Rattle.sarif_findings.proofs.CharsBack.{char_back}
use Rattle.sarif_findings.proofs.LinksMore.{char_stays}

pub no_pair : (c : ℕ) (cs : List ℕ) → (c == 92) ≡ false → begins_pair c cs ≡ false
no_pair c [] h = refl
no_pair c (d ∷ ds) h = rw h refl

-- a character that neither begins a link nor a pair
stays : (others : List Data) (c : ℕ) (cs : List ℕ) → (c == 91) ≡ false → (c == 92) ≡ false
    → unlinked_from others Outside (c ∷ cs) ≡ c ∷ unlinked_from others Outside cs
stays others c cs bracket back = char_stays others Outside Outside c cs (rw (no_pair c cs back, bracket) refl) refl

digit_bracket : (d : ℕ) → is_ascii_digit d ≡ true → (d == 91) ≡ false
digit_bracket d h = grind (arith, nat_tests, h)

digit_back : (d : ℕ) → is_ascii_digit d ≡ true → (d == 92) ≡ false
digit_back d h = grind (arith, nat_tests, h)

digit_open : (d : ℕ) → is_ascii_digit d ≡ true → (d == 123) ≡ false
digit_open d h = grind (arith, nat_tests, h)

digit_close : (d : ℕ) → is_ascii_digit d ≡ true → (d == 125) ≡ false
digit_close d h = grind (arith, nat_tests, h)

pub digit_low : (d : ℕ) → is_ascii_digit d ≡ true → d < 128
digit_low d h = grind (arith, nat_tests, h)

index_is : (d : ℕ) (cs : List ℕ) → is_ascii_digit d ≡ true → index_from 0 0 (d ∷ 125 ∷ cs) ≡ Some (d - 48, 1)
index_is d cs h =
    let number : 0 * 10 + (d - 48) ≡ d - 48 = omega arith in
    rw (digit_close d h, h) (ap (λ n. Some (n, 1)) number)

piece_is : (args : List Data) (d : ℕ) (cs : List ℕ) → is_ascii_digit d ≡ true → argument_at args (d - 48) ≡ Some []
    → piece_of args 123 (d ∷ 125 ∷ cs) ≡ ([], 2)
piece_is args d cs h none = rw (digit_open d h, index_is d cs h, none, chars_of_empty [] refl) refl

-- one placeholder
one_empty : (args others : List Data) (d : ℕ) (cs : List ℕ) → is_ascii_digit d ≡ true → argument_at args (d - 48) ≡ Some []
    → filled_from args 0 (unlinked_from others Outside cs) ≡ filled_from args 0 (unlinked_from others Outside (123 ∷ d ∷ 125 ∷ cs))
one_empty args others d cs h none =
    let after : List ℕ = unlinked_from others Outside cs in
    let all : unlinked_from others Outside (123 ∷ d ∷ 125 ∷ cs) ≡ 123 ∷ d ∷ 125 ∷ after =
    stays others 123 (d ∷ 125 ∷ cs) refl refl
    ∙ ap (λ es. 123 ∷ es) (stays others d (125 ∷ cs) (digit_bracket d h) (digit_back d h) ∙ ap (λ es. d ∷ es) (stays others 125 cs refl refl)) in
    sym (ap (λ es. filled_from args 0 es) all
    ∙ ap (λ (p : List ℕ × ℕ). p.0 ++ filled_from args p.1 (d ∷ 125 ∷ after)) (piece_is args d after h none))

pub char_of : (b : ℕ) (bs : List ℕ) → b < 128 → chars (b ∷ bs) ≡ b ∷ chars bs
char_of b bs low = ap (λ e. chars (e ++ bs)) (sym (encode_ascii b low)) ∙ char_back b bs

-- the next byte of a string, and what follows it
pub next : (text : List ℕ) (i j : ℕ) → i < length text → i + 1 ≡ j → drop i text ≡ get_or text i 0 ∷ drop j text
next text i j within on = drop_more text i 0 within ∙ ap (λ n. get_or text i 0 ∷ drop n text) on

pub cut_behind : (text : List ℕ) (i j : ℕ) → IsUtf8 text → i < length text → get_or text i 0 < 128 → j ≡ i + 1 → IsCharBoundary text j
cut_behind text i j utf8 within low on = rw on (IsCharBoundary-after_ascii text i utf8 within low)

-- the placeholder at a position in a string
pub passes_one : (args : List Data) (text : List ℕ) (i : ℕ) → i + 2 < length text
    → IsEmptied args (get_or text i 0) (get_or text (i + 1) 0) (get_or text (i + 2) 0)
    → PassesEmpties args (drop i text) text → PassesEmpties args (drop (i + 3) text) text
passes_one args text i within here before = λ others.
    let d = get_or text (i + 1) 0 in
    let digit = here.1.1.0 in
    let parts : drop i text ≡ 123 ∷ d ∷ 125 ∷ drop (i + 3) text =
    drop_more text i 0 (omega (arith, within)) ∙ ap (λ b. b ∷ drop (i + 1) text) here.0
    ∙ ap (λ bs. 123 ∷ bs) (next text (i + 1) (i + 2) (omega (arith, within)) (omega arith)
    ∙ ap (λ bs. d ∷ bs) (next text (i + 2) (i + 3) (omega (arith, within)) (omega arith) ∙ ap (λ b. b ∷ drop (i + 3) text) here.1.0)) in
    let read : chars (drop i text) ≡ 123 ∷ d ∷ 125 ∷ chars (drop (i + 3) text) =
    ap chars parts ∙ char_of 123 (d ∷ 125 ∷ drop (i + 3) text) (omega arith)
    ∙ ap (λ cs. 123 ∷ cs) (char_of d (125 ∷ drop (i + 3) text) (digit_low d digit) ∙ ap (λ cs. d ∷ cs) (char_of 125 (drop (i + 3) text) (omega arith))) in
    one_empty args others d (chars (drop (i + 3) text)) digit here.1.1.1
    ∙ sym (ap (λ cs. filled_from args 0 (unlinked_from others Outside cs)) read)
    ∙ before others
