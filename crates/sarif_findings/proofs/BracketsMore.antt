-- The text of a link up to its first bracket that is not in a pair.
use Rattle.std.proofs.Common.{◌≡◌, ◌<◌, ◌≤◌, ◌==◌, ◌+◌, ◌-◌, ◌&&◌, ℕ, Bool, true, false, List, [], ◌∷◌, ◌++◌, encode_utf8, chars, IsUtf8, drop, take, get_or, length, append_assoc, refl, sym, ap, ap₂, ◌∙◌, ne_eqb, arith}
use Rattle.std.specs.Prelude.{encode_utf8_all}
use Rattle.std.specs.List.{list_all, slice_range}
use Rattle.std.specs.Str.{IsCharBoundary}
use Rattle.std.proofs.StrCases.{chars_of_empty}
use Rattle.std.proofs.lemmas.Bool.{true≢false}
use Rattle.std.proofs.lemmas.Bool.Decides.{nat_tests}
use Rattle.std.proofs.lemmas.List.{drop_more, drop_all, drop-drop, get_or-drop, length-drop, take-append-drop, take-take, take_all}
use Rattle.std.proofs.lemmas.Slice.{between_is}
use Rattle.std.proofs.lemmas.List.Folds.{list_all-append}
use Rattle.std.proofs.lemmas.Str.{encode_ascii, encodes-chars, IsCharBoundary-before_ascii, IsUtf8-drop, IsUtf8-take}
use Rattle.serde_json.specs.Data.{Data}
use Rattle.sarif_findings.specs.Internal.Brackets.{is_ordinary, closes_link}
use Rattle.sarif_findings.specs.Links.{begins_pair, ends_link}
use Rattle.sarif_findings.proofs.BytesOf.{first_passes}
use Rattle.sarif_findings.proofs.CharsBack.{char_back}
use Rattle.sarif_findings.proofs.EmptiesPassed.{char_of, next, no_pair}

-- ---- one character

pub special_low : (c : ℕ) → is_ordinary c ≡ false → c < 128
special_low c h = grind (arith, nat_tests, h)

no_opening : (c : ℕ) → is_ordinary c ≡ true → (c == 91) ≡ false
no_opening c h = grind (arith, nat_tests, h)

no_closing : (c : ℕ) → is_ordinary c ≡ true → (c == 93) ≡ false
no_closing c h = grind (arith, nat_tests, h)

no_back : (c : ℕ) → is_ordinary c ≡ true → (c == 92) ≡ false
no_back c h = grind (arith, nat_tests, h)

char_goes : (args : List Data) (c : ℕ) (cs : List ℕ) → is_ordinary c ≡ true → ends_link args false (c ∷ cs) ≡ ends_link args false cs
char_goes args c cs h = rw (no_pair c cs (no_back c h), no_opening c h, no_closing c h) refl

-- ---- ordinary text

chars_go : (args : List Data) (cs rest : List ℕ) → list_all is_ordinary (encode_utf8_all cs) ≡ true
    → ends_link args false (chars (encode_utf8_all cs ++ rest)) ≡ ends_link args false (chars rest)
chars_go args [] rest h = refl
chars_go args (c ∷ cs) rest h =
    let parts = first_passes is_ordinary special_low c cs h in
    ap (λ bs. ends_link args false (chars bs)) (append_assoc (encode_utf8 c) (encode_utf8_all cs) rest)
    ∙ ap (ends_link args false) (char_back c (encode_utf8_all cs ++ rest))
    ∙ char_goes args c (chars (encode_utf8_all cs ++ rest)) parts.0
    ∙ chars_go args cs rest parts.1

text_goes : (args : List Data) (text rest : List ℕ) → IsUtf8 text → list_all is_ordinary text ≡ true
    → ends_link args false (chars (text ++ rest)) ≡ ends_link args false (chars rest)
text_goes args text rest utf8 h =
    ap (λ bs. ends_link args false (chars (bs ++ rest))) (sym (encodes-chars text utf8))
    ∙ chars_go args (chars text) rest (ap (list_all is_ordinary) (encodes-chars text utf8) ∙ h)

-- the ordinary bytes end between two characters
pub cut_there : (bs : List ℕ) (n : ℕ) → n ≤ length bs → (n < length bs → is_ordinary (get_or bs n 0) ≡ false) → IsCharBoundary bs n
cut_there bs n within stops = (within, λ less. (IsCharBoundary-before_ascii bs n less (special_low (get_or bs n 0) (stops less))).1 less)

passes : (args : List Data) (bs : List ℕ) (n : ℕ) → IsUtf8 bs → n ≤ length bs → list_all is_ordinary (take n bs) ≡ true
    → (n < length bs → is_ordinary (get_or bs n 0) ≡ false) → ends_link args false (chars bs) ≡ ends_link args false (chars (drop n bs))
passes args bs n utf8 within h stops =
    ap (λ x. ends_link args false (chars x)) (sym (take-append-drop n bs))
    ∙ text_goes args (take n bs) (drop n bs) (IsUtf8-take bs n utf8 (cut_there bs n within stops)) h

-- the first bytes of a string, and some more of them
pub parts_go : (bs : List ℕ) (i j : ℕ) → i ≤ j → list_all is_ordinary (take i bs) ≡ true → list_all is_ordinary (slice_range bs i j) ≡ true
    → list_all is_ordinary (take j bs) ≡ true
parts_go bs i j within front part =
    ap (list_all is_ordinary) (sym (take-append-drop i (take j bs)))
    ∙ list_all-append is_ordinary (take i (take j bs)) (drop i (take j bs))
    ∙ ap₂ (λ a b. a && b) (ap (list_all is_ordinary) (take-take i j bs within) ∙ front) (ap (list_all is_ordinary) (sym (between_is bs i j)) ∙ part)

pub rest_is : (bs text : List ℕ) (i : ℕ) → bs ≡ text → take (length bs - i) (drop i bs) ≡ drop i text
rest_is bs text i same = take_all (length bs - i) (drop i bs) (omega (arith, length-drop i bs)) ∙ ap (drop i) same

-- bytes are passed from a position in a string on
pub passes_from : (args : List Data) (text rest : List ℕ) (i n : ℕ) → IsUtf8 text → IsCharBoundary text i → rest ≡ drop i text → n ≤ length rest
    → list_all is_ordinary (take n rest) ≡ true → (n < length rest → is_ordinary (get_or rest n 0) ≡ false)
    → ends_link args false (chars (drop i text)) ≡ ends_link args false (chars (drop (i + n) text))
passes_from args text rest i n utf8 cut same within h stops =
    let valid : IsUtf8 rest = rw same (IsUtf8-drop text i utf8 cut) in
    sym (ap (λ bs. ends_link args false (chars bs)) same)
    ∙ passes args rest n valid within h stops
    ∙ ap (λ bs. ends_link args false (chars (drop n bs))) same
    ∙ ap (λ bs. ends_link args false (chars bs)) (drop-drop n i text)

-- ---- a backslash

special_is : (b : ℕ) → is_ordinary b ≡ false → begins_pair 92 (b ∷ []) ≡ true
special_is b h = grind (arith, nat_tests, h)

pair_goes : (args : List Data) (b : ℕ) (cs : List ℕ) → is_ordinary b ≡ false → ends_link args false (92 ∷ b ∷ cs) ≡ ends_link args false cs
pair_goes args b cs h = rw (special_is b h) refl

-- with the character that it makes a pair with
pub pair_passes : (args : List Data) (text : List ℕ) (i : ℕ) → i + 1 < length text → get_or text i 0 ≡ 92 → is_ordinary (get_or text (i + 1) 0) ≡ false
    → ends_link args false (chars (drop i text)) ≡ ends_link args false (chars (drop (i + 2) text))
pair_passes args text i within here special =
    let b = get_or text (i + 1) 0 in
    let parts : drop i text ≡ 92 ∷ b ∷ drop (i + 2) text =
    drop_more text i 0 (omega (arith, within)) ∙ ap (λ a. a ∷ drop (i + 1) text) here ∙ ap (λ bs. 92 ∷ bs) (next text (i + 1) (i + 2) within (omega arith)) in
    ap (λ x. ends_link args false (chars x)) parts
    ∙ ap (ends_link args false) (char_of 92 (b ∷ drop (i + 2) text) (omega arith)
    ∙ ap (λ cs. 92 ∷ cs) (char_of b (drop (i + 2) text) (special_low b special)))
    ∙ pair_goes args b (chars (drop (i + 2) text)) special

by_first : (c : ℕ) (cs : List ℕ) (b : Bool) → is_ordinary c ≡ b → is_ordinary (get_or (encode_utf8_all (c ∷ cs)) 0 0) ≡ true → begins_pair 92 (c ∷ cs) ≡ false
by_first c cs true e h = rw (no_opening c e, no_closing c e, no_back c e) refl
by_first c cs false e h =
    let first : is_ordinary c ≡ true = ap (λ bs. is_ordinary (get_or (bs ++ encode_utf8_all cs) 0 0)) (sym (encode_ascii c (special_low c e))) ∙ h in
    absurd (true≢false (sym first ∙ e))

no_pair_before : (cs : List ℕ) → is_ordinary (get_or (encode_utf8_all cs) 0 0) ≡ true → begins_pair 92 cs ≡ false
no_pair_before [] h = refl
no_pair_before (c ∷ cs) h = by_first c cs (is_ordinary c) refl h

alone_goes : (args : List Data) (cs : List ℕ) → begins_pair 92 cs ≡ false → ends_link args false (92 ∷ cs) ≡ ends_link args false cs
alone_goes args cs h = rw h refl

-- alone
pub alone_passes : (args : List Data) (text : List ℕ) (i : ℕ) → IsUtf8 text → i < length text → IsCharBoundary text (i + 1) → get_or text i 0 ≡ 92
    → is_ordinary (get_or text (i + 1) 0) ≡ true → ends_link args false (chars (drop i text)) ≡ ends_link args false (chars (drop (i + 1) text))
alone_passes args text i utf8 within cut here ordinary =
    let after = drop (i + 1) text in
    let coded : encode_utf8_all (chars after) ≡ after = encodes-chars after (IsUtf8-drop text (i + 1) utf8 cut) in
    let zero_more : i + 1 + 0 ≡ i + 1 = omega arith in
    let first : is_ordinary (get_or (encode_utf8_all (chars after)) 0 0) ≡ true =
    ap (λ bs. is_ordinary (get_or bs 0 0)) coded ∙ ap is_ordinary (get_or-drop (i + 1) text 0 0)
    ∙ ap (λ n. is_ordinary (get_or text n 0)) zero_more ∙ ordinary in
    ap (λ x. ends_link args false (chars x)) (drop_more text i 0 within ∙ ap (λ a. a ∷ after) here)
    ∙ ap (ends_link args false) (char_of 92 after (omega arith))
    ∙ alone_goes args (chars after) (no_pair_before (chars after) first)

-- ---- the bracket

none_left : (args : List Data) → ends_link args false [] ≡ closes_link args []
none_left args = refl

-- no byte is left
pub none_closes : (args : List Data) (text : List ℕ) (i : ℕ) → length text ≤ i
    → ends_link args false (chars (drop i text)) ≡ closes_link args (chars (drop i text))
none_closes args text i past =
    let none : chars (drop i text) ≡ [] = chars_of_empty (drop i text) (ap length (drop_all i text past)) in
    ap (ends_link args false) none ∙ none_left args ∙ sym (ap (closes_link args) none)

bracket_closes : (args : List Data) (b : ℕ) (cs : List ℕ) (opens : Bool) → (b == 91) ≡ opens → is_ordinary b ≡ false → (b ≡ 92 → ⊥)
    → ends_link args false (b ∷ cs) ≡ closes_link args (b ∷ cs)
bracket_closes args b cs true e h other =
    let is : b ≡ 91 = grind (arith, nat_tests, e) in rw (no_pair b cs (ne_eqb b 92 other), is) refl
bracket_closes args b cs false e h other =
    let is : b ≡ 93 = grind (arith, nat_tests, e, h, other) in rw (no_pair b cs (ne_eqb b 92 other), is) refl

-- a byte is left that is a bracket
pub bracket_ends : (args : List Data) (text : List ℕ) (i : ℕ) → i < length text → is_ordinary (get_or text i 0) ≡ false → (get_or text i 0 ≡ 92 → ⊥)
    → ends_link args false (chars (drop i text)) ≡ closes_link args (chars (drop i text))
bracket_ends args text i within special other =
    let b = get_or text i 0 in
    let read : chars (drop i text) ≡ b ∷ chars (drop (i + 1) text) =
    ap chars (drop_more text i 0 within) ∙ char_of b (drop (i + 1) text) (special_low b special) in
    ap (ends_link args false) read ∙ bracket_closes args b (chars (drop (i + 1) text)) (b == 91) refl special other ∙ sym (ap (closes_link args) read)
