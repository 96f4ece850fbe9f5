-- A line feed after a JSON text makes no difference.
use Rattle.std.proofs.Common.{◌≡◌, ℕ, ◌+◌, ◌-◌, ◌*◌, ◌==◌, Bool, true, false, cond, ◌&&◌, ◌||◌, List, [], ◌∷◌, ◌++◌, length, take, drop, Option, Some, None, option_map, refl, sym, ap, ap₂, ◌∙◌, arith, length-append}
use Rattle.std.specs.Prelude.{nat_lt, nat_eq, option_and_then}
use Rattle.std.specs.List.{prefix_len, starts_with}
use Rattle.std.specs.Char.{digit_value, is_digit, is_ascii_digit, encode_utf8}
use Rattle.std.proofs.lemmas.List.{take-append-le, drop-append-le}
use Rattle.std.proofs.lemmas.List.Sums.{prefix_len-le-length}
use Rattle.json.specs.Ascii as ascii
use Rattle.json.specs.Text.{Within, plain, after_backslash, after_u, after_high, content, prepend, short_escape, code_unit, is_high_surrogate, is_low_surrogate, surrogate_pair}
use Rattle.json.specs.Token.{Token, number, boolean, null, bad}
use Rattle.json.specs.Word.{ends_word, after_digits, after_minus, after_sign, after_whole, after_fraction, after_exponent, after_number, number_before, literal, word}
use Rattle.json.specs.Lex.{Mode, between, in_word, in_string, in_escape, Class, quote, backslash, operator, space, other, class, lex_byte, operator_lexeme, string_token, token, lex, punctuate, fresh}
use Rattle.serde_json.specs.Data.{Data}
use Rattle.serde_json.specs.Read.{of_json, max_depth, read}
use Rattle.json.specs.Json as json

abbrev line : List ℕ
line = 10 ∷ []

-- ---- strings

no_unit : (a b c : ℕ) → code_unit a b c 10 ≡ None
unfolding code_unit
no_unit a b c = by_test (is_digit a 16 && is_digit b 16 && is_digit c 16)
    (Some (digit_value a * 4096 + digit_value b * 256 + digit_value c * 16 + digit_value 10))
  where
    by_test : (x : Bool) (o : Option ℕ) → cond (x && false) o None ≡ None
    by_test true o = refl
    by_test false o = refl

content_line : (w : Within) (xs : List ℕ) → content w (xs ++ line) ≡ content w xs
unfolding content short_escape
content_line plain [] = refl
content_line plain (x ∷ xs) =
    ap₂ (λ a b. cond (x == ascii.quote) (Some []) (cond (x == ascii.backslash) a (cond (nat_lt x ascii.space) None (prepend (x ∷ []) b))))
    (content_line after_backslash xs) (content_line plain xs)
content_line after_backslash [] = refl
content_line after_backslash (x ∷ xs) =
    ap₂ (λ a b. cond (x == ascii.lower_u) a (option_and_then (λ c. prepend (c ∷ []) b) (short_escape x))) (content_line after_u xs) (content_line plain xs)
content_line after_u [] = refl
content_line after_u (a ∷ []) = refl
content_line after_u (a ∷ b ∷ []) = refl
content_line after_u (a ∷ b ∷ c ∷ []) = rw (no_unit a b c) refl
content_line after_u (a ∷ b ∷ c ∷ d ∷ xs) =
    λ i. option_and_then
    (λ u. cond (is_high_surrogate u) (content_line (after_high u) xs i)
    (cond (is_low_surrogate u) None (prepend (encode_utf8 u) (content_line plain xs i)))) (code_unit a b c d)
content_line (after_high h) [] = refl
content_line (after_high h) (s ∷ []) = refl
content_line (after_high h) (s ∷ u ∷ []) = refl
content_line (after_high h) (s ∷ u ∷ a ∷ []) = refl
content_line (after_high h) (s ∷ u ∷ a ∷ b ∷ []) = refl
content_line (after_high h) (s ∷ u ∷ a ∷ b ∷ c ∷ []) = rw (no_unit a b c) (none_either ((s == ascii.backslash) && (u == ascii.lower_u)))
  where
    none_either : (b : Bool) → ◌≡◌ {A = Option (List ℕ)} (cond b None None) None
    none_either true = refl
    none_either false = refl
content_line (after_high h) (s ∷ u ∷ a ∷ b ∷ c ∷ d ∷ xs) =
    λ i. cond ((s == ascii.backslash) && (u == ascii.lower_u))
    (option_and_then (λ l. cond (is_low_surrogate l) (prepend (encode_utf8 (surrogate_pair h l)) (content_line plain xs i)) None)
    (code_unit a b c d)) None

-- ---- words

ends_line : (t : List ℕ) → ends_word (t ++ line) ≡ ends_word t
ends_line [] = refl
ends_line (x ∷ xs) = refl

digits_line : (t : List ℕ) → prefix_len is_ascii_digit (t ++ line) ≡ prefix_len is_ascii_digit t
digits_line [] = refl
digits_line (x ∷ xs) = ap (λ n. cond (is_ascii_digit x) (1 + n) 0) (digits_line xs)

abbrev ended : Option (List ℕ) → Option (List ℕ)
ended o = option_map (λ t. t ++ line) o

after_digits_line : (t : List ℕ) → after_digits (t ++ line) ≡ ended (after_digits t)
after_digits_line t =
    let n = prefix_len is_ascii_digit t in
    ap (λ m. cond (m == 0) None (Some (drop m (t ++ line)))) (digits_line t)
    ∙ ap (λ l. cond (n == 0) None (Some l)) (drop-append-le n t line (prefix_len-le-length is_ascii_digit t)) ∙ either (n == 0) (drop n t)
  where
    either : (b : Bool) (t : List ℕ) → cond b None (Some (t ++ line)) ≡ ended (cond b None (Some t))
    either true t = refl
    either false t = refl

after_minus_line : (t : List ℕ) → after_minus (t ++ line) ≡ after_minus t ++ line
after_minus_line [] = refl
after_minus_line (x ∷ xs) = elim (x == ascii.minus) as (λ b. cond b (xs ++ line) (x ∷ (xs ++ line)) ≡ cond b xs (x ∷ xs) ++ line) [ true ↦ refl | false ↦ refl ]

after_sign_line : (t : List ℕ) → after_sign (t ++ line) ≡ after_sign t ++ line
after_sign_line [] = refl
after_sign_line (x ∷ xs) =
    elim ((x == ascii.minus) || (x == ascii.plus)) as
    (λ b. cond b (xs ++ line) (x ∷ (xs ++ line)) ≡ cond b xs (x ∷ xs) ++ line) [ true ↦ refl | false ↦ refl ]

after_whole_line : (t : List ℕ) → after_whole (t ++ line) ≡ ended (after_whole t)
after_whole_line [] = refl
after_whole_line (x ∷ xs) =
    ap (λ o. cond (x == ascii.zero) (Some (xs ++ line)) o) (after_digits_line (x ∷ xs))
    ∙ elim (x == ascii.zero) as
    (λ b. cond b (Some (xs ++ line)) (ended (after_digits (x ∷ xs))) ≡ ended (cond b (Some xs) (after_digits (x ∷ xs))))
    [ true ↦ refl | false ↦ refl ]

after_fraction_line : (t : List ℕ) → after_fraction (t ++ line) ≡ ended (after_fraction t)
after_fraction_line [] = refl
after_fraction_line (x ∷ xs) =
    ap (λ o. cond (x == ascii.dot) o (Some (x ∷ (xs ++ line)))) (after_digits_line xs)
    ∙ elim (x == ascii.dot) as
    (λ b. cond b (ended (after_digits xs)) (Some (x ∷ (xs ++ line))) ≡ ended (cond b (after_digits xs) (Some (x ∷ xs))))
    [ true ↦ refl | false ↦ refl ]

after_exponent_line : (t : List ℕ) → after_exponent (t ++ line) ≡ ended (after_exponent t)
after_exponent_line [] = refl
after_exponent_line (x ∷ xs) =
    ap (λ o. cond ((x == ascii.lower_e) || (x == ascii.upper_e)) o (Some (x ∷ (xs ++ line))))
    (ap after_digits (after_sign_line xs) ∙ after_digits_line (after_sign xs))
    ∙ elim ((x == ascii.lower_e) || (x == ascii.upper_e)) as
    (λ b. cond b (ended (after_digits (after_sign xs))) (Some (x ∷ (xs ++ line)))
    ≡ ended (cond b (after_digits (after_sign xs)) (Some (x ∷ xs)))) [ true ↦ refl | false ↦ refl ]

then_line : (f : List ℕ → Option (List ℕ)) → ((t : List ℕ) → f (t ++ line) ≡ ended (f t)) → (o : Option (List ℕ))
    → option_and_then f (ended o) ≡ ended (option_and_then f o)
then_line f each None = refl
then_line f each (Some t) = each t

after_number_line : (t : List ℕ) → after_number (t ++ line) ≡ ended (after_number t)
unfolding after_number
after_number_line t =
    ap (λ u. option_and_then after_exponent (option_and_then after_fraction (after_whole u))) (after_minus_line t)
    ∙ ap (λ o. option_and_then after_exponent (option_and_then after_fraction o)) (after_whole_line (after_minus t))
    ∙ ap (option_and_then after_exponent) (then_line after_fraction after_fraction_line (after_whole (after_minus t)))
    ∙ then_line after_exponent after_exponent_line (option_and_then after_fraction (after_whole (after_minus t)))

number_line : (t : List ℕ) (o : Option (List ℕ)) → number_before (t ++ line) (ended o) ≡ number_before t o
number_line t None = refl
number_line t (Some rest) =
    let n = length t - length rest in
    let same : length (t ++ line) - length (rest ++ line) ≡ n = omega (arith, length-append t line, length-append rest line) in
    ap₂ (λ b m. cond b (number (take m (t ++ line))) bad) (ends_line rest) same
    ∙ ap (λ l. cond (ends_word rest) (number l) bad) (take-append-le n t line (omega arith))

no_newline : List ℕ → Bool
no_newline [] = true
no_newline (x ∷ xs) = cond (nat_eq x 10) false (no_newline xs)

no_line_first : (y : ℕ) (ys : List ℕ) → no_newline (y ∷ ys) ≡ true → nat_eq y 10 ≡ false
unfolding no_newline
no_line_first y ys none = elim (nat_eq y 10) as (λ b. cond b false (no_newline ys) ≡ true → b ≡ false) [ true ↦ λ e. sym e | false ↦ λ e. refl ] none

no_line_more : (y : ℕ) (ys : List ℕ) → no_newline (y ∷ ys) ≡ true → no_newline ys ≡ true
unfolding no_newline
no_line_more y ys none =
    elim (nat_eq y 10) as (λ b. cond b false (no_newline ys) ≡ true → no_newline ys ≡ true)
    [ true ↦ λ e. let never : ⊥ = cc in absurd never | false ↦ λ e. e ] none

starts_line : (name t : List ℕ) → no_newline name ≡ true
    → (starts_with nat_eq (t ++ line) name && ends_word (drop (length name) (t ++ line)))
    ≡ (starts_with nat_eq t name && ends_word (drop (length name) t))
starts_line [] t none = ends_line t
starts_line (y ∷ ys) [] none = rw (no_line_first y ys none) refl
starts_line (y ∷ ys) (x ∷ xs) none = by_test (nat_eq y x) _ _ _ _ (starts_line ys xs (no_line_more y ys none))
  where
    by_test : (c a' b' a b : Bool) → (a' && b') ≡ (a && b) → (c && a' && b') ≡ (c && a && b)
    by_test true a' b' a b same = same
    by_test false a' b' a b same = refl

literal_line : (name : List ℕ) (t : Token) (text : List ℕ) → no_newline name ≡ true → literal name t (text ++ line) ≡ literal name t text
literal_line name t text none = ap (λ b. cond b t bad) (starts_line name text none)

none_true : no_newline ascii.true_text ≡ true
unfolding no_newline
none_true = refl

none_false : no_newline ascii.false_text ≡ true
unfolding no_newline
none_false = refl

none_null : no_newline ascii.null_text ≡ true
unfolding no_newline
none_null = refl

word_line : (x : ℕ) (xs : List ℕ) → word (x ∷ (xs ++ line)) ≡ word (x ∷ xs)
unfolding word
word_line x xs =
    let t = x ∷ xs in
    λ i. cond (x == ascii.lower_t) (literal_line ascii.true_text (boolean true) t none_true i)
    (cond (x == ascii.lower_f) (literal_line ascii.false_text (boolean false) t none_false i)
    (cond (x == ascii.lower_n) (literal_line ascii.null_text null t none_null i)
    ((ap (number_before (t ++ line)) (after_number_line t) ∙ number_line t (after_number t)) i)))

-- ---- the whole

lex_line_at : (m : Mode) (c : Class) (x : ℕ) (xs : List ℕ) → ((n : Mode) → lex n (xs ++ line) ≡ lex n xs)
    → lex_byte m c x (xs ++ line) (λ n. lex n (xs ++ line)) ≡ lex_byte m c x xs (λ n. lex n xs)
lex_line_at between quote x xs more = λ i. token (string_token (content_line plain xs i)) ∷ more in_string i
lex_line_at between backslash x xs more = ap (λ l. token bad ∷ l) (more in_word)
lex_line_at between operator x xs more = ap (λ l. operator_lexeme x ∷ l) (more between)
lex_line_at between space x xs more = more between
lex_line_at between other x xs more = λ i. token (word_line x xs i) ∷ more in_word i
lex_line_at in_word quote x xs more = more in_word
lex_line_at in_word backslash x xs more = more in_word
lex_line_at in_word operator x xs more = ap (λ l. operator_lexeme x ∷ l) (more between)
lex_line_at in_word space x xs more = more between
lex_line_at in_word other x xs more = more in_word
lex_line_at in_string quote x xs more = more between
lex_line_at in_string backslash x xs more = more in_escape
lex_line_at in_string operator x xs more = more in_string
lex_line_at in_string space x xs more = more in_string
lex_line_at in_string other x xs more = more in_string
lex_line_at in_escape c x xs more = more in_string

lex_line : (xs : List ℕ) (m : Mode) → lex m (xs ++ line) ≡ lex m xs
unfolding lex
lex_line [] between = refl
lex_line [] in_word = refl
lex_line [] in_string = refl
lex_line [] in_escape = refl
lex_line (x ∷ xs) m = lex_line_at m (class x) x xs (λ n. lex_line xs n)

-- a line feed after JSON changes nothing of what is read
pub read_line : (text : List ℕ) → read (text ++ 10 ∷ []) ≡ read text
read_line text = ap read_tokens (ap (punctuate fresh) (lex_line text between))
  where
    read_tokens : List Token → Option Data
    read_tokens ts = option_and_then of_json (option_and_then (λ p. json.if_last p.0 p.1) (json.value max_depth ts))
