-- White space is taken out of a string character by character.
use Rattle.std.proofs.Common.{◌≡◌, ◌<◌, ◌≤◌, ◌==◌, ◌+◌, ◌/◌, ◌%◌, ℕ, Bool, true, false, cond, not, ◌||◌, List, [], ◌∷◌, ◌++◌, refl, sym, ap, ◌∙◌, append_assoc, ne_eqb, arith}
use Rattle.std.specs.Prelude.{nat_lt}
use Rattle.std.specs.Char.{encode_utf8}
use Rattle.std.specs.List.{AllByRecursion, list_any}
use Rattle.std.proofs.lemmas.Bool.{le-ltb, ltb-true, ltb-false}
use Rattle.std.proofs.lemmas.Str.{encode_ascii}
use Rattle.sarif_model.specs.WhiteSpace.{is_white_space}
use Rattle.sarif_evidence.specs.Seen.{packed}

abbrev AreHigh : List ℕ → Type 0
AreHigh bytes = AllByRecursion (λ b. 128 ≤ b) bytes

high_apart : (b n : ℕ) → 128 ≤ b → n < 128 → (b == n) ≡ false
high_apart b n high low = ne_eqb b n (λ same. omega (arith, high, low, same))

high_is_not_white : (b : ℕ) → 128 ≤ b → is_white_space b ≡ false
high_is_not_white b high =
    let space = high_apart b 32 high (omega arith) in
    let tab = high_apart b 9 high (omega arith) in
    let line_feed = high_apart b 10 high (omega arith) in
    let form_feed = high_apart b 12 high (omega arith) in
    let carriage_return = high_apart b 13 high (omega arith) in
    rw (space, tab, line_feed, form_feed, carriage_return)

packed_high : (bytes rest : List ℕ) → AreHigh bytes → packed (bytes ++ rest) ≡ bytes ++ packed rest
packed_high [] rest high = refl
packed_high (b ∷ bytes) rest high =
    ap (λ t. cond (not t) (b ∷ packed (bytes ++ rest)) (packed (bytes ++ rest))) (high_is_not_white b high.0)
    ∙ ap (λ l. b ∷ l) (packed_high bytes rest high.1)

by_width : (two three : Bool) (c : ℕ)
    → AreHigh (cond two ((192 + c / 64) ∷ (128 + c % 64) ∷ []) (cond three ((224 + c / 4096) ∷ (128 + c / 64 % 64) ∷ (128 + c % 64) ∷ [])
    ((240 + c / 262144) ∷ (128 + c / 4096 % 64) ∷ (128 + c / 64 % 64) ∷ (128 + c % 64) ∷ [])))
by_width true three c = (omega arith, (omega arith, tt))
by_width false true c = (omega arith, (omega arith, (omega arith, tt)))
by_width false false c = (omega arith, (omega arith, (omega arith, (omega arith, tt))))

encoded_high : (c : ℕ) → 128 ≤ c → AreHigh (encode_utf8 c)
unfolding encode_utf8
encoded_high c high = rw (le-ltb c 128 high) (by_width (nat_lt c 2048) (nat_lt c 65536) c)

by_size : (c : ℕ) (rest : List ℕ) (small : Bool) → nat_lt c 128 ≡ small
    → packed (encode_utf8 c ++ rest) ≡ cond (is_white_space c) (packed rest) (encode_utf8 c ++ packed rest)
by_size c rest true e =
    let alone = encode_ascii c (ltb-true c 128 e) in
    ap (λ bytes. packed (bytes ++ rest)) alone ∙ by_test (is_white_space c)
    ∙ ap (λ bytes. cond (is_white_space c) (packed rest) (bytes ++ packed rest)) (sym alone)
  where
    by_test : (b : Bool) → cond (not b) (c ∷ packed rest) (packed rest) ≡ cond b (packed rest) (c ∷ packed rest)
    by_test true = refl
    by_test false = refl
by_size c rest false e =
    let high = ltb-false c 128 e in
    packed_high (encode_utf8 c) rest (encoded_high c high)
    ∙ ap (λ b. cond b (packed rest) (encode_utf8 c ++ packed rest)) (sym (high_is_not_white c high))

-- one character more
packed_char : (c : ℕ) (rest : List ℕ) → packed (encode_utf8 c ++ rest) ≡ cond (is_white_space c) (packed rest) (encode_utf8 c ++ packed rest)
packed_char c rest = by_size c rest (nat_lt c 128) refl

-- a character that stays
pub packed_kept : (kept new rest more all : List ℕ) (c : ℕ) → is_white_space c ≡ false → new ≡ kept ++ encode_utf8 c
    → rest ≡ encode_utf8 c ++ more → kept ++ packed rest ≡ all → new ++ packed more ≡ all
packed_kept kept new rest more all c stays pushed parts so_far =
    ap (λ l. l ++ packed more) pushed ∙ append_assoc kept (encode_utf8 c) (packed more)
    ∙ ap (λ b. kept ++ cond b (packed more) (encode_utf8 c ++ packed more)) (sym stays)
    ∙ ap (λ l. kept ++ l) (sym (packed_char c more)) ∙ ap (λ l. kept ++ packed l) (sym parts) ∙ so_far

-- a character that goes
pub packed_gone : (kept rest more all : List ℕ) (c : ℕ) → is_white_space c ≡ true → rest ≡ encode_utf8 c ++ more → kept ++ packed rest ≡ all
    → kept ++ packed more ≡ all
packed_gone kept rest more all c goes parts so_far =
    ap (λ b. kept ++ cond b (packed more) (encode_utf8 c ++ packed more)) (sym goes)
    ∙ ap (λ l. kept ++ l) (sym (packed_char c more)) ∙ ap (λ l. kept ++ packed l) (sym parts) ∙ so_far

-- nothing goes if there is no white space
pub none_gone : (text : List ℕ) → list_any is_white_space text ≡ false → packed text ≡ text
none_gone [] none = refl
none_gone (b ∷ text) none =
    let parts = or_parts (is_white_space b) (list_any is_white_space text) none in
    rw (parts.0, none_gone text parts.1) refl
  where
    or_parts : (a b : Bool) → (a || b) ≡ false → (a ≡ false) × (b ≡ false)
    or_parts true b is = let never : ⊥ = cc in absurd never
    or_parts false b is = (refl, is)
