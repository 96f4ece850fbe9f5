-- The characters of an encoded string are the characters that were encoded, even if some are not valid.
use Rattle.std.proofs.Common.{◌≡◌, ◌<◌, ◌≤◌, ◌+◌, ◌-◌, ◌*◌, ◌/◌, ◌%◌, ℕ, zero, suc, Bool, true, false, cond, List, [], ◌∷◌, ◌++◌, refl, ap, ap₂, ◌∙◌, arith}
use Rattle.std.specs.Prelude.{nat_lt, encode_utf8_all}
use Rattle.std.specs.Char.{encode_utf8}
use Rattle.std.specs.Str.{chars, chars_after, continuation_len, lead_bits}
use Rattle.std.proofs.lemmas.Bool.{lt-ltb, le-ltb, ltb-true}

-- no byte of the character is left
after-none : (c : ℕ) (rest : List ℕ) → chars_after zero c rest ≡ c ∷ chars rest
unfolding chars
after-none c [] = refl
after-none c (b ∷ bs) = refl

after-one : (l x c : ℕ) (rest : List ℕ) → l * 64 + (x - 128) ≡ c → chars_after (suc zero) l (x ∷ rest) ≡ c ∷ chars rest
after-one l x c rest e = ap (λ v. chars_after zero v rest) e ∙ after-none c rest

after-two : (l x y c : ℕ) (rest : List ℕ) → (l * 64 + (x - 128)) * 64 + (y - 128) ≡ c → chars_after (suc (suc zero)) l (x ∷ y ∷ rest) ≡ c ∷ chars rest
after-two l x y c rest e = after-one (l * 64 + (x - 128)) y c rest e

after-three : (l x y z c : ℕ) (rest : List ℕ) → ((l * 64 + (x - 128)) * 64 + (y - 128)) * 64 + (z - 128) ≡ c
    → chars_after (suc (suc (suc zero))) l (x ∷ y ∷ z ∷ rest) ≡ c ∷ chars rest
after-three l x y z c rest e = after-two (l * 64 + (x - 128)) y z c rest e

begins : (b n l : ℕ) (bs : List ℕ) → continuation_len b ≡ n → lead_bits b ≡ l → chars (b ∷ bs) ≡ chars_after n l bs
unfolding chars
begins b n l bs len bits = ap₂ (λ m v. chars_after m v bs) len bits

len-none : (b : ℕ) → b < 128 → continuation_len b ≡ 0
len-none b small = rw (lt-ltb b 128 small) refl

bits-none : (b : ℕ) → b < 128 → lead_bits b ≡ b
bits-none b small = rw (lt-ltb b 128 small) refl

len-one : (b : ℕ) → 128 ≤ b → b < 224 → continuation_len b ≡ 1
len-one b low high = rw (le-ltb b 128 low, lt-ltb b 224 high) refl

bits-one : (b : ℕ) → 128 ≤ b → b < 224 → lead_bits b ≡ b - 192
bits-one b low high = rw (le-ltb b 128 low, lt-ltb b 224 high) refl

len-two : (b : ℕ) → 224 ≤ b → b < 240 → continuation_len b ≡ 2
len-two b low high = rw (le-ltb b 128 (omega (arith, low)), le-ltb b 224 low, lt-ltb b 240 high) refl

bits-two : (b : ℕ) → 224 ≤ b → b < 240 → lead_bits b ≡ b - 224
bits-two b low high = rw (le-ltb b 128 (omega (arith, low)), le-ltb b 224 low, lt-ltb b 240 high) refl

len-three : (b : ℕ) → 240 ≤ b → continuation_len b ≡ 3
len-three b low = rw (le-ltb b 128 (omega (arith, low)), le-ltb b 224 (omega (arith, low)), le-ltb b 240 low) refl

bits-three : (b : ℕ) → 240 ≤ b → lead_bits b ≡ b - 240
bits-three b low = rw (le-ltb b 128 (omega (arith, low)), le-ltb b 224 (omega (arith, low)), le-ltb b 240 low) refl

by_width : (one two three : Bool) (c : ℕ) (rest : List ℕ) → nat_lt c 128 ≡ one → nat_lt c 2048 ≡ two → nat_lt c 65536 ≡ three
    → chars (cond one (c ∷ []) (cond two ((192 + c / 64) ∷ (128 + c % 64) ∷ []) (cond three ((224 + c / 4096) ∷ (128 + c / 64 % 64) ∷ (128 + c % 64) ∷ [])
    ((240 + c / 262144) ∷ (128 + c / 4096 % 64) ∷ (128 + c / 64 % 64) ∷ (128 + c % 64) ∷ []))) ++ rest) ≡ c ∷ chars rest
by_width true two three c rest e1 e2 e3 =
    let small : c < 128 = ltb-true c 128 e1 in
    begins c 0 c rest (len-none c small) (bits-none c small) ∙ after-none c rest
by_width false true three c rest e1 e2 e3 =
    let small : c < 2048 = ltb-true c 2048 e2 in
    let high : 192 + c / 64 < 224 = omega (arith, small) in
    begins (192 + c / 64) 1 (192 + c / 64 - 192) _ (len-one (192 + c / 64) (omega arith) high) (bits-one (192 + c / 64) (omega arith) high)
    ∙ after-one (192 + c / 64 - 192) (128 + c % 64) c rest (omega arith)
by_width false false true c rest e1 e2 e3 =
    let small : c < 65536 = ltb-true c 65536 e3 in
    let high : 224 + c / 4096 < 240 = omega (arith, small) in
    begins (224 + c / 4096) 2 (224 + c / 4096 - 224) _ (len-two (224 + c / 4096) (omega arith) high) (bits-two (224 + c / 4096) (omega arith) high)
    ∙ after-two (224 + c / 4096 - 224) (128 + c / 64 % 64) (128 + c % 64) c rest (omega arith)
by_width false false false c rest e1 e2 e3 =
    begins (240 + c / 262144) 3 (240 + c / 262144 - 240) _ (len-three (240 + c / 262144) (omega arith)) (bits-three (240 + c / 262144) (omega arith))
    ∙ after-three (240 + c / 262144 - 240) (128 + c / 4096 % 64) (128 + c / 64 % 64) (128 + c % 64) c rest (omega arith)

pub char_back : (c : ℕ) (rest : List ℕ) → chars (encode_utf8 c ++ rest) ≡ c ∷ chars rest
unfolding encode_utf8
char_back c rest = by_width (nat_lt c 128) (nat_lt c 2048) (nat_lt c 65536) c rest refl refl refl

pub chars_back : (cs : List ℕ) → chars (encode_utf8_all cs) ≡ cs
unfolding chars
chars_back [] = refl
chars_back (c ∷ cs) = char_back c (encode_utf8_all cs) ∙ ap (λ ds. c ∷ ds) (chars_back cs)
