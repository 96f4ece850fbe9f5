-- The bytes of a character that isn't ASCII.
use Rattle.std.proofs.Common.{◌≡◌, ◌<◌, ◌≤◌, ◌==◌, ◌+◌, ◌/◌, ◌%◌, ℕ, Bool, true, false, cond, List, [], ◌∷◌, ◌++◌, refl, ne_eqb, arith}
use Rattle.std.specs.Prelude.{nat_lt}
use Rattle.std.specs.Char.{encode_utf8}
use Rattle.std.proofs.lemmas.Bool.{le-ltb, ltb-true, ltb-false}
use Rattle.std.proofs.lemmas.Str.{encode_ascii}

pub high_apart : (b n : ℕ) → 128 ≤ b → n < 128 → (b == n) ≡ false
high_apart b n high low = ne_eqb b n (λ same. omega (arith, high, low, same))

by_width : (P : List ℕ → Type 0) → ((b : ℕ) (rest : List ℕ) → 128 ≤ b → P rest → P (b ∷ rest)) → (two three : Bool) (c : ℕ) (rest : List ℕ) → P rest
    → P (cond two ((192 + c / 64) ∷ (128 + c % 64) ∷ []) (cond three ((224 + c / 4096) ∷ (128 + c / 64 % 64) ∷ (128 + c % 64) ∷ [])
    ((240 + c / 262144) ∷ (128 + c / 4096 % 64) ∷ (128 + c / 64 % 64) ∷ (128 + c % 64) ∷ [])) ++ rest)
by_width P step true three c rest h = step _ _ (omega arith) (step _ _ (omega arith) h)
by_width P step false true c rest h = step _ _ (omega arith) (step _ _ (omega arith) (step _ _ (omega arith) h))
by_width P step false false c rest h =
    step _ _ (omega arith) (step _ _ (omega arith) (step _ _ (omega arith) (step _ _ (omega arith) h)))

-- what each byte from 128 on keeps, such a character keeps
pub high_kept : (P : List ℕ → Type 0) → ((b : ℕ) (rest : List ℕ) → 128 ≤ b → P rest → P (b ∷ rest)) → (c : ℕ) (rest : List ℕ) → 128 ≤ c → P rest
    → P (encode_utf8 c ++ rest)
unfolding encode_utf8
high_kept P step c rest high h = rw (le-ltb c 128 high) (by_width P step (nat_lt c 2048) (nat_lt c 65536) c rest h)

by_size : (P : List ℕ → Type 0) → ((b : ℕ) (rest : List ℕ) → 128 ≤ b → P rest → P (b ∷ rest)) → (c : ℕ) (rest : List ℕ)
    → (c < 128 → P rest → P (c ∷ rest)) → P rest → (b : Bool) → nat_lt c 128 ≡ b → P (encode_utf8 c ++ rest)
by_size P step c rest low h true e = let small : c < 128 = ltb-true c 128 e in rw (encode_ascii c small) (low small h)
by_size P step c rest low h false e = high_kept P step c rest (ltb-false c 128 e) h

-- what is kept by the byte of an ASCII character, and by each byte from 128 on
pub char_kept : (P : List ℕ → Type 0) → ((b : ℕ) (rest : List ℕ) → 128 ≤ b → P rest → P (b ∷ rest)) → (c : ℕ) (rest : List ℕ)
    → (c < 128 → P rest → P (c ∷ rest)) → P rest → P (encode_utf8 c ++ rest)
char_kept P step c rest low h = by_size P step c rest low h (nat_lt c 128) refl
