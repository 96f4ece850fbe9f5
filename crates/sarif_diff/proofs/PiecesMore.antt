-- The pieces of bytes, cut at the first separator.
use Rattle.std.proofs.Common.{◌≡◌, ℕ, ◌+◌, ◌-◌, ◌<◌, ◌≤◌, ◌==◌, suc, Bool, true, false, not, cond, ltb, Some, None, List, [], ◌∷◌, length, take, drop, refl, arith}
use Rattle.std.specs.Prelude.{unwrap_or}
use Rattle.std.specs.List.{position_or_len, position}
use Rattle.std.proofs.lemmas.List.{take_rest, drop_all}
use Rattle.std.proofs.lemmas.List.Sums.{prefix_len-le-length}
use Rattle.std.proofs.lemmas.Bool.Decides.{nat_tests}
use Rattle.sarif_diff.specs.Pieces.{pieces_at, with_byte}

at_most : (m n : ℕ) → m ≤ n → unwrap_or (cond (ltb m n) (Some m) None) n ≡ m
at_most m n le = grind (arith, nat_tests)

pub place_within : (test : ℕ → Bool) (bytes : List ℕ) → position_or_len test bytes ≤ length bytes
place_within test bytes = prefix_len-le-length (λ b. not (test b)) bytes

pub place_is : (test : ℕ → Bool) (bytes : List ℕ) → unwrap_or (position test bytes) (length bytes) ≡ position_or_len test bytes
place_is test bytes = at_most (position_or_len test bytes) (length bytes) (place_within test bytes)

cut_at : (s : ℕ) (bytes : List ℕ) → position_or_len (λ b. b == s) bytes < length bytes
    → pieces_at s bytes ≡ take (position_or_len (λ b. b == s) bytes) bytes ∷ pieces_at s (drop (position_or_len (λ b. b == s) bytes + 1) bytes)
unfolding pieces_at
cut_at s [] h = absurd (omega arith)
cut_at s (b ∷ bs) h =
    let m = position_or_len (λ b. b == s) bs in
    (elim (b == s) as (λ t. cond (not t) (1 + m) 0 < length (b ∷ bs)
    → cond t ([] ∷ pieces_at s bs) (with_byte b (pieces_at s bs))
    ≡ take (cond (not t) (1 + m) 0) (b ∷ bs) ∷ pieces_at s (drop (cond (not t) (1 + m) 0 + 1) (b ∷ bs))) [
      | true ↦ λ _. refl
      | false ↦ λ less.
          let within : m < length bs = omega arith in
          let one : 1 + m ≡ suc m = omega arith in
          let two : 1 + m + 1 ≡ suc (m + 1) = omega arith in
          rw (cut_at s bs within, two, one) refl
    ]) h

uncut_at : (s : ℕ) (bytes : List ℕ) → 0 < length bytes → length bytes ≤ position_or_len (λ b. b == s) bytes → pieces_at s bytes ≡ bytes ∷ []
unfolding pieces_at
uncut_at s [] some all = absurd (omega arith)
uncut_at s (b ∷ []) some all =
    (elim (b == s) as (λ t. 1 ≤ cond (not t) (1 + 0) 0 → cond t ([] ∷ []) (with_byte b []) ≡ (b ∷ []) ∷ []) [
      | true ↦ λ le. absurd (omega arith)
      | false ↦ λ le. refl
    ]) all
uncut_at s (b ∷ c ∷ cs) some all =
    let m = position_or_len (λ b. b == s) (c ∷ cs) in
    (elim (b == s) as (λ t. length (b ∷ c ∷ cs) ≤ cond (not t) (1 + m) 0
    → cond t ([] ∷ pieces_at s (c ∷ cs)) (with_byte b (pieces_at s (c ∷ cs))) ≡ (b ∷ c ∷ cs) ∷ []) [
      | true ↦ λ le. absurd (omega arith)
      | false ↦ λ le.
          let rest : pieces_at s (c ∷ cs) ≡ (c ∷ cs) ∷ [] = uncut_at s (c ∷ cs) (omega arith) (omega arith) in
          rw rest refl
    ]) all

-- cut at that place
pub cut : (s : ℕ) (bytes : List ℕ) → position_or_len (λ b. b == s) bytes < length bytes
    → pieces_at s bytes ≡ take (position_or_len (λ b. b == s) bytes) bytes
    ∷ pieces_at s (take (length bytes - (position_or_len (λ b. b == s) bytes + 1)) (drop (position_or_len (λ b. b == s) bytes + 1) bytes))
cut s bytes within = rw (take_rest bytes (position_or_len (λ b. b == s) bytes + 1)) (cut_at s bytes within)

-- whole, if there is no separator
pub uncut : (s : ℕ) (bytes : List ℕ) → 0 < length bytes → length bytes ≤ position_or_len (λ b. b == s) bytes
    → pieces_at s bytes ≡ bytes ∷ pieces_at s (take (length bytes - length bytes) (drop (length bytes) bytes))
unfolding pieces_at
uncut s bytes some all =
    rw (take_rest bytes (length bytes), drop_all (length bytes) bytes (omega arith)) (uncut_at s bytes some all)

pub none_left : (s : ℕ) (bytes : List ℕ) → length bytes ≡ 0 → pieces_at s bytes ≡ []
unfolding pieces_at
none_left s [] none = refl
none_left s (b ∷ bs) none = absurd (omega arith)
