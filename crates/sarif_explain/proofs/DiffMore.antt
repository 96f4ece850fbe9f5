-- The lines of a diff, which are cut off in order.
use Rattle.std.proofs.Common.{◌≡◌, ◌==◌, ℕ, suc, ◌+◌, ◌-◌, ◌<◌, ◌≤◌, Bool, true, false, List, [], ◌∷◌, ◌++◌, length, take, drop, get_or, chars, codes, IsUtf8, refl, sym, ◌∙◌, ap, arith, ne_eqb, add-one, length-drop, append-nil, append_assoc, drop-cons, if◌then◌else◌}
use Rattle.std.specs.Str.{is_utf8}
use Rattle.std.proofs.lemmas.List.{take_more, drop_all, take_all}
use Rattle.std.proofs.lemmas.Bool.{false≢true}
use Rattle.std.proofs.lemmas.Str.{IsUtf8-from_is_utf8, is_utf8-from_IsUtf8}
use Rattle.sarif_explain.specs.Internal.Diff.{first_line, found_in, past_line, past_lines}
use Rattle.sarif_explain.specs.Internal.Lines.{most_of_a_value, shortened}

-- the first byte is a line feed, or isn't
past_line-end : (b : ℕ) (bytes : List ℕ) → b ≡ 10 → past_line (b ∷ bytes) ≡ bytes
unfolding past_line
past_line-end b bytes feed = ap (λ x. past_line (x ∷ bytes)) feed

past_line-more : (b : ℕ) (bytes : List ℕ) → (b ≡ 10 → ⊥) → past_line (b ∷ bytes) ≡ past_line bytes
unfolding past_line
past_line-more b bytes other = ap (λ is. if is then bytes else past_line bytes) (ne_eqb b 10 other)

past_line-nil : past_line [] ≡ []
unfolding past_line
past_line-nil = refl

-- what follows a line feed at i, if there is none before it
pub rest_begins : (bytes : List ℕ) (i : ℕ) → i < length bytes → get_or bytes i 0 ≡ 10
    → past_line bytes ≡ past_line (drop i bytes)
    → take (length bytes - (i + 1)) (drop (i + 1) bytes) ≡ past_line bytes
rest_begins bytes i within feed held =
    take_all (length bytes - (i + 1)) (drop (i + 1) bytes) (omega (arith, length-drop (i + 1) bytes))
    ∙ ap (λ n. drop n bytes) (add-one i)
    ∙ sym (ap past_line (drop-cons bytes i 0 within) ∙ past_line-end _ _ feed) ∙ sym held

-- another byte at i is passed over
pub rest_is_later : (bytes : List ℕ) (i : ℕ) → i < length bytes → (get_or bytes i 0 ≡ 10 → ⊥)
    → past_line bytes ≡ past_line (drop i bytes) → past_line bytes ≡ past_line (drop (i + 1) bytes)
rest_is_later bytes i within other held =
    held ∙ ap past_line (drop-cons bytes i 0 within) ∙ past_line-more _ _ other
    ∙ ap (λ n. past_line (drop n bytes)) (sym (add-one i))

-- nothing follows without a line feed
pub rest_is_none : (bytes : List ℕ) (i : ℕ) → length bytes ≤ i
    → past_line bytes ≡ past_line (drop i bytes) → [] ≡ past_line bytes
rest_is_none bytes i past held = sym (held ∙ ap past_line (drop_all i bytes past) ∙ past_line-nil)

first_line-end : (b : ℕ) (bytes : List ℕ) → b ≡ 10 → first_line (b ∷ bytes) ≡ []
unfolding first_line
first_line-end b bytes feed = ap (λ x. first_line (x ∷ bytes)) feed

first_line-more : (b : ℕ) (bytes : List ℕ) → (b ≡ 10 → ⊥) → first_line (b ∷ bytes) ≡ b ∷ first_line bytes
unfolding first_line
first_line-more b bytes other = ap (λ is. if is then [] else b ∷ first_line bytes) (ne_eqb b 10 other)

first_line-nil : first_line [] ≡ []
unfolding first_line
first_line-nil = refl

-- the first line is what is before a line feed at i, if there is none before it
pub line_ends : (bytes : List ℕ) (i : ℕ) → i < length bytes → get_or bytes i 0 ≡ 10
    → first_line bytes ≡ take i bytes ++ first_line (drop i bytes) → take i bytes ≡ first_line bytes
line_ends bytes i within feed held =
    sym (append-nil (take i bytes))
    ∙ ap (λ xs. take i bytes ++ xs) (sym (ap first_line (drop-cons bytes i 0 within) ∙ first_line-end _ _ feed))
    ∙ sym held

-- another byte at i is one of the line
pub line_goes_on : (bytes : List ℕ) (i : ℕ) → i < length bytes → (get_or bytes i 0 ≡ 10 → ⊥)
    → first_line bytes ≡ take i bytes ++ first_line (drop i bytes)
    → first_line bytes ≡ take (i + 1) bytes ++ first_line (drop (i + 1) bytes)
line_goes_on bytes i within other held =
    held
    ∙ ap (λ xs. take i bytes ++ xs) (ap first_line (drop-cons bytes i 0 within) ∙ first_line-more _ _ other)
    ∙ sym (append_assoc (take i bytes) (get_or bytes i 0 ∷ []) (first_line (drop (suc i) bytes)))
    ∙ ap (λ xs. xs ++ first_line (drop (suc i) bytes)) (sym (take_more bytes i 0 within))
    ∙ ap (λ n. take (i + 1) bytes ++ first_line (drop n bytes)) (sym (add-one i))

-- without a line feed, all is one line
pub line_is_all : (bytes : List ℕ) (i : ℕ) → length bytes ≤ i
    → first_line bytes ≡ take i bytes ++ first_line (drop i bytes) → bytes ≡ first_line bytes
line_is_all bytes i past held =
    sym (append-nil bytes)
    ∙ ap (λ xs. bytes ++ xs) (sym (ap first_line (drop_all i bytes past) ∙ first_line-nil))
    ∙ ap (λ xs. xs ++ first_line (drop i bytes)) (sym (take_all i bytes past))
    ∙ sym held

-- a line that has bytes, which are text or aren't
told : (bytes : List ℕ) (is none : Bool) → is_utf8 bytes ≡ is → none ≡ (length bytes == 0) → none ≡ false
    → found_in bytes ≡ (if is then shortened most_of_a_value (chars bytes) else codes "bytes that are not UTF-8")
told [] is none e empty some = absurd (false≢true (sym some ∙ empty))
told (b ∷ bytes) is none e empty some =
    ap (λ x. if x then shortened most_of_a_value (chars (b ∷ bytes)) else codes "bytes that are not UTF-8") e

pub found_text : (bytes : List ℕ) (none : Bool) → IsUtf8 bytes → none ≡ (length bytes == 0) → none ≡ false
    → found_in bytes ≡ shortened most_of_a_value (chars bytes)
found_text bytes none utf8 empty some = told bytes true none (is_utf8-from_IsUtf8 bytes utf8) empty some

is_none : (bytes : List ℕ) → (IsUtf8 bytes → ⊥) → (b : Bool) → is_utf8 bytes ≡ b → b ≡ false
is_none bytes other true e = absurd (other (IsUtf8-from_is_utf8 bytes e))
is_none bytes other false e = refl

pub found_bytes : (bytes : List ℕ) (none : Bool) → (IsUtf8 bytes → ⊥) → none ≡ (length bytes == 0) → none ≡ false
    → found_in bytes ≡ codes "bytes that are not UTF-8"
found_bytes bytes none other empty some =
    told bytes false none (is_none bytes other (is_utf8 bytes) refl) empty some

-- one more line is cut off
pub past_lines-more : (left : ℕ) (bytes : List ℕ) → 1 < left
    → past_lines (left - 1) bytes ≡ past_lines (left - 1 - 1) (past_line bytes)
unfolding past_lines
past_lines-more left bytes more =
    let e : left - 1 ≡ suc (left - 1 - 1) = omega (arith, more) in
    ap (λ n. past_lines n bytes) e

pub past_lines-none : (left : ℕ) (bytes : List ℕ) → left ≤ 1 → past_lines (left - 1) bytes ≡ bytes
unfolding past_lines
past_lines-none left bytes few =
    let e : left - 1 ≡ 0 = omega (arith, few) in
    ap (λ n. past_lines n bytes) e
