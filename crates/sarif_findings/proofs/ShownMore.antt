-- A partly shown string: the effect of one more character.
use Rattle.std.specs.Prelude.{◌≡◌, ℕ, zero, suc, ◌-◌, ◌==◌, true, false, List, [], ◌∷◌, ◌++◌, map, chars, encode_utf8, encode_utf8_all, IsUtf8, string_bytes, if◌then◌else◌}
use Rattle.std.proofs.Common.{refl, sym, ◌∙◌, ap, append_assoc, append-nil, arith}
use Rattle.std.proofs.lemmas.Str.{chars_past_char}
use Rattle.sarif_findings.specs.Shown.{shown, kept, parted_signs, parted, plain}
use Rattle.sarif_findings.specs.declared.shown_text.ShownText.{ShownText}
use Rattle.sarif_findings.specs.Internal.ShownSoFar.{shown_with, kept_with, Keeps, SeparatesCharacter, TakesCharacters}

pub kept-nil : (room : ℕ) → kept room [] ≡ []
unfolding kept
kept-nil zero = refl
kept-nil (suc room) = refl

-- nothing follows
pub shown_with-nil : (s : ShownText) → shown_with s [] ≡ string_bytes s.text
shown_with-nil s =
    elim s.full as (λ b. string_bytes s.text ++ (if b then [] else encode_utf8_all (kept s.room [])) ≡ string_bytes s.text)
    [ true ↦ append-nil _ | false ↦ rw (kept-nil s.room) (append-nil _) ]

-- what is kept with a character more: it, or that the text ends
kept-full : (c : ℕ) (cs : List ℕ) → kept 0 (c ∷ cs) ≡ 0x2026 ∷ []
unfolding kept
kept-full c cs = refl

pub kept-cons : (room c : ℕ) (cs : List ℕ) → kept (suc room) (c ∷ cs) ≡ c ∷ kept room cs
unfolding kept
kept-cons room c cs = refl

encodes-one : (c : ℕ) → encode_utf8_all (c ∷ []) ≡ encode_utf8 c
encodes-one c = append-nil _

-- there is no room for a character
pub keeps_end : (old new : ShownText) (c : ℕ) (cs : List ℕ) → old.full ≡ false → old.room ≡ 0
    → string_bytes new.text ≡ string_bytes old.text ++ encode_utf8 0x2026 → new.full ≡ true → Keeps old new c cs
keeps_end old new c cs going none text full =
    rw (going, none, text, full, kept-full c cs, encodes-one 0x2026) (sym (append-nil _))

pub one_less : (n : ℕ) → (n ≡ 0 → ⊥) → n ≡ suc (n - 1)
one_less n some = omega (arith, some)

-- there is
pub keeps_one : (old new : ShownText) (c : ℕ) (cs : List ℕ) → old.full ≡ false → (old.room ≡ 0 → ⊥)
    → string_bytes new.text ≡ string_bytes old.text ++ encode_utf8 c → new.room ≡ old.room - 1 → new.full ≡ false
    → Keeps old new c cs
keeps_one old new c cs going some text room full =
    let after : List ℕ = encode_utf8_all (kept (old.room - 1) cs) in
    let e : kept old.room (c ∷ cs) ≡ c ∷ kept (old.room - 1) cs = ap (λ n. kept n (c ∷ cs)) (one_less old.room some) ∙ kept-cons (old.room - 1) c cs in
    rw (going, text, room, full, e) (sym (append_assoc (string_bytes old.text) (encode_utf8 c) after))

-- one character was read
pub takes_one : (old mid new last : ShownText) (c p : ℕ) → p ≡ plain c
    → ((cs : List ℕ) → SeparatesCharacter old mid p cs) → ((cs : List ℕ) → Keeps mid new p cs)
    → last.text ≡ new.text → last.room ≡ new.room → last.full ≡ new.full → last.after_sign ≡ (p == 35)
    → TakesCharacters old last (c ∷ [])
takes_one old mid new last c p shown part keep text room full sign = λ rest.
    let more : List ℕ = parted_signs (p == 35) (map plain rest) in
    ap (λ q. kept_with old (parted old.after_sign q ++ parted_signs (q == 35) (map plain rest))) (sym shown)
    ∙ part more ∙ keep more ∙ rw (text, room, full, sign)

-- all characters of a string were read
pub takes_step : (s t : ShownText) (text left : List ℕ) (c : ℕ) (more : List ℕ) → IsUtf8 text → text ≡ encode_utf8 c ++ left
    → TakesCharacters s t (c ∷ []) → shown_with s (chars text ++ more) ≡ shown_with t (chars left ++ more)
takes_step s t text left c more utf8 parts taken =
    ap (λ cs. shown_with s (cs ++ more)) (chars_past_char text left c utf8 parts) ∙ taken (chars left ++ more)

-- a string that was read completely
pub shown_whole : (first last : ShownText) (cs bytes : List ℕ) → ((xs : List ℕ) → shown_with first xs ≡ shown xs)
    → TakesCharacters first last cs → bytes ≡ shown_with last [] → bytes ≡ shown cs
shown_whole first last cs bytes begins takes ends =
    ends ∙ sym (takes []) ∙ begins (cs ++ []) ∙ ap shown (append-nil cs)
