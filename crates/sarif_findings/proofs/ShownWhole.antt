-- A string that is shown unchanged.
use Rattle.std.proofs.Common.{◌≡◌, ◌<◌, ◌≤◌, ◌==◌, ◌+◌, ◌-◌, ℕ, suc, Bool, true, false, not, List, [], ◌∷◌, ◌++◌, length, map, chars, refl, sym, ap, ◌∙◌, append_assoc, string_bytes, ne_eqb, arith}
use Rattle.std.specs.Prelude.{encode_utf8_all}
use Rattle.std.specs.List.{list_all}
use Rattle.std.proofs.lemmas.Bool.{and_parts}
use Rattle.std.proofs.lemmas.Bool.Decides.{nat_tests}
use Rattle.std.proofs.lemmas.List.{map-append}
use Rattle.std.proofs.lemmas.Str.{encode_ascii, encodes-append}
use Rattle.sarif_findings.specs.declared.shown_text.ShownText.{ShownText}
use Rattle.sarif_findings.specs.Shown.{is_between, is_control, is_unseen_mark, is_blank_letter, is_concealed, kept, parted, parted_signs, plain}
use Rattle.sarif_findings.specs.Internal.ShownSoFar.{is_printable, is_verbatim, KeepsAll, TakesCharacters}
use Rattle.sarif_findings.proofs.CharsBack.{chars_back}
use Rattle.sarif_findings.proofs.ShownMore.{kept-cons}

-- ---- one byte

pub low : (b : ℕ) → is_printable b ≡ true → b < 128
low b h = grind (arith, nat_tests, h)

printable : (b : ℕ) → is_verbatim b ≡ true → is_printable b ≡ true
printable b h = (and_parts (is_printable b) (not (b == 35)) h).0

no_sign : (b : ℕ) → is_verbatim b ≡ true → (b == 35) ≡ false
no_sign b h = grind (arith, nat_tests, h)

beyond : (b first last : ℕ) → b < first → is_between first last b ≡ false
beyond b first last less = grind (arith, nat_tests, less)

not_control : (b : ℕ) → is_printable b ≡ true → is_control b ≡ false
not_control b h = grind (arith, nat_tests, h)

not_unseen : (b : ℕ) → b < 128 → is_unseen_mark b ≡ false
not_unseen b small =
    rw (
      ne_eqb b 0xAD (λ e. omega (arith, e, small)),
      ne_eqb b 0x34F (λ e. omega (arith, e, small)),
      ne_eqb b 0x61C (λ e. omega (arith, e, small)),
      beyond b 0x180B 0x180F (omega (arith, small)),
      beyond b 0x200B 0x200F (omega (arith, small)),
      beyond b 0x202A 0x202E (omega (arith, small)),
      beyond b 0x2060 0x206F (omega (arith, small)),
      beyond b 0xFE00 0xFE0F (omega (arith, small)),
      ne_eqb b 0xFEFF (λ e. omega (arith, e, small)),
      beyond b 0xFFF9 0xFFFB (omega (arith, small)),
      beyond b 0x1D173 0x1D17A (omega (arith, small)),
      beyond b 0xE0000 0xE0FFF (omega (arith, small)),
    ) refl

not_blank : (b : ℕ) → b < 128 → is_blank_letter b ≡ false
not_blank b small =
    rw (
      beyond b 0x115F 0x1160 (omega (arith, small)),
      beyond b 0x17B4 0x17B5 (omega (arith, small)),
      ne_eqb b 0x3164 (λ e. omega (arith, e, small)),
      ne_eqb b 0xFFA0 (λ e. omega (arith, e, small)),
    ) refl

not_concealed : (b : ℕ) → is_printable b ≡ true → is_concealed b ≡ false
not_concealed b h = rw (not_control b h, not_unseen b (low b h), not_blank b (low b h)) refl

pub plain_byte : (b : ℕ) → is_printable b ≡ true → plain b ≡ b
plain_byte b h = rw (not_concealed b h) refl

pub plain_within : (c : ℕ) → 32 ≤ c → c ≤ 126 → c ≡ plain c
plain_within c first last = sym (plain_byte c (grind (arith, nat_tests, first, last)))

parted_byte : (after_sign : Bool) (b : ℕ) → is_verbatim b ≡ true → parted after_sign b ≡ b ∷ []
parted_byte true b h = rw (no_sign b h) refl
parted_byte false b h = refl

-- ---- all bytes of a string

printables : (bs : List ℕ) → list_all is_verbatim bs ≡ true → list_all is_printable bs ≡ true
printables [] h = refl
printables (b ∷ bs) h =
    let parts = and_parts (is_verbatim b) (list_all is_verbatim bs) h in
    rw (printable b parts.0) (printables bs parts.1)

encodes_whole : (bs : List ℕ) → list_all is_printable bs ≡ true → encode_utf8_all bs ≡ bs
encodes_whole [] h = refl
encodes_whole (b ∷ bs) h =
    let parts = and_parts (is_printable b) (list_all is_printable bs) h in
    rw (encode_ascii b (low b parts.0)) (ap (λ t. b ∷ t) (encodes_whole bs parts.1))

chars_whole : (bs : List ℕ) → list_all is_verbatim bs ≡ true → chars bs ≡ bs
chars_whole bs h = ap chars (sym (encodes_whole bs (printables bs h))) ∙ chars_back bs

plain_whole : (bs : List ℕ) → list_all is_verbatim bs ≡ true → map plain bs ≡ bs
plain_whole [] h = refl
plain_whole (b ∷ bs) h =
    let parts = and_parts (is_verbatim b) (list_all is_verbatim bs) h in
    rw (plain_byte b (printable b parts.0)) (ap (λ t. b ∷ t) (plain_whole bs parts.1))

-- after a character that is not `#`
parted_behind : (bs rest : List ℕ) → list_all is_verbatim bs ≡ true → parted_signs false (bs ++ rest) ≡ bs ++ parted_signs false rest
parted_behind [] rest h = refl
parted_behind (b ∷ bs) rest h =
    let parts = and_parts (is_verbatim b) (list_all is_verbatim bs) h in
    rw (no_sign b parts.0) (ap (λ t. b ∷ t) (parted_behind bs rest parts.1))

parted_whole : (after_sign : Bool) (bs rest : List ℕ) → 0 < length bs → list_all is_verbatim bs ≡ true
    → parted_signs after_sign (bs ++ rest) ≡ bs ++ parted_signs false rest
parted_whole after_sign [] rest some h = absurd (omega (arith, some))
parted_whole after_sign (b ∷ bs) rest some h =
    let parts = and_parts (is_verbatim b) (list_all is_verbatim bs) h in
    rw (parted_byte after_sign b parts.0, no_sign b parts.0) (ap (λ t. b ∷ t) (parted_behind bs rest parts.1))

kept_whole : (bs rest : List ℕ) (room left : ℕ) → room ≡ length bs + left → kept room (bs ++ rest) ≡ bs ++ kept left rest
kept_whole [] rest room left e = let same : room ≡ left = omega (arith, e) in ap (λ n. kept n rest) same
kept_whole (b ∷ bs) rest room left e =
    let more : room ≡ suc (length bs + left) = omega (arith, e) in
    ap (λ n. kept n (b ∷ (bs ++ rest))) more ∙ kept-cons (length bs + left) b (bs ++ rest)
    ∙ ap (λ t. b ∷ t) (kept_whole bs rest (length bs + left) left refl)

-- ---- a printable string is kept

pub keeps_whole : (old new : ShownText) (bs : List ℕ) → list_all is_printable bs ≡ true → length bs ≤ old.room → old.full ≡ false
    → string_bytes new.text ≡ string_bytes old.text ++ bs → new.room ≡ old.room - length bs → new.full ≡ false
    → KeepsAll old new bs
keeps_whole old new bs h within going text room full = λ rest.
    let left : ℕ = old.room - length bs in
    let e : old.room ≡ length bs + left = omega (arith, within) in
    let after : List ℕ = encode_utf8_all (kept left rest) in
    rw (going, full, text, room)
    (ap (λ t. string_bytes old.text ++ t)
    (ap encode_utf8_all (kept_whole bs rest old.room left e) ∙ encodes-append bs (kept left rest) ∙ ap (λ t. t ++ after) (encodes_whole bs h))
    ∙ sym (append_assoc (string_bytes old.text) bs after))

-- ---- the string is read

steps_whole : (bs rest : List ℕ) (after_sign : Bool) (room left : ℕ) → 0 < length bs → list_all is_verbatim bs ≡ true → room ≡ length bs + left
    → encode_utf8_all (kept room (parted_signs after_sign (map plain (chars bs ++ rest))))
    ≡ bs ++ encode_utf8_all (kept left (parted_signs false (map plain rest)))
steps_whole bs rest after_sign room left some h e =
    ap (λ t. encode_utf8_all (kept room (parted_signs after_sign (map plain (t ++ rest))))) (chars_whole bs h)
    ∙ ap (λ t. encode_utf8_all (kept room (parted_signs after_sign t))) (map-append plain bs rest)
    ∙ ap (λ t. encode_utf8_all (kept room (parted_signs after_sign (t ++ map plain rest)))) (plain_whole bs h)
    ∙ ap (λ t. encode_utf8_all (kept room t)) (parted_whole after_sign bs (map plain rest) some h)
    ∙ ap encode_utf8_all (kept_whole bs (parted_signs false (map plain rest)) room left e)
    ∙ encodes-append bs (kept left (parted_signs false (map plain rest)))
    ∙ ap (λ t. t ++ encode_utf8_all (kept left (parted_signs false (map plain rest)))) (encodes_whole bs (printables bs h))

pub takes_whole : (old new : ShownText) (bs : List ℕ) → 0 < length bs → list_all is_verbatim bs ≡ true → length bs ≤ old.room → old.full ≡ false
    → string_bytes new.text ≡ string_bytes old.text ++ bs → new.room ≡ old.room - length bs → new.full ≡ false → new.after_sign ≡ false
    → TakesCharacters old new (chars bs)
takes_whole old new bs some h within going text room full sign = λ rest.
    let left : ℕ = old.room - length bs in
    let e : old.room ≡ length bs + left = omega (arith, within) in
    let after : List ℕ = encode_utf8_all (kept left (parted_signs false (map plain rest))) in
    rw (going, full, text, room, sign)
    (ap (λ t. string_bytes old.text ++ t) (steps_whole bs rest old.after_sign old.room left some h e)
    ∙ sym (append_assoc (string_bytes old.text) bs after))
