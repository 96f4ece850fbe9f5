-- A partly shown string, character by character.
use Rattle.std.specs.Prelude.{◌≡◌, ℕ, Bool, not, ◌&&◌, ◌==◌, List, [], ◌∷◌, ◌++◌, map, if◌then◌else◌, encode_utf8_all, string_bytes}
use Rattle.serde_json.specs.Data.{Data}
use Rattle.sarif_findings.specs.declared.shown_text.ShownText.{ShownText}
use Rattle.sarif_findings.specs.Placeholders.{filled_from}
use Rattle.sarif_findings.specs.Shown.{is_between, kept, parted, parted_signs, plain}

-- whether a byte is a character that is seen, or a space
abbrev pub is_printable : ℕ → Bool
is_printable b = is_between 32 126 b

-- whether a byte is a character that is shown unchanged, regardless of its neighbours
abbrev pub is_verbatim : ℕ → Bool
is_verbatim b = is_between 32 126 b && not (b == 35)

-- the bytes that it will have where these characters follow
abbrev pub shown_with : ShownText → List ℕ → List ℕ
shown_with so_far cs =
    string_bytes so_far.text
    ++ (if so_far.full then []
    else encode_utf8_all (kept so_far.room (parted_signs so_far.after_sign (map plain cs))))

-- these characters were read, and others may follow
abbrev pub TakesCharacters : ShownText → ShownText → List ℕ → Type 0
TakesCharacters old new cs = (rest : List ℕ) → shown_with old (cs ++ rest) ≡ shown_with new rest

-- what is kept of characters after the first two steps
abbrev pub kept_with : ShownText → List ℕ → List ℕ
kept_with so_far cs =
    string_bytes so_far.text ++ (if so_far.full then [] else encode_utf8_all (kept so_far.room cs))

-- one such character was kept, or ended the text
abbrev pub Keeps : ShownText → ShownText → ℕ → List ℕ → Type 0
Keeps old new c cs = kept_with old (c ∷ cs) ≡ kept_with new cs

-- these characters were kept as they are, and others may follow
abbrev pub KeepsAll : ShownText → ShownText → List ℕ → Type 0
KeepsAll old new cs = (rest : List ℕ) → kept_with old (cs ++ rest) ≡ kept_with new rest

-- a space was kept where one belongs before the character
abbrev pub SeparatesCharacter : ShownText → ShownText → ℕ → List ℕ → Type 0
SeparatesCharacter old new c cs = kept_with old (parted old.after_sign c ++ cs) ≡ kept_with new (c ∷ cs)

-- these characters were read, together with that many further characters of the string
abbrev pub Writes : ShownText → ShownText → ℕ → List ℕ × ℕ → Type 0
Writes old new more piece = (more ≡ piece.1) × TakesCharacters old new piece.0

-- a character of a message with placeholders was read; before that, the first `skip` characters of the message were
-- read already; after it, the first `next` characters of the rest are read
abbrev pub Fills : ShownText → ShownText → List Data → ℕ → ℕ → List ℕ → ℕ → Type 0
Fills old new args skip c cs next =
    (more : List ℕ) → shown_with old (filled_from args skip (c ∷ cs) ++ more)
    ≡ shown_with new (filled_from args next cs ++ more)
