-- A string of a log as a report shows it, so that no part of it can be read as anything but a string. A string is
-- a list of characters here.
use Rattle.std.specs.Prelude.{ℕ, zero, suc, Bool, false, ◌&&◌, ◌||◌, ◌==◌, List, [], ◌∷◌, ◌++◌, map, nat_le, if◌then◌else◌, encode_utf8_all}

abbrev pub is_between : ℕ → ℕ → ℕ → Bool
is_between first last c = nat_le first c && nat_le c last

-- control characters, line and paragraph separators, and the two codes that XML does not allow
-- (XML 1.0, "Characters")
abbrev pub is_control : ℕ → Bool
is_control c =
    is_between 0 0x1F c || is_between 0x7F 0x9F c || is_between 0x2028 0x2029 c
    || is_between 0xFFFE 0xFFFF c

-- characters that change the reading order, or that join or control their neighbours without being visible
abbrev pub is_unseen_mark : ℕ → Bool
is_unseen_mark c =
    c == 0xAD || c == 0x34F || c == 0x61C
    || is_between 0x180B 0x180F c || is_between 0x200B 0x200F c
    || is_between 0x202A 0x202E c || is_between 0x2060 0x206F c
    || is_between 0xFE00 0xFE0F c || c == 0xFEFF
    || is_between 0xFFF9 0xFFFB c || is_between 0x1D173 0x1D17A c || is_between 0xE0000 0xE0FFF c

-- letters that are drawn as nothing
abbrev pub is_blank_letter : ℕ → Bool
is_blank_letter c =
    is_between 0x115F 0x1160 c || is_between 0x17B4 0x17B5 c || c == 0x3164 || c == 0xFFA0

abbrev pub is_concealed : ℕ → Bool
is_concealed c = is_control c || (is_unseen_mark c || is_blank_letter c)

-- such a character becomes a space
abbrev pub plain : ℕ → ℕ
plain c = if is_concealed c then 32 else c

-- a character, and a space before it where it is the second of two `#`
abbrev pub parted : Bool → ℕ → List ℕ
parted after_sign c = if after_sign && c == 35 then 32 ∷ c ∷ [] else c ∷ []

-- no two adjacent `#`: a space is inserted between them
abbrev pub parted_signs : Bool → List ℕ → List ℕ
parted_signs after_sign [] = []
parted_signs after_sign (c ∷ cs) = parted after_sign c ++ parted_signs (c == 35) cs

-- at most that many characters, then `…` if there are more
unfoldable pub kept : ℕ → List ℕ → List ℕ
kept room [] = []
kept zero (c ∷ cs) = 0x2026 ∷ []
kept (suc room) (c ∷ cs) = c ∷ kept room cs

-- the most characters of a shown string
abbrev pub most_characters : ℕ
most_characters = 1000

-- the three in turn
abbrev pub shown_chars : List ℕ → List ℕ
shown_chars cs = kept most_characters (parted_signs false (map plain cs))

-- the bytes of these characters as they are shown
abbrev pub shown : List ℕ → List ℕ
shown cs = encode_utf8_all (shown_chars cs)
