-- The links of a message to places of its log (SARIF 2.1.0, "Messages with embedded links"): `[TEXT](N)` is read as
-- its text. Strings are lists of characters here.
use Rattle.std.specs.Prelude.{ℕ, ◌+◌, Bool, true, false, not, ◌&&◌, ◌||◌, ◌==◌, List, [], ◌∷◌, length, slice_get, Option, Some, None, if◌then◌else◌}
use Rattle.std.specs.Char.{is_ascii_digit}
use Rattle.std.specs.List.{list_all}
use Rattle.std.specs.Option.{option_map_or}
use Rattle.serde_json.specs.Data.{Data}
use Rattle.sarif_findings.specs.declared.links.Part.{Part}
use Rattle.sarif_findings.specs.declared.links.Part.TheVariants.{Outside, OutsidePair, LinkText, TextPair, Target}
use Rattle.sarif_findings.specs.Placeholders.{argument_at, index_from}

-- ---- pairs

-- `[`, `]` and the backslash
abbrev pub is_escapable : ℕ → Bool
is_escapable c = c == 91 || (c == 93 || c == 92)

-- a backslash and such a character after it are a pair; its bracket neither begins nor ends anything
abbrev pub begins_pair : ℕ → List ℕ → Bool
begins_pair c [] = false
begins_pair c (d ∷ ds) = c == 92 && is_escapable d

-- ---- what follows the text of a link

-- one or more digits, and `)`; some digits were read already
abbrev pub ends_number : Bool → List ℕ → Bool
ends_number some [] = false
ends_number some (c ∷ cs) = if c == 41 then some else (is_ascii_digit c && ends_number true cs)

abbrev pub is_number : List ℕ → Bool
is_number text = not (length text == 0) && list_all is_ascii_digit text

abbrev pub is_number_argument : List Data → ℕ → Bool
is_number_argument args n = option_map_or is_number (argument_at args n) false

-- whether the character with that index is a `)`
abbrev pub closes_at : List ℕ → ℕ → Bool
closes_at cs n = option_map_or (λ c. c == 41) (slice_get cs n) false

-- the number of an argument that is a number, and then `})`
abbrev pub names_number : List Data → Option (ℕ × ℕ) → List ℕ → Bool
names_number args None cs = false
names_number args (Some index) cs =
    is_number_argument args index.0 && closes_at cs (index.1 + 1)

-- a placeholder of such an argument, and `)`
abbrev pub ends_placeholder : List Data → List ℕ → Bool
ends_placeholder args [] = false
ends_placeholder args (c ∷ cs) = c == 123 && names_number args (index_from 0 0 cs) cs

-- `N)`
abbrev pub ends_target : List Data → List ℕ → Bool
ends_target args cs = ends_number false cs || ends_placeholder args cs

-- `(N)`
abbrev pub begins_target : List Data → List ℕ → Bool
begins_target args [] = false
begins_target args (c ∷ cs) = c == 40 && ends_target args cs

-- ---- links

-- after a `[`: whether the first bracket that is not in a pair is a `]` with `(N)` after it; the first character may
-- be the second of a pair
abbrev pub ends_link : List Data → Bool → List ℕ → Bool
ends_link args paired [] = false
ends_link args true (c ∷ cs) = ends_link args false cs
ends_link args false (c ∷ cs) =
    if begins_pair c cs then ends_link args true cs else (
    if c == 91 then false else (
    if c == 93 then begins_target args cs else ends_link args false cs))

abbrev pub begins_link : List Data → ℕ → List ℕ → Bool
begins_link args c cs = c == 91 && ends_link args false cs

-- the part that follows a character in the text of a link
abbrev pub part_in_text : ℕ → List ℕ → Part
part_in_text c cs =
    if begins_pair c cs then TextPair else (if c == 93 then Target else LinkText)

-- the part of a message that follows a character: outside of links, in the text of a link, in its target, or the
-- second character of a pair
abbrev pub part_after : List Data → Part → ℕ → List ℕ → Part
part_after args Outside c cs =
    if begins_pair c cs then OutsidePair else (
    if begins_link args c cs then LinkText else Outside)
part_after args OutsidePair c cs = Outside
part_after args LinkText c cs = part_in_text c cs
part_after args TextPair c cs = LinkText
part_after args Target c cs = if c == 41 then Outside else Target

-- whether a character stays that is between these parts: of a link its text stays, without the backslashes of pairs
abbrev pub stays_between : Part → Part → Bool
stays_between Outside LinkText = false
stays_between Outside part = true
stays_between OutsidePair part = true
stays_between LinkText LinkText = true
stays_between LinkText part = false
stays_between TextPair part = true
stays_between Target part = false

abbrev pub unlinked_from : List Data → Part → List ℕ → List ℕ
unlinked_from args part [] = []
unlinked_from args part (c ∷ cs) =
    if stays_between part (part_after args part c cs)
    then c ∷ unlinked_from args (part_after args part c cs) cs
    else unlinked_from args (part_after args part c cs) cs

-- a message without its links
abbrev pub unlinked : List Data → List ℕ → List ℕ
unlinked args cs = unlinked_from args Outside cs

-- any other byte than `[`
abbrev pub is_unbracketed : ℕ → Bool
is_unbracketed b = not (b == 91)
