-- Strings that are escaped byte by byte: only ASCII characters are replaced.
use Rattle.std.specs.Prelude.{ℕ, Bool, ◌||◌, List, [], ◌∷◌, ◌==◌, if◌then◌else◌}
use Rattle.sarif_shown.specs.declared.escaping.Escaping.{Escaping}
use Rattle.sarif_shown.specs.declared.escaping.Escaping.TheVariants.{Message, Property, Markdown, Page, IssueMessage, IssueProperty}
use Rattle.sarif_shown.specs.Escaped.{escaped_char, is_mark}

-- whether a byte is a character that is written in another way
abbrev pub escapes : Escaping → ℕ → Bool
escapes Message b = b == 37
escapes Property b = b == 37 || (b == 58 || b == 44)
escapes Markdown b = is_mark b
escapes Page b = b == 38 || (b == 60 || (b == 62 || (b == 34 || b == 39)))
escapes IssueMessage b = b == 37
escapes IssueProperty b = b == 37 || (b == 59 || b == 93)

-- what is written for a byte
abbrev pub escaped_byte : Escaping → ℕ → List ℕ
escaped_byte way b = if escapes way b then escaped_char way b else b ∷ []
