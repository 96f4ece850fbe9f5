-- The lines of an explanation.
use Rattle.std.specs.Prelude.{ℕ, zero, suc, List, [], ◌∷◌, ◌++◌, Option, Some, codes, chars, encode_utf8}
use Rattle.sarif_findings.specs.Shown.{shown}
use Rattle.sarif_model.specs.declared.merge_fault.Cause.{Cause}
use Rattle.sarif_model.specs.declared.merge_fault.Cause.TheVariants.{ReadFailed, WriteFailed}

-- a line: two spaces, the name, a colon, a space, the shown string, a newline
abbrev pub line_of : List ℕ → List ℕ → List ℕ
line_of name text = codes "  " ++ (name ++ (codes ": " ++ (shown (chars text) ++ codes "\n")))

-- the most characters of a shown value
abbrev pub most_of_a_value : ℕ
most_of_a_value = 80

-- at most that many characters, then `...` if there are more
unfoldable pub shortened : ℕ → List ℕ → List ℕ
shortened room [] = []
shortened zero (c ∷ cs) = codes "..."
shortened (suc room) (c ∷ cs) = encode_utf8 c ++ shortened room cs

-- the name of a file, if it has one
abbrev pub file_line : List ℕ → List ℕ
file_line [] = []
file_line (c ∷ name) = line_of (codes "file") (c ∷ name)

-- the system's message for a failed read or write, if there is one
abbrev pub system_line : Cause → Option (List ℕ) → List ℕ
system_line ReadFailed (Some message) = line_of (codes "system") message
system_line WriteFailed (Some message) = line_of (codes "system") message
system_line _ _ = []
