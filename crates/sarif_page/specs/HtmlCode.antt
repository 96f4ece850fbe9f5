-- The code of a row, escaped. Its lines may have two `#` next to each other, so each `#` is written by its number.
use Rattle.std.specs.Prelude.{ℕ, Bool, true, false, List, [], ◌++◌, ◌==◌, Option, Some, None, chars, codes, flat_map, if◌then◌else◌}
use Rattle.std.specs.List.{enumerate_from}
use Rattle.sarif_findings.specs.declared.code.Code.{Code}
use Rattle.sarif_findings.specs.CodeRows.{has_mark, row_of}
use Rattle.sarif_shown.specs.Escaped.{page_char}

abbrev pub code_char : ℕ → List ℕ
code_char c = if c == 35 then codes "&#35;" else page_char c

-- a string, character by character
unfoldable pub code_text : List ℕ → List ℕ
code_text text = flat_map code_char (chars text)

abbrev pub marked_if : Bool → List ℕ → List ℕ
marked_if true text = codes "<mark>" ++ (code_text text ++ codes "</mark>")
marked_if false text = code_text text

-- between two lines
abbrev pub newline_before : ℕ → List ℕ
newline_before index = if index == 0 then [] else codes "\n"

-- a line of the code and its index, with its number as in the text of the code; the hit line is marked if it has one
unfoldable pub code_line : Code → ℕ × List ℕ → List ℕ
code_line code line =
    newline_before line.0 ++ marked_if (has_mark code line.0) (row_of code line.0 line.1)

abbrev pub code_lines : Code → List ℕ
code_lines code = flat_map (code_line code) (enumerate_from 0 code.lines)

unfoldable pub code_html : Code → List ℕ
code_html code = codes "<pre><code>" ++ (code_lines code ++ codes "</code></pre>")

-- nothing if a result has no code
abbrev pub code_cell : Option Code → List ℕ
code_cell None = []
code_cell (Some code) = code_html code
