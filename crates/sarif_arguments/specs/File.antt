-- The arguments that the bytes of a file give: one on each line.
use Rattle.std.specs.Prelude.{ℕ, ◌==◌, Bool, false, not, nat_lt, List, [], ◌∷◌, length, filter, Result, Ok, Err, if◌then◌else◌}
use Rattle.std.specs.List.{list_any}
use Rattle.std.specs.Str.{is_utf8}
use Rattle.std.specs.Str.Lines.{lines}
use Rattle.json_parts.specs.Mark.{without_mark}
use Rattle.sarif_arguments.specs.declared.file_fault.ArgumentFileFault.{ArgumentFileFault}
use Rattle.sarif_arguments.specs.declared.file_fault.ArgumentFileFault.TheVariants.{TooLong, NotUtf8, HasNul, TooManyLines, Nested}
use Rattle.sarif_arguments.specs.Limits.{most_file_bytes, most_file_lines}

-- bytes as text: UTF-8 without the character NUL
abbrev pub text_in : List ℕ → Result (List ℕ) ArgumentFileFault
text_in bytes =
    if not (is_utf8 bytes) then Err NotUtf8 else (
    if list_any (λ byte. byte == 0) bytes then Err HasNul else
    Ok bytes)

-- the text of a file that is not too long, after one order mark
abbrev pub text_of : List ℕ → Result (List ℕ) ArgumentFileFault
text_of bytes =
    if nat_lt most_file_bytes (length bytes) then Err TooLong else text_in (without_mark bytes)

-- a line that begins with `@`: files of arguments don't nest
abbrev pub is_nested : List ℕ → Bool
is_nested [] = false
is_nested (byte ∷ bytes) = byte == 64

-- a line that is neither empty nor a comment, which begins with `#`
abbrev pub is_argument : List ℕ → Bool
is_argument [] = false
is_argument (byte ∷ bytes) = not (byte == 35)

-- the arguments on lines: each is one, whole
abbrev pub arguments_on : List (List ℕ) → Result (List (List ℕ)) ArgumentFileFault
arguments_on all =
    if nat_lt most_file_lines (length all) then Err TooManyLines else (
    if list_any is_nested all then Err Nested else
    Ok (filter is_argument all))

-- the arguments of a file's string; `lines` ends a line at a line feed, which the last may lack, and drops one carriage return
-- right before a line feed
abbrev pub arguments_of_text : Result (List ℕ) ArgumentFileFault
    → Result (List (List ℕ)) ArgumentFileFault
arguments_of_text (Ok text) = arguments_on (lines text)
arguments_of_text (Err fault) = Err fault

-- the arguments that a file with these bytes gives, or why it gives none
abbrev pub arguments_in : List ℕ → Result (List (List ℕ)) ArgumentFileFault
arguments_in bytes = arguments_of_text (text_of bytes)
