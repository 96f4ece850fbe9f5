-- The code of a result: up to five lines of a snippet of its first location. A snippet is a list of bytes, and `lines`
-- ends a line at a line feed, which the last may lack, with one carriage return right before it. From `spread_line` on a
-- line is a list of characters.
use Rattle.std.specs.Prelude.{ℕ, ◌+◌, ◌-◌, ◌==◌, Bool, not, nat_le, nat_lt, min, List, [], ◌∷◌, length, map, filter, flat_map, fold, take, drop, replicate, Option, Some, None, chars, option_map, option_and_then, encode_utf8_all, if◌then◌else◌}
use Rattle.std.specs.List.{list_all, prefix_len, suffix_len}
use Rattle.std.specs.Option.{option_or}
use Rattle.std.specs.Str.Lines as of_text
use Rattle.sarif_model.specs.Members.{none_if_empty}
use Rattle.sarif_findings.specs.declared.code.Code.{Code}
use Rattle.sarif_findings.specs.Shown.{kept, plain}

-- ---- the lines that the code is taken from

-- the index of a line among those from the first on
abbrev pub index_among : ℕ → ℕ → Option ℕ
index_among first n = if nat_le first n then Some (n - first) else None

-- all lines of a context; that line is the hit line, if the context has it
abbrev pub with_hit : List ℕ → ℕ → ℕ → Option Code
with_hit context first hit =
    if nat_lt hit (length (of_text.lines context)) then Some (record {
      lines = of_text.lines context;
      first_number = Some first;
      hit_line = Some hit;
    }) else None

-- the lines of a context that begins with the line `first`, if line n is one of them
abbrev pub lines_around : Option (List ℕ) → Option ℕ → Option ℕ → Option Code
lines_around None first n = None
lines_around (Some context) None n = None
lines_around (Some context) (Some first) None = None
lines_around (Some context) (Some first) (Some n) =
    option_and_then (with_hit context first) (index_among first n)

-- the lines of the region's own snippet: the first is line n, if that is known, and the hit line
abbrev pub own_lines : Option ℕ → List ℕ → Code
own_lines n region = record {
  lines = of_text.lines region;
  first_number = n;
  hit_line = option_map (λ _. 0) n;
}

-- the lines of a context without a hit line
abbrev pub lines_without_hit : Option ℕ → List ℕ → Code
lines_without_hit first context = record {
  lines = of_text.lines context;
  first_number = first;
  hit_line = None;
}

-- the lines of a context that has line n, otherwise those of the region, otherwise those of the context
abbrev pub chosen_lines : Option (List ℕ) → Option (List ℕ) → Option ℕ → Option ℕ → Option Code
chosen_lines region context first n =
    option_or (lines_around context first n)
    (option_or (option_map (own_lines n) region) (option_map (lines_without_hit first) context))

-- ---- some of them

-- the code from its line n on
abbrev pub from_line : ℕ → Code → Code
from_line n code = record {
  lines = drop n code.lines;
  first_number = option_map (λ first. first + n) code.first_number;
  hit_line = option_and_then (index_among n) code.hit_line;
}

abbrev pub if_before : ℕ → ℕ → Option ℕ
if_before n hit = if nat_lt hit n then Some hit else None

-- the code up to its line n, without it
abbrev pub before_line : ℕ → Code → Code
before_line n code = record {
  lines = take n code.lines;
  first_number = code.first_number;
  hit_line = option_and_then (if_before n) code.hit_line;
}

abbrev pub most_lines : ℕ
most_lines = 5

abbrev pub two_before : Option ℕ → ℕ
two_before None = 0
two_before (Some hit) = hit - 2

-- five lines, or as many as there are, from two before the hit line on
abbrev pub taken_lines : Code → Code
taken_lines code = before_line most_lines (from_line (two_before code.hit_line) code)

-- ---- their characters

-- a tab becomes four spaces, each other character that isn't shown one
abbrev pub spread : ℕ → List ℕ
spread c = if c == 9 then replicate 4 32 else plain c ∷ []

abbrev pub spread_line : List ℕ → List ℕ
spread_line line = flat_map spread (chars line)

abbrev pub spread_lines : Code → Code
spread_lines code = record {
  lines = map spread_line code.lines;
  first_number = code.first_number;
  hit_line = code.hit_line;
}

abbrev pub is_space : ℕ → Bool
is_space c = c == 32

abbrev pub is_blank : List ℕ → Bool
is_blank line = list_all is_space line

abbrev pub blank_lines_first : Code → ℕ
blank_lines_first code = prefix_len is_blank code.lines

abbrev pub before_blank_lines : Code → ℕ
before_blank_lines code = length code.lines - suffix_len is_blank code.lines

-- the code without the blank lines that it begins and ends with
abbrev pub trimmed_lines : Code → Code
trimmed_lines code = from_line (blank_lines_first code) (before_line (before_blank_lines code) code)

-- ---- their indentation and their length

abbrev pub indent_of : List ℕ → ℕ
indent_of line = prefix_len is_space line

abbrev pub is_written : List ℕ → Bool
is_written line = not (is_blank line)

abbrev pub least : List ℕ → ℕ
least [] = 0
least (n ∷ ns) = fold min n ns

-- how many spaces each line begins with that isn't blank
abbrev pub common_indent : List (List ℕ) → ℕ
common_indent written = least (map indent_of (filter is_written written))

abbrev pub without_indent : ℕ → List ℕ → List ℕ
without_indent n line = if is_blank line then [] else drop n line

abbrev pub most_of_line : ℕ
most_of_line = 120

-- a line without the given number of spaces: its first 120 characters, and `…` if there are more
abbrev pub cut_line : ℕ → List ℕ → List ℕ
cut_line n line = encode_utf8_all (kept most_of_line (without_indent n line))

abbrev pub cut_lines : Code → Code
cut_lines code = record {
  lines = map (cut_line (common_indent code.lines)) code.lines;
  first_number = code.first_number;
  hit_line = code.hit_line;
}

abbrev pub unless_empty : Code → Option Code
unless_empty code = if length code.lines == 0 then None else Some code

-- ---- the whole

-- the code of a result on line n with a snippet of its region and one of its context region, which begins with the line
-- `first`; an empty snippet is treated as missing
unfoldable pub code_by : Option (List ℕ) → Option (List ℕ) → Option ℕ → Option ℕ → Option Code
code_by region context first n =
    option_and_then (λ code. unless_empty (cut_lines (trimmed_lines (spread_lines (taken_lines code)))))
    (chosen_lines (option_and_then none_if_empty region) (option_and_then none_if_empty context) first n)
