-- Lines of a snippet while the code of a result is made from them.
use Rattle.std.specs.Prelude.{ℕ, ◌-◌, min, List, [], ◌++◌, fold, map, replicate, Option, Some, None, encode_utf8_all, if◌then◌else◌}
use Rattle.sarif_findings.specs.declared.code.Code.{Code}
use Rattle.sarif_findings.specs.declared.code_excerpt.Excerpt.{Excerpt}
use Rattle.sarif_findings.specs.declared.code_indented.Indented.{Indented}
use Rattle.sarif_findings.specs.Code.{least, most_of_line, spread_line}
use Rattle.sarif_findings.specs.Shown.{kept}

-- the lines of an excerpt
abbrev pub excerpt_of : Excerpt → Code
excerpt_of excerpt = record {
  lines = map (λ line. line.now) excerpt.lines.items;
  first_number = excerpt.first_number;
  hit_line = excerpt.hit_line;
}

-- the characters of a line whose indentation was read
abbrev pub line_of : Indented → List ℕ
line_of line = replicate line.indent 32 ++ spread_line line.rest.now

-- the bytes of such a line without the given number of its first spaces
abbrev pub without_spaces_of : ℕ → Indented → List ℕ
without_spaces_of n line =
    if line.blank then [] else replicate (line.indent - n) 32 ++ spread_line line.rest.now

abbrev pub cut_of : ℕ → Indented → List ℕ
cut_of n line = encode_utf8_all (kept most_of_line (without_spaces_of n line))

-- the lesser of two numbers, or the one that is there
abbrev pub lesser : Option ℕ → ℕ → ℕ
lesser None n = n
lesser (Some least) n = min least n

-- the least of numbers, where there may be one more
abbrev pub least_with : Option ℕ → List ℕ → ℕ
least_with None ns = least ns
least_with (Some first) ns = fold min first ns
