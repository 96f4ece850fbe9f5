use Rattle.std.proofs.Common.{◌≡◌, ◌++◌, drop, filter, map, string_bytes}
use Rattle.sarif_arguments.specs.File.{is_argument}
use Rattle.sarif_arguments.proofs.file.copies_of.Given as goal

-- the arguments so far, with those of the lines that are left, are those of all lines
abbrev pub invariant-loop-line : goal.invariant-loop-line
invariant-loop-line l =
    map string_bytes l.words.items ++ filter is_argument (map (λ line. line.now) (drop l.line-index l.lines))
    ≡ filter is_argument (map (λ line. line.now) l.lines)
