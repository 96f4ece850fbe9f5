use Rattle.std.proofs.Common.{◌≡◌, ℕ, List, ◌++◌, IsUtf8}
use Rattle.std.specs.Str.Iter.{chars_rest}
use Rattle.sarif_findings.specs.Code.{spread_line}
use Rattle.sarif_findings.specs.Internal.ShownSoFar.{kept_with}
use Rattle.sarif_findings.proofs.code_lines.push_each.Given as goal

abbrev pub invariant-loop-c : goal.invariant-loop-c
invariant-loop-c l =
    IsUtf8 (chars_rest l.c-iterator)
    × ((rest : List ℕ) → kept_with l.fn.text (spread_line l.fn.line ++ rest)
    ≡ kept_with l.text (spread_line (chars_rest l.c-iterator) ++ rest))
