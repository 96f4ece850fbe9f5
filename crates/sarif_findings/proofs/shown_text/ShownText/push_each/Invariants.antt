use Rattle.std.proofs.Common.{◌≡◌, ℕ, List, ◌++◌, IsUtf8, chars}
use Rattle.std.specs.Str.Iter.{chars_rest}
use Rattle.sarif_findings.specs.Internal.ShownSoFar.{shown_with}
use Rattle.sarif_findings.proofs.shown_text.ShownText.push_each.Given as goal

abbrev pub invariant-loop-c : goal.invariant-loop-c
invariant-loop-c l =
    IsUtf8 (chars_rest l.c-iterator)
    × ((rest : List ℕ) → shown_with l.fn.self (chars l.fn.text ++ rest)
    ≡ shown_with l.self (chars (chars_rest l.c-iterator) ++ rest))
