use Rattle.std.proofs.Common.{◌≡◌, ◌++◌, IsUtf8, chars, string_bytes}
use Rattle.std.specs.Str.Iter.{chars_rest}
use Rattle.sarif_explain.specs.Internal.Lines.{shortened}
use Rattle.sarif_explain.proofs.lines.shorten.Given as goal
use Rattle.sarif_explain.specs.Internal.Lines.{most_of_a_value}

abbrev pub invariant-loop-c : goal.invariant-loop-c
invariant-loop-c l =
    IsUtf8 (chars_rest l.c-iterator)
    × (string_bytes l.kept ++ shortened l.room (chars (chars_rest l.c-iterator)) ≡ shortened most_of_a_value (chars l.fn.text))
