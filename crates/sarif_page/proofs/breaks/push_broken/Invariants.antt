use Rattle.std.proofs.Common.{◌≡◌, ◌++◌, IsUtf8, chars, false, string_bytes}
use Rattle.std.specs.Str.Iter.{chars_rest}
use Rattle.sarif_page.specs.HtmlBreaks.{broken_after}
use Rattle.sarif_page.proofs.breaks.push_broken.Given as goal

abbrev pub invariant-loop-c : goal.invariant-loop-c
invariant-loop-c l =
    IsUtf8 (chars_rest l.c-iterator)
    × (string_bytes l.text ++ broken_after l.small (chars (chars_rest l.c-iterator)) ≡ string_bytes l.fn.text ++ broken_after false (chars l.fn.plain))
