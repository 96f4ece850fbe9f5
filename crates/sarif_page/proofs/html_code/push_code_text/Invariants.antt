use Rattle.std.proofs.Common.{◌≡◌, ◌++◌, IsUtf8, chars, flat_map, string_bytes}
use Rattle.std.specs.Str.Iter.{chars_rest}
use Rattle.sarif_page.specs.HtmlCode.{code_char}
use Rattle.sarif_page.proofs.html_code.push_code_text.Given as goal

abbrev pub invariant-loop-c : goal.invariant-loop-c
invariant-loop-c l =
    IsUtf8 (chars_rest l.c-iterator)
    × (string_bytes l.text ++ flat_map code_char (chars (chars_rest l.c-iterator)) ≡ string_bytes l.fn.text ++ flat_map code_char (chars l.fn.plain))
