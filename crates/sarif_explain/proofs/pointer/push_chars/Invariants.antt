use Rattle.std.proofs.Common.{◌≡◌, ◌++◌, IsUtf8, string_bytes}
use Rattle.std.specs.Str.Iter.{chars_rest}
use Rattle.sarif_explain.specs.Internal.Pointer.{escaped}
use Rattle.sarif_explain.proofs.pointer.push_chars.Given as goal

abbrev pub invariant-loop-c : goal.invariant-loop-c
invariant-loop-c l =
    IsUtf8 (chars_rest l.c-iterator)
    × (string_bytes l.pointer ++ escaped (chars_rest l.c-iterator) ≡ string_bytes l.fn.pointer ++ escaped l.fn.name)
