use Rattle.std.proofs.Common.{◌≡◌, ◌++◌, string_bytes}
use Rattle.std.specs.Str.Iter.{chars_rest}
use Rattle.sarif_evidence.specs.Seen.{packed}
use Rattle.sarif_evidence.proofs.seeing.packed.Given as goal

abbrev pub invariant-loop-c : goal.invariant-loop-c
invariant-loop-c l = string_bytes l.kept ++ packed (chars_rest l.c-iterator) ≡ packed l.fn.text
