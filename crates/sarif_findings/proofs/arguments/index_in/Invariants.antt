use Rattle.std.proofs.Common.{◌≡◌, ◌<◌, ◌≤◌, ◌+◌, IsUtf8, chars}
use Rattle.std.specs.Str.Iter.{chars_rest}
use Rattle.sarif_findings.specs.Placeholders.{index_from}
use Rattle.sarif_findings.proofs.arguments.index_in.Given as goal

abbrev pub invariant-loop-c : goal.invariant-loop-c
invariant-loop-c l = record {
  utf8 : IsUtf8 (chars_rest l.c-iterator);
  small : l.number < 1000000000;
  few : l.count ≤ l.number + 1;
  told : index_from l.number l.count (chars (chars_rest l.c-iterator)) ≡ index_from 0 0 (chars l.fn.rest);
}
