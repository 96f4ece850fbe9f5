use Rattle.std.proofs.Common.{◌≡◌, IsUtf8, chars, false}
use Rattle.std.specs.Str.Iter.{chars_rest}
use Rattle.sarif_findings.specs.Links.{ends_number}
use Rattle.sarif_findings.proofs.links.ends_number.Given as goal

abbrev pub invariant-loop-c : goal.invariant-loop-c
invariant-loop-c l = record {
  utf8 : IsUtf8 (chars_rest l.c-iterator);
  told : ends_number l.some (chars (chars_rest l.c-iterator)) ≡ ends_number false (chars l.fn.text);
}
