use Rattle.std.proofs.Common.{take}
use Rattle.sarif_match.specs.Internal.Numbers.{AreShort, Grows}
use Rattle.sarif_match.proofs.shortening.short_records.Given as goal

abbrev pub invariant-loop-finding : goal.invariant-loop-finding
invariant-loop-finding g l = record {
  short : AreShort l.numbers (take l.finding-index l.findings) l.short.items;
  grows : Grows l.fn.numbers l.numbers;
}
