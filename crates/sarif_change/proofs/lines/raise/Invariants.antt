use Rattle.std.proofs.Common.{◌≡◌, ◌++◌, drop}
use Rattle.sarif_change.specs.Internal.Raised.{raised}
use Rattle.sarif_change.proofs.lines.raise.Given as goal

abbrev pub invariant-loop-span : goal.invariant-loop-span
invariant-loop-span l = l.made.items ++ raised l.most (drop l.span-index l.spans) ≡ raised 0 l.spans
