use Rattle.std.proofs.Common.{◌≡◌, ◌++◌, [], drop}
use Rattle.sarif_copies.specs.Copies.{spread}
use Rattle.sarif_prepare.proofs.limiting.spread_admitted.Given as goal

abbrev pub invariant-loop-finding : goal.invariant-loop-finding
invariant-loop-finding l = l.all.items ++ spread [] (drop l.finding-index l.findings) l.lists ≡ spread [] l.findings l.lists
