use Rattle.std.proofs.Common.{◌≡◌, ◌++◌, drop}
use Rattle.sarif_prepare.specs.Chosen.{with_hits}
use Rattle.sarif_prepare.proofs.ruled.list_standings.Given as goal

abbrev pub invariant-loop-number : goal.invariant-loop-number
invariant-loop-number l =
    l.all.items ++ with_hits (drop l.number l.standings) (drop l.number l.hits) ≡ with_hits l.standings l.hits
