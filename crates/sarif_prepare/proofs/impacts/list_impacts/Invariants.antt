use Rattle.std.proofs.Common.{◌≡◌, ◌++◌, drop}
use Rattle.sarif_prepare.specs.Internal.Impacts.{all_shown}
use Rattle.sarif_prepare.proofs.impacts.list_impacts.Given as goal

abbrev pub invariant-loop-impact : goal.invariant-loop-impact
invariant-loop-impact l = l.list.items ++ all_shown (drop l.impact-index l.shown) ≡ all_shown l.shown
