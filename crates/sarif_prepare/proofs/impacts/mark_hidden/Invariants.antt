use Rattle.std.proofs.Common.{◌≡◌, map, take}
use Rattle.sarif_prepare.specs.Internal.Impacts.{is_hidden}
use Rattle.sarif_prepare.proofs.impacts.mark_hidden.Given as goal

abbrev pub invariant-loop-impact : goal.invariant-loop-impact
invariant-loop-impact l = l.hidden.items ≡ map is_hidden (take l.impact-index l.shown)
