use Rattle.std.proofs.Common.{◌≡◌, map, take}
use Rattle.sarif_prepare.specs.Told.{shown_by}
use Rattle.sarif_prepare.proofs.impacts.list_shown.Given as goal

abbrev pub invariant-loop-impact : goal.invariant-loop-impact
invariant-loop-impact l = l.shown.items ≡ map (shown_by l.show) (take l.impact-index l.impacts)
