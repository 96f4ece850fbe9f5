use Rattle.std.proofs.Common.{◌≡◌, map, take}
use Rattle.sarif_prepare.specs.Chosen.{is_no_hit}
use Rattle.sarif_prepare.proofs.ruled.list_others.Given as goal

abbrev pub invariant-loop-impact : goal.invariant-loop-impact
invariant-loop-impact l = l.others.items ≡ map is_no_hit (take l.impact-index l.impacts)
