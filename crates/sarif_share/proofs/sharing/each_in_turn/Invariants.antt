use Rattle.std.proofs.Common.{take}
use Rattle.sarif_share.specs.Sharing.{GivesEachAt}
use Rattle.sarif_share.proofs.sharing.each_in_turn.Given as goal

abbrev pub invariant-loop-item : goal.invariant-loop-item
invariant-loop-item g l = GivesEachAt g.F.Fn l.one (take l.item-index l.items) l.made.items
