use Rattle.std.proofs.Common.{◌≡◌, map, take}
use Rattle.sarif_share.proofs.sharing.each_of.Given as goal

abbrev pub invariant-loop-item : goal.invariant-loop-item
invariant-loop-item g l = map (λ one. one.now) l.each.items ≡ take l.item-index l.items
