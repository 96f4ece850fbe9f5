use Rattle.std.proofs.Common.{◌≡◌, ◌++◌, map, drop, Some}
use Rattle.sarif_copies.specs.Copies.{spread}
use Rattle.sarif_model.specs.declared.kinds.State.TheVariants.{New}
use Rattle.sarif_once.proofs.spreading.spread_states.Given as goal

abbrev pub invariant-loop-number : goal.invariant-loop-number
invariant-loop-number l =
    l.all.items ++ map Some (spread New (drop l.number-index l.numbers) l.states) ≡ map Some (spread New l.numbers l.states)
