use Rattle.std.proofs.Common.{◌≡◌, map, drop}
use Rattle.std.specs.Prelude.{is_none}
use Rattle.std.specs.List.{position_from}
use Rattle.sarif_collect.specs.Held.{Held, first_open}
use Rattle.sarif_collect.specs.Slot.{held_of}
use Rattle.sarif_collect.proofs.collector.open_slot.Given as goal

abbrev pub invariant-loop-i : goal.invariant-loop-i
invariant-loop-i g l = first_open (map held_of l.slots)
    ≡ position_from (λ (h : Held g.row.T.Denot g.row.C.Denot). is_none h.tail) l.i (map held_of (drop l.i l.slots))
