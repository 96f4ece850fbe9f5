-- The content of a collector, as the held run that it represents.
use Rattle.std.specs.Prelude.{Some, None}
use Rattle.std.specs.declared.vec.Vec.{Vec}
use Rattle.std.specs.declared.alloc.Global.{Global}
use Rattle.std.specs.List.{enumerate_from}
use Rattle.sarif_collect.specs.declared.slot.Slot.{Slot}
use Rattle.sarif_collect.specs.declared.slot.Slot.TheVariants.{Open, Closed}
use Rattle.sarif_collect.specs.Held.{Held, Whole}

module _ {T C : Type 0} where
  abbrev pub held_of : Slot T C → Held T C
  held_of (Open bodies) = record { bodies = bodies; tail = None }
  held_of (Closed items tail) = record { bodies = enumerate_from 0 items.items; tail = Some tail }

  abbrev pub whole_of : Vec T Global × C → Whole T C
  whole_of r = record { items = r.0.items; tail = r.1 }
