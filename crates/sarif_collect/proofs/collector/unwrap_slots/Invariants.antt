use Rattle.std.proofs.Common.{◌≡◌, ◌+◌, ◌≤◌, ◌++◌, map, length, vec_len, None}
use Rattle.std.specs.Vec.{vec_capacity}
use Rattle.std.specs.Vec.Iter.{into_iter_items}
use Rattle.std.specs.Prelude.{is_none}
use Rattle.std.specs.List.{position_from}
use Rattle.sarif_collect.specs.Held.{Held, closed_run}
use Rattle.sarif_collect.specs.Slot.{held_of, whole_of}
use Rattle.sarif_collect.proofs.collector.unwrap_slots.Given as goal

abbrev pub invariant-loop-slot : goal.invariant-loop-slot
invariant-loop-slot g l =
    (goal.iterator-loop-slot g).can_next l.slot-iterator × (goal.iterator-loop-slot g).is_finite l.slot-iterator
    × (map held_of l.fn.slots.items ≡ map closed_run (map whole_of l.done.items) ++ map held_of (into_iter_items l.slot-iterator))
    × (position_from (λ (h : Held g.row.T.Denot g.row.C.Denot). is_none h.tail) (length l.yielded) (map held_of (into_iter_items l.slot-iterator)) ≡ None)
    × (vec_len l.done + length (into_iter_items l.slot-iterator) ≤ vec_capacity l.done)
