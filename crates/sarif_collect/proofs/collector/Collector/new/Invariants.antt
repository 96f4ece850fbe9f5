use Rattle.std.proofs.Common.{◌≡◌, replicate, map, vec_len}
use Rattle.std.specs.Vec.{vec_capacity}
use Rattle.sarif_collect.specs.Held.{empty_run}
use Rattle.sarif_collect.specs.Slot.{held_of}
use Rattle.sarif_collect.proofs.collector.Collector.new.Given as goal

abbrev pub invariant-loop : goal.invariant-loop
invariant-loop g l = (map held_of l.slots.items ≡ replicate l.counter empty_run) × (vec_len l.slots ≡ l.counter) × (vec_capacity l.slots ≡ l.runs)
