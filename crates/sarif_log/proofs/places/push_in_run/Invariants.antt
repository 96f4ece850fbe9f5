use Rattle.std.proofs.Common.{◌≡◌, ◌++◌, drop}
use Rattle.sarif_log.specs.Copies.{places_in}
use Rattle.sarif_log.proofs.places.push_in_run.Given as goal

abbrev pub invariant-loop-is_marked : goal.invariant-loop-is_marked
invariant-loop-is_marked l = record {
  number : l.number ≡ l.is_marked-index;
  told : l.places.items ++ places_in l.run l.number (drop l.is_marked-index l.marks) ≡ l.initial.places.items ++ places_in l.run 0 l.marks;
}
