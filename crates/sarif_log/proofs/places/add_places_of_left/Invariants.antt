use Rattle.std.proofs.Common.{◌≡◌, ◌≤◌, ◌+◌, ◌++◌, drop, length}
use Rattle.sarif_log.specs.Copies.{places_from}
use Rattle.sarif_log.specs.Internal.Copied.{marks_of_left}
use Rattle.sarif_log.specs.Internal.Texts.{counts_in_parts}
use Rattle.sarif_log.proofs.places.add_places_of_left.Given as goal

abbrev pub invariant-loop-parts : goal.invariant-loop-parts
invariant-loop-parts l = record {
  number : l.number ≤ l.initial.number + l.parts-index;
  counted : length l.marks ≡ counts_in_parts (drop l.parts-index l.runs);
  told : l.places.items ++ places_from l.number (marks_of_left (drop l.parts-index l.runs) l.marks)
      ≡ l.initial.places.items ++ places_from l.initial.number (marks_of_left l.runs l.initial.marks);
}
