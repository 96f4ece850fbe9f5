use Rattle.std.proofs.Common.{◌≡◌, ◌≤◌, ◌+◌, drop}
use Rattle.sarif_prepare.specs.Internal.LeftParts.{left_count}
use Rattle.sarif_prepare.proofs.parts_of_runs.count_left.Given as goal

abbrev pub invariant-loop-is_taken : goal.invariant-loop-is_taken
invariant-loop-is_taken l = record {
  counted : l.count + left_count (drop l.is_taken-index l.taken) ≡ left_count l.taken;
  few : l.count ≤ l.is_taken-index;
}
