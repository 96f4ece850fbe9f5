use Rattle.std.proofs.Common.{◌≡◌, ◌≤◌, ◌++◌, drop, length, map}
use Rattle.sarif_known.specs.Selected.{unmatched_of}
use Rattle.sarif_known.proofs.choosing.list_unmatched.Given as goal

abbrev pub invariant-loop-at : goal.invariant-loop-at
invariant-loop-at l = record {
  unmatched : map (λ r. r.now) l.list.items ++ unmatched_of (drop l.at l.records) (drop l.at l.taken) ≡ unmatched_of l.records l.taken;
  few : length l.list.items ≤ l.at;
}
