use Rattle.std.proofs.Common.{◌≡◌, ◌≤◌, ◌+◌, drop}
use Rattle.sarif_entries.specs.File.{File}
use Rattle.sarif_accept.specs.Adding.{may_hit}
use Rattle.sarif_upkeep.specs.Renewed.{absent_hits}
use Rattle.sarif_upkeep.proofs.staying.absent_hits.Given as goal

abbrev pub invariant-loop-number : goal.invariant-loop-number
invariant-loop-number l = record {
  counted : (file : File) → l.count + absent_hits (may_hit l.policy) file (drop l.number l.records) (drop l.number l.taken)
      ≡ absent_hits (may_hit l.policy) file l.records l.taken;
  few : l.count ≤ l.number;
}
