use Rattle.std.proofs.Common.{◌≡◌, ◌≤◌, ◌++◌, Some, map, drop, length}
use Rattle.sarif_entries.specs.File.{File}
use Rattle.sarif_results.specs.Drafts.{applied_of}
use Rattle.sarif_accept.specs.Adding.{may_hit}
use Rattle.sarif_accept.specs.Choosing.{accepted_by}
use Rattle.sarif_upkeep.proofs.accepting.accepted_marked.Given as goal

abbrev pub invariant-loop-number : goal.invariant-loop-number
invariant-loop-number l = record {
  accepted : (file : File) → map (λ draft. draft.applied) l.drafts ≡ map (applied_of file) l.records
      → map (λ r. r.now) l.accepted.items
      ++ accepted_by (Some (drop l.number l.marks)) (may_hit l.policy) file (drop l.number l.records) (drop l.number l.states)
      ≡ accepted_by (Some l.marks) (may_hit l.policy) file l.records l.states;
  few : length l.accepted.items ≤ l.number;
}
