use Rattle.std.proofs.Common.{◌≡◌, ◌≤◌, ◌+◌, map, drop}
use Rattle.sarif_entries.specs.File.{File}
use Rattle.sarif_results.specs.Drafts.{applied_of}
use Rattle.sarif_accept.specs.Adding.{may_hit}
use Rattle.sarif_upkeep.specs.Internal.Hiding.{lent, marks_left}
use Rattle.sarif_upkeep.specs.Merge.{shown_by}
use Rattle.sarif_upkeep.specs.Renewed.{staying_among}
use Rattle.sarif_upkeep.proofs.staying.staying_among.Given as goal

abbrev pub invariant-loop-number : goal.invariant-loop-number
invariant-loop-number l = record {
  counted : (file : File) → map (λ draft. draft.applied) l.drafts ≡ map (applied_of file) l.records
      → l.count
      + staying_among (may_hit l.policy) file (shown_by (marks_left l.number (lent l.hidden)) (drop l.number l.records))
      (shown_by (marks_left l.number (lent l.hidden)) (drop l.number l.states))
      ≡ staying_among (may_hit l.policy) file (shown_by (lent l.hidden) l.records) (shown_by (lent l.hidden) l.states);
  few : l.count ≤ l.number;
}
