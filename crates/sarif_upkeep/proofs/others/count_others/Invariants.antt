use Rattle.std.proofs.Common.{◌≡◌, ◌≤◌, ◌+◌, map, drop, length}
use Rattle.sarif_entries.specs.File.{File}
use Rattle.sarif_results.specs.Drafts.{applied_of}
use Rattle.sarif_accept.specs.Adding.{may_hit}
use Rattle.sarif_accept.specs.Choosing.{alike_among, others_among}
use Rattle.sarif_upkeep.specs.Internal.Hiding.{lent, marks_left}
use Rattle.sarif_upkeep.specs.Merge.{shown_by}
use Rattle.sarif_upkeep.proofs.others.count_others.Given as goal

abbrev pub invariant-loop-number : goal.invariant-loop-number
invariant-loop-number l = record {
  alike : (file : File) → map (λ draft. draft.applied) l.drafts ≡ map (applied_of file) l.records
      → file.today ≡ l.counting.added.now.today
      → l.alike
      + length (alike_among (may_hit l.counting.policy) file l.counting.added.now.entries
      (shown_by (marks_left l.number (lent l.counting.hidden)) (drop l.number l.marks))
      (shown_by (marks_left l.number (lent l.counting.hidden)) (drop l.number l.records))
      (shown_by (marks_left l.number (lent l.counting.hidden)) (drop l.number l.states)))
      ≡ length (alike_among (may_hit l.counting.policy) file l.counting.added.now.entries (shown_by (lent l.counting.hidden) l.marks)
      (shown_by (lent l.counting.hidden) l.records) (shown_by (lent l.counting.hidden) l.states));
  left : (file : File) → map (λ draft. draft.applied) l.drafts ≡ map (applied_of file) l.records
      → file.today ≡ l.counting.added.now.today
      → l.left
      + length (others_among (may_hit l.counting.policy) file l.counting.added.now.entries
      (shown_by (marks_left l.number (lent l.counting.hidden)) (drop l.number l.marks))
      (shown_by (marks_left l.number (lent l.counting.hidden)) (drop l.number l.records))
      (shown_by (marks_left l.number (lent l.counting.hidden)) (drop l.number l.states)))
      ≡ length (others_among (may_hit l.counting.policy) file l.counting.added.now.entries (shown_by (lent l.counting.hidden) l.marks)
      (shown_by (lent l.counting.hidden) l.records) (shown_by (lent l.counting.hidden) l.states));
  few : l.alike + l.left ≤ l.number;
}
