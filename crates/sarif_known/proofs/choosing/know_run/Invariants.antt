use Rattle.std.proofs.Common.{◌≡◌, ◌≤◌, ◌++◌, drop, length, map}
use Rattle.sarif_results.specs.Drafts.{applied_of}
use Rattle.sarif_known.specs.Selected.{known_of}
use Rattle.sarif_known.proofs.choosing.know_run.Given as goal

abbrev pub invariant-loop-at : goal.invariant-loop-at
invariant-loop-at l = record {
  known : map (λ r. r.now) l.records.items ++ known_of l.choice.file.now l.choice.policy l.choice.adopt (drop l.at l.results.records.now)
      (drop l.at l.results.standings.now) ≡ known_of l.choice.file.now l.choice.policy l.choice.adopt l.results.records.now l.results.standings.now;
  drafts : map (λ d. d.applied) (drop l.at l.results.drafts.now) ≡ map (applied_of l.choice.file.now) (drop l.at l.results.records.now);
  few : length l.records.items ≤ l.at;
}
