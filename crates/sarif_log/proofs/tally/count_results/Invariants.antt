use Rattle.std.proofs.Common.{◌≡◌, ◌≤◌, ◌+◌, Bool, drop}
use Rattle.sarif_model.specs.declared.kinds.Level.{Level}
use Rattle.sarif_model.specs.declared.kinds.State.{State}
use Rattle.sarif_counts.specs.Counts.{count_at, total_of}
use Rattle.sarif_log.specs.Internal.Texts.{tallied}
use Rattle.sarif_log.proofs.tally.count_results.Given as goal

abbrev pub invariant-loop-at : goal.invariant-loop-at
invariant-loop-at l = record {
  counted : (s : State) (g : Level) (b : Bool)
      → count_at l.counts s g b + tallied (drop l.at l.drafts) (drop l.at l.states) s g b
      ≡ count_at l.initial.counts s g b + tallied l.drafts l.states s g b;
  total : total_of l.counts ≤ total_of l.initial.counts + l.at;
}
