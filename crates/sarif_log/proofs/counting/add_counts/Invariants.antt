use Rattle.std.proofs.Common.{◌≡◌, Bool, take}
use Rattle.std.specs.Prelude.{sum_by}
use Rattle.sarif_model.specs.declared.kinds.Level.{Level}
use Rattle.sarif_model.specs.declared.kinds.State.{State}
use Rattle.sarif_counts.specs.Counts.{count_at, total_of}
use Rattle.sarif_log.proofs.counting.add_counts.Given as goal

abbrev pub invariant-loop-part : goal.invariant-loop-part
invariant-loop-part l = record {
  each : (s : State) (g : Level) (b : Bool) → count_at l.all s g b ≡ sum_by (λ c. count_at c s g b) (take l.part-index l.parts);
  total : total_of l.all ≡ sum_by total_of (take l.part-index l.parts);
}
