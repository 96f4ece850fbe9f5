use Rattle.std.proofs.Common.{◌≡◌, map, take, Some}
use Rattle.sarif_model.specs.declared.kinds.State.TheVariants.{Absent}
use Rattle.sarif_prepare.proofs.left.absent_states.Given as goal

abbrev pub invariant-loop-draft : goal.invariant-loop-draft
invariant-loop-draft l = l.states.items ≡ map (λ _. Some Absent) (take l._draft-index l.drafts)
