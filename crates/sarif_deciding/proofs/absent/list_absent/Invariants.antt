use Rattle.std.proofs.Common.{◌≡◌, take}
use Rattle.sarif_model.specs.declared.kinds.State.TheVariants.{Absent}
use Rattle.sarif_deciding.specs.Results.{for_each}
use Rattle.sarif_deciding.proofs.absent.list_absent.Given as goal

abbrev pub invariant-loop-draft : goal.invariant-loop-draft
invariant-loop-draft l = l.states.items ≡ for_each Absent (take l._draft-index l.drafts)
