use Rattle.std.proofs.Common.{◌≡◌, take}
use Rattle.sarif_deciding.specs.Results.{for_each}
use Rattle.sarif_deciding.proofs.inside.mark_each.Given as goal

abbrev pub invariant-loop-draft : goal.invariant-loop-draft
invariant-loop-draft l = l.marks.items ≡ for_each l.mark (take l._draft-index l.drafts)
