use Rattle.std.proofs.Common.{◌≡◌, map, take}
use Rattle.sarif_deciding.specs.Results.{for_each}
use Rattle.sarif_deciding.proofs.rated.list_missing.Given as goal

abbrev pub invariant-loop-draft : goal.invariant-loop-draft
invariant-loop-draft l = map (λ r. r.now) l.list.items ≡ for_each l.missing (take l._draft-index l.drafts)
