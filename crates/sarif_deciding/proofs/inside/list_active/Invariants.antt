use Rattle.std.proofs.Common.{◌≡◌, take}
use Rattle.sarif_deciding.specs.Results.{active_of}
use Rattle.sarif_deciding.proofs.inside.list_active.Given as goal

abbrev pub invariant-loop-draft : goal.invariant-loop-draft
invariant-loop-draft l = l.list.items ≡ active_of (take l.draft-index l.drafts)
