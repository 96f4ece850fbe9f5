use Rattle.std.proofs.Common.{◌≡◌, map, not, take}
use Rattle.sarif_prepare.proofs.outside.list_active.Given as goal

abbrev pub invariant-loop-draft : goal.invariant-loop-draft
invariant-loop-draft l = l.list.items ≡ map (λ draft. not draft.suppressed) (take l.draft-index l.drafts)
