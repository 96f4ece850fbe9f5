use Rattle.std.proofs.Common.{◌≡◌, drop}
use Rattle.sarif_prepare.specs.Internal.Marked.{marked}
use Rattle.sarif_prepare.proofs.unused.mark_entries.Given as goal

abbrev pub invariant-loop-draft : goal.invariant-loop-draft
invariant-loop-draft l = marked l.marks (drop l.draft-index l.drafts) ≡ marked l.initial.marks l.drafts
