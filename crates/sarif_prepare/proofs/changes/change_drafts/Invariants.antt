use Rattle.std.proofs.Common.{◌≡◌, ◌++◌}
use Rattle.sarif_prepare.specs.Internal.Limiting.{put_drafts}
use Rattle.sarif_prepare.proofs.changes.change_drafts.Given as goal

abbrev pub invariant-loop-draft : goal.invariant-loop-draft
invariant-loop-draft l = record {
  parts : l.fn.drafts.items ≡ l.yielded ++ l.draft-iterator.rest.items;
  changed : l.changed.items ++ put_drafts l.draft-iterator.rest.items l.again.rest.items ≡ put_drafts l.fn.drafts.items l.fn.again.items;
}
