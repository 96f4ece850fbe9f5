use Rattle.std.proofs.Common.{◌≡◌, ◌+◌, ◌++◌, length, drop}
use Rattle.sarif_read.specs.Unmarked.{unmarked}
use Rattle.sarif_once.proofs.leaving.drop_taken.Given as goal

abbrev pub invariant-loop-draft : goal.invariant-loop-draft
invariant-loop-draft l = record {
  parts : l.fn.drafts.items ≡ l.yielded ++ l.draft-iterator.rest.items;
  counted : l.number + length l.draft-iterator.rest.items ≡ length l.taken;
  left : l.left.items ++ unmarked (drop l.number l.taken) l.draft-iterator.rest.items ≡ unmarked l.taken l.fn.drafts.items;
}
