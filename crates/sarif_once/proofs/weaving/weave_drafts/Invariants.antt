use Rattle.std.proofs.Common.{◌≡◌, ◌++◌, drop}
use Rattle.sarif_once.specs.Once.{woven}
use Rattle.sarif_once.proofs.weaving.weave_drafts.Given as goal

abbrev pub invariant-loop-is_marked : goal.invariant-loop-is_marked
invariant-loop-is_marked l =
    l.all.items ++ woven (drop l.is_marked-index l.marks) l.rest.rest.items l.marked.rest.items ≡ woven l.marks l.fn.rest.items l.fn.marked.items
