use Rattle.std.proofs.Common.{add-one, ap, sym, take, ◌∙◌}
use Rattle.sarif_suppress.specs.Internal.Marks.{marks_of}
use Rattle.sarif_upkeep.proofs.Taken.{next_record}
use Rattle.sarif_upkeep.proofs.used.used_by.Goals as goal

pub loop-draft-preserved : goal.loop-draft-preserved
loop-draft-preserved c = λ rs same.
    let file = c.args.file.now in
    let n = c.loop-draft.draft-index in
    let next = next_record file rs c.args.drafts.now n c.draft-item.result _ same c.loop-draft-test.true c.draft-item.is in
    rw add-one (c.set.ensures.one_more file (take n rs) next.here (c.loop-draft.invariant rs same) next.entries ∙ ap (marks_of file) (sym next.more))
