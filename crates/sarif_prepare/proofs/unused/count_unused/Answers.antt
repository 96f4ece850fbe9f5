use Rattle.std.proofs.Common.{[], ap, ◌∙◌}
use Rattle.sarif_suppress.specs.Internal.Marks.{marks_of}
use Rattle.sarif_prepare.specs.Internal.Marked.{marked}
use Rattle.sarif_prepare.proofs.Marked.{marks_drawn}
use Rattle.sarif_prepare.proofs.unused.count_unused.Goals as goal

pub returns : goal.returns
returns c = λ rs ds same is.
    let file = c.args.file.now in
    c.unused.ensures.unused file rs (
    c.mark_entries.ensures
    ∙ ap (λ marks. marked marks c.args.drafts.now) c.in_ok-marks.ensures
    ∙ ap (marked (marks_of file [])) is
    ∙ marks_drawn file [] rs ds same
    )
