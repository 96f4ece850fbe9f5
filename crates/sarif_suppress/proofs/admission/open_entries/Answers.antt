use Rattle.std.proofs.Common.{ap, ◌∙◌}
use Rattle.sarif_suppress.specs.Internal.Admission.{opened}
use Rattle.sarif_suppress.proofs.Limits.{open_next}
use Rattle.sarif_suppress.proofs.admission.open_entries.Goals as goal

pub loop-number-preserved : goal.loop-number-preserved
loop-number-preserved c =
    open_next c.args.left.now c.args.entries.now c.loop-number.number c.index-entries-number.result _ c.loop-number.live.items _ _ c.loop-number-test.true
    c.index-entries-number.is (c.in_ok-open_entry.ensures ∙ ap (λ left. opened left c.index-entries-number.result) c.left_at.ensures)
    c.in_ok-push.ensures.items c.loop-number.invariant
