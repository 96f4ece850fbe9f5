use Rattle.sarif_change.proofs.SharedMore.{shared_step}
use Rattle.sarif_change.proofs.joining.list_shared.Goals as goal

pub loop-section-preserved : goal.loop-section-preserved
loop-section-preserved g c =
    let all = c.args.sections.now in
    shared_step all c.loop-section.section-index c.section-item.result c.loop-section.shared.items c.push.new.self.items c.shares_name.result
    c.loop-section-test.true c.section-item.is c.in_ok-push.ensures.items (c.shares_name.ensures all c.in_ok-names.ensures)
    c.loop-section.invariant
