use Rattle.sarif_findings.proofs.ShownMore.{shown_whole}
use Rattle.sarif_findings.proofs.reported_results.shown_message.Goals as goal

pub returns : goal.returns
returns c =
    shown_whole c.in_ok-so_far.so_far c.push_message.new.so_far _ _ c.in_ok-so_far.ensures c.in_ok-push_message.ensures c.finish.ensures
