use Rattle.sarif_findings.proofs.ShownMore.{shown_whole}
use Rattle.sarif_findings.proofs.shown_text.show_text.Goals as goal

pub returns : goal.returns
returns c =
    shown_whole c.in_ok-so_far.so_far c.push_str.new.self _ _ c.in_ok-so_far.ensures c.in_ok-push_str.ensures c.finish.ensures
