use Rattle.std.proofs.Common.{◌∙◌}
use Rattle.sarif_dispatch.proofs.TwoPosts.{two_back}
use Rattle.sarif_gather_tests.proofs.work.mailing.full_and_none_come_from_a_full_and_an_empty_mailbox.Goals as goal

pub settle-requires-clause-posts : goal.settle-requires-clause-posts
settle-requires-clause-posts g c =
    let two = c.in-Some-Some in
    let first = c.send.ensures.post in
    let second = c.send-2.ensures.post in
    two_back c.pop-2.new.self.items two.first two.second c.in_ok-mailbox.ensures two.ensures.items two.ensures'.items c.in_ok-back.ensures.items
    first (second.0, second.1 ∙ c.send-refused.ensures.post.1)
