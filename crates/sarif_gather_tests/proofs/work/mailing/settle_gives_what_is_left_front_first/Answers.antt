use Rattle.std.proofs.Common.{◌∙◌}
use Rattle.sarif_dispatch.proofs.TwoPosts.{two_back}
use Rattle.sarif_gather_tests.proofs.work.mailing.settle_gives_what_is_left_front_first.Goals as goal

pub settle-requires-clause-posts : goal.settle-requires-clause-posts
settle-requires-clause-posts g c =
    let two = c.in-Some-Some in
    let first = c.send_on-5.ensures.post in
    let second = c.send_on-4.ensures.post in
    two_back c.pop-2.new.self.items two.first two.second c.in_ok-mailbox.ensures two.ensures.items two.ensures'.items c.in_ok-back.ensures.items
    (first.0, first.1 ∙ c.send_on-3.ensures.post.1 ∙ c.send_on.ensures.post.1) (second.0, second.1 ∙ c.send_on-2.ensures.post.1)
