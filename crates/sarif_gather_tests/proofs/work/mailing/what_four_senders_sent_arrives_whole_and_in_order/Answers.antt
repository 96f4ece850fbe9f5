use Rattle.sarif_gather_tests.proofs.Posts.{new_posts}
use Rattle.sarif_gather_tests.proofs.work.mailing.what_four_senders_sent_arrives_whole_and_in_order.Goals as goal

pub join-posts-requires-after_bounds : goal.join-posts-requires-after_bounds
join-posts-requires-after_bounds g c κs within =
    let box = c.in_ok-mailbox in
    let fresh = box.ensures in
    (new_posts box.mailbox 3 4 box.posts.items box.desk fresh, fresh.desk_is)
