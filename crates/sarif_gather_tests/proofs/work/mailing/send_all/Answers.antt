use Rattle.std.proofs.Common.{length, drop, sym, ap, subst, arith}
use Rattle.std.proofs.lemmas.List.{take_at}
use Rattle.sarif_dispatch.specs.Ends.{AreAllPosts}
use Rattle.sarif_gather_tests.proofs.Posts.{posts_kept}
use Rattle.sarif_gather_tests.proofs.work.mailing.send_all.Goals as goal

pub returns : goal.returns
returns g c =
    let old = c.as_mut_slice.result.now in
    let new = c.send_each.new.posts in
    let value = c.as_mut_slice.ensures.value in
    let len = c.send_each.ensures.len in
    let all = ap length value in
    let back = take_at new (drop (length new) c.args.posts.items) c.args.posts.len (omega (arith, len, all)) in
    subst (AreAllPosts c.args.mailbox.now) (sym back)
    (posts_kept c.args.mailbox.now old new len c.send_each.ensures.each (subst (AreAllPosts c.args.mailbox.now) (sym value) c.requires))
