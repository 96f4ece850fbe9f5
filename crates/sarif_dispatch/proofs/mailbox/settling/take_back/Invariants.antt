use Rattle.std.proofs.Common.{◌≡◌, ℕ, ◌++◌, map, Some}
use Rattle.std.specs.Prelude.{slice_get}
use Rattle.std.specs.Vec.Iter.{into_iter_items}
use Rattle.crossbeam_queue.specs.Passes.{view, IsPassOf}
use Rattle.sarif_dispatch.specs.declared.mailbox.ends.Post.{Post}
use Rattle.sarif_dispatch.specs.declared.mailbox.rule.View.TheVariants.{Taker}
use Rattle.sarif_dispatch.specs.Delivery.{taken_in, made_in}
use Rattle.sarif_dispatch.specs.Ends.{returned}
use Rattle.sarif_dispatch.proofs.mailbox.settling.take_back.Given as goal

abbrev pub invariant-loop-post : goal.invariant-loop-post
invariant-loop-post g l =
    (goal.iterator-loop-post g).can_next l.post-iterator × (goal.iterator-loop-post g).is_finite l.post-iterator × IsPassOf l.line l.pass
    × (view l.pass ≡ Taker (taken_in (view l.fn.pass)) (made_in (view l.fn.pass)) (map returned l.yielded))
    × (l.fn.posts.items ≡ l.yielded ++ into_iter_items l.post-iterator)
    × ((i : ℕ) (post : Post g.row.P.Denot) → slice_get (into_iter_items l.post-iterator) i ≡ Some post → IsPassOf l.line post.pass)
