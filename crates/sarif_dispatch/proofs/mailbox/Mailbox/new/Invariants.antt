use Rattle.std.proofs.Common.{◌≡◌, ℕ, [], vec_len, Some}
use Rattle.std.specs.Prelude.{slice_get}
use Rattle.std.specs.Vec.{vec_capacity}
use Rattle.crossbeam_queue.specs.Passes.{view, IsPassOf}
use Rattle.sarif_dispatch.specs.declared.mailbox.ends.Post.{Post}
use Rattle.sarif_dispatch.specs.declared.mailbox.rule.View.TheVariants.{Taker, Sender}
use Rattle.sarif_dispatch.proofs.mailbox.Mailbox.new.Given as goal

abbrev pub invariant-loop-number : goal.invariant-loop-number
invariant-loop-number g l = (vec_len l.posts ≡ l.number) × (vec_capacity l.posts ≡ l.senders) × IsPassOf l.line l.pass × (view l.pass ≡ Taker [] l.number [])
    × ((k : ℕ) (post : Post g.row.P.Denot) → slice_get l.posts.items k ≡ Some post
    → IsPassOf l.line post.pass × (view post.pass ≡ Sender k []) × (post.number ≡ k))
