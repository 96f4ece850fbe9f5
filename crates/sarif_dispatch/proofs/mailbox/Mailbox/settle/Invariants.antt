use Rattle.std.proofs.Common.{◌≡◌, ◌≤◌, ◌++◌, map, vec_len}
use Rattle.std.specs.Vec.{vec_capacity}
use Rattle.crossbeam_queue.specs.Passes.{view, IsPassOf}
use Rattle.sarif_dispatch.specs.declared.mailbox.rule.View.TheVariants.{Taker}
use Rattle.sarif_dispatch.specs.Ends.{taken_by, returned}
use Rattle.sarif_dispatch.proofs.mailbox.Mailbox.settle.Given as goal

abbrev pub invariant-loop : goal.invariant-loop
invariant-loop g l =
    IsPassOf l.self.line l.pass × (view l.pass ≡ Taker (taken_by l.fn.desk ++ l.left.items) l.self.senders (map returned l.fn.posts.items))
    × (vec_len l.left ≡ l.counter) × (l.count ≤ vec_capacity l.left)
