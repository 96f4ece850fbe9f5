use Rattle.std.proofs.Common.{◌≡◌, List, replicate, Some, None, sym, ap, ◌∙◌, subst, arith}
use Rattle.sarif_collect.specs.declared.piece.Parcel.{Parcel}
use Rattle.sarif_dispatch.specs.declared.mailbox.ends.Post.{Post}
use Rattle.sarif_dispatch.specs.declared.deal.hand.Hand.{Hand}
use Rattle.sarif_dispatch.specs.Ends.{AreAllPosts}
use Rattle.sarif_dispatch.specs.Hands.{AreAllHands}
use Rattle.sarif_collect.specs.Held.{empty_run, first_open}
use Rattle.sarif_collect.specs.Pieces.{lists_of}
use Rattle.sarif_gather.proofs.Gatherings.{gathered_at, all_posts, all_hands, all_collected}
use Rattle.sarif_collect.proofs.Wholes.{wholes_again, no_open}
use Rattle.sarif_gather.proofs.gathering.gather.Goals as goal

pub settle-requires-clause-posts : goal.settle-requires-clause-posts
settle-requires-clause-posts g c =
    let now = gathered_at _ _ _ _ _ _ _ _ _ _ c.in_ok-gathered.ensures
    (c.in_ok-collector.ensures ∙ ap (λ n. replicate n empty_run) c.runs-runs.ensures)
    (c.in_ok-mailbox.posts.ok.0 ∙ c.in_ok-mailbox.ensures.count) in
    subst (λ (l : List (Post (Parcel g.row.W-Item.Denot g.row.W-Tail.Denot))). AreAllPosts c.in_ok-mailbox.mailbox l)
    (sym c.in_ok-posts.ensures.0) (all_posts _ _ _ _ _ _ _ _ now c.in_ok-mailbox.ensures.senders_are)

pub settle-requires-2 : goal.settle-requires-2
settle-requires-2 g c =
    let now = gathered_at _ _ _ _ _ _ _ _ _ _ c.in_ok-gathered.ensures
    (c.in_ok-collector.ensures ∙ ap (λ n. replicate n empty_run) c.runs-runs.ensures)
    (c.in_ok-mailbox.posts.ok.0 ∙ c.in_ok-mailbox.ensures.count) in
    subst (λ (l : List Hand). AreAllHands c.in_ok-deal.deal l) (sym c.in_ok-posts.ensures.1) (all_hands _ _ _ _ _ _ _ _ now c.in_ok-deal.ensures.hands_are)

pub gather_scoped-requires-after_bounds : goal.gather_scoped-requires-after_bounds
gather_scoped-requires-after_bounds g c κs within = record {
  posts = c.in_ok-mailbox.ensures.each;
  hands = λ i hand at. (c.in_ok-deal.ensures.all_of.each i hand at, (c.in_ok-deal.ensures.fresh i hand at).0);
  count = c.in_ok-deal.ensures.all_of.count ∙ c.in_ok-deal.ensures.hands_are ∙ sym c.in_ok-mailbox.ensures.count;
  desk = c.in_ok-mailbox.ensures.desk_is;
  taken = c.in_ok-mailbox.ensures.taken;
}

pub unreachable-requires : goal.unreachable-requires
unreachable-requires g c =
    let now = gathered_at _ _ _ _ _ _ _ _ _ _ c.in_ok-gathered.ensures
    (c.in_ok-collector.ensures ∙ ap (λ n. replicate n empty_run) c.runs-runs.ensures)
    (c.in_ok-mailbox.posts.ok.0 ∙ c.in_ok-mailbox.ensures.count) in
    let all = all_collected _ _ _ _ _ _ _ _ now c.in-Ok._settled.left.items _ _ _
    (omega arith) c.in_ok-mailbox.ensures.senders_are c.in_ok-posts.ensures.0 c.in_ok-posts.ensures.1
    c.in-Ok.ensures.whole (λ i hand at is. c.settle-2.ensures.marked i hand at is ∙ c.in_ok-deal.ensures.runs_are ∙ c.runs-runs.ensures)
    c.settle-2.ensures.drawn in
    let opened = c.in_default-finish.ensures.err.1 in
    let none = ap first_open all
    ∙ no_open
    (lists_of (g.W.Work.count c.args.work.now) (g.W.Work.item c.args.work.now) (g.W.Work.end c.args.work.now)
    (g.W.Work.run_count c.args.work.now)) in
    let clash : Some c.in_default-finish.field-0.0 ≡ None = sym opened ∙ none in
    cc

pub returns : goal.returns
returns g c =
    let now = gathered_at _ _ _ _ _ _ _ _ _ _ c.in_ok-gathered.ensures
    (c.in_ok-collector.ensures ∙ ap (λ n. replicate n empty_run) c.runs-runs.ensures)
    (c.in_ok-mailbox.posts.ok.0 ∙ c.in_ok-mailbox.ensures.count) in
    let all = all_collected _ _ _ _ _ _ _ _ now c.in-Ok._settled.left.items _ _ _
    (omega arith) c.in_ok-mailbox.ensures.senders_are c.in_ok-posts.ensures.0 c.in_ok-posts.ensures.1
    c.in-Ok.ensures.whole (λ i hand at is. c.settle-2.ensures.marked i hand at is ∙ c.in_ok-deal.ensures.runs_are ∙ c.runs-runs.ensures)
    c.settle-2.ensures.drawn in
    wholes_again c.in-Ok-finish.lists
    (lists_of (g.W.Work.count c.args.work.now) (g.W.Work.item c.args.work.now) (g.W.Work.end c.args.work.now)
    (g.W.Work.run_count c.args.work.now)) (sym c.in-Ok-finish.ensures.ok ∙ all)
