use Rattle.std.proofs.Common.{◌∷◌, ◌++◌, [], ap, ◌∙◌}
use Rattle.sarif_collect.specs.declared.piece.Piece.TheVariants.{Item}
use Rattle.sarif_collect.specs.declared.piece.Parcel.TheVariants.{Carry}
use Rattle.sarif_dispatch.specs.Ends.{sent_by}
use Rattle.sarif_collect.proofs.Parcels.{one_more}
use Rattle.sarif_gather.proofs.gathering.worker.send_run.Goals as goal

pub loop-seq-preserved : goal.loop-seq-preserved
loop-seq-preserved g c =
    let was = c.loop-seq.invariant in (
      c.send_on.ensures.post.0,
      c.send_on.ensures.post.1 ∙ was.1,
      c.send_on.ensures.sent
          ∙ ap (λ l. l ++ Carry (Item c.args.run c.loop-seq.seq c.in_ok-body.body) ∷ []) was.2
          ∙ one_more c.args.run (g.W.Work.item c.args.place.now.work.now c.args.run)
          (sent_by c.args.post.now) c.loop-seq.seq c.in_ok-body.body (c.in_ok-body.ensures c.args.run c.requires.run c.in_ok-head.ensures),
    )
