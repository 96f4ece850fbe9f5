use Rattle.std.proofs.Common.{◌≡◌, ◌++◌, map}
use Rattle.std.specs.List.{range_with_len}
use Rattle.sarif_collect.specs.declared.piece.Piece.TheVariants.{Item}
use Rattle.sarif_collect.specs.declared.piece.Parcel.TheVariants.{Carry}
use Rattle.sarif_dispatch.specs.Ends.{IsPostOf, number_of, sent_by}
use Rattle.sarif_gather.proofs.gathering.worker.send_run.Given as goal

abbrev pub invariant-loop-seq : goal.invariant-loop-seq
invariant-loop-seq g l =
    IsPostOf l.place.mailbox.now l.post × (number_of l.post ≡ number_of l.fn.post)
    × (sent_by l.post ≡ sent_by l.fn.post ++ map Carry (map (λ seq. Item l.run seq (g.W.Work.item l.place.work.now l.run seq)) (range_with_len 0 l.seq)))
