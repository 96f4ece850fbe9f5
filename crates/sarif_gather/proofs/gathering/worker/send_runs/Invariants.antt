use Rattle.std.proofs.Common.{◌≡◌, map}
use Rattle.sarif_collect.specs.declared.piece.Parcel.TheVariants.{Carry}
use Rattle.sarif_dispatch.specs.Ends.{IsPostOf, number_of, sent_by}
use Rattle.sarif_dispatch.specs.Hands.{IsHandOf, drawn_by}
use Rattle.sarif_collect.specs.Pieces.{pieces_of_runs}
use Rattle.sarif_gather.proofs.gathering.worker.send_runs.Given as goal

abbrev pub invariant-loop : goal.invariant-loop
invariant-loop g l =
    (goal.iterator-loop g).can_next l.iterator' × (goal.iterator-loop g).is_finite l.iterator' × IsPostOf l.place.mailbox.now l.post
    × (number_of l.post ≡ number_of l.fn.post) × IsHandOf l.place.deal.now l.hand
    × (sent_by l.post ≡ map Carry
    (pieces_of_runs (g.W.Work.count l.place.work.now) (g.W.Work.item l.place.work.now) (g.W.Work.end l.place.work.now) (drawn_by l.hand)))
