use Rattle.std.proofs.Common.{◌≡◌}
use Rattle.sarif_dispatch.specs.Ends.{IsPostOf, number_of, sent_by}
use Rattle.sarif_dispatch.proofs.mailbox.Mailbox.send_on.Given as goal

abbrev pub invariant-loop : goal.invariant-loop
invariant-loop g l =
    (goal.iterator-loop g).can_next l.iterator' × (goal.iterator-loop g).is_finite l.iterator' × IsPostOf l.self l.post
    × (number_of l.post ≡ number_of l.fn.post) × (sent_by l.post ≡ sent_by l.fn.post)
    × (l.parcel ≡ l.fn.parcel)
