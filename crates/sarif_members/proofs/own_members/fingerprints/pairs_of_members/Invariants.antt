use Rattle.std.proofs.Common.{◌≡◌}
use Rattle.serde_json.specs.View.{members_view}
use Rattle.sarif_members.specs.Fingerprints.{pairs_among}
use Rattle.sarif_model.proofs.ReadEach.{before}
use Rattle.sarif_members.proofs.own_members.fingerprints.pairs_of_members.Given as goal

abbrev pub invariant-loop-name : goal.invariant-loop-name
invariant-loop-name l =
    before l.pairs (pairs_among (members_view l.name-iterator))
    ≡ pairs_among (members_view l.members.entries)
