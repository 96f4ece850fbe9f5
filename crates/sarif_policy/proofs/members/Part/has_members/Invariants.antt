use Rattle.std.proofs.Common.{◌≡◌}
use Rattle.serde_json.specs.View.{members_view}
use Rattle.sarif_policy.specs.Reading.{are_members_of}
use Rattle.sarif_policy.proofs.members.Part.has_members.Given as goal

-- the members gone through are known
abbrev pub invariant-loop-name : goal.invariant-loop-name
invariant-loop-name l =
    are_members_of l.self (members_view l.name-iterator) ≡ are_members_of l.self (members_view l.members.entries)
