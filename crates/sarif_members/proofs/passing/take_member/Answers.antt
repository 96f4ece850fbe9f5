use Rattle.std.proofs.Common.{option_map}
use Rattle.json_parts.proofs.Walks.{member_at, next_member_is}
use Rattle.sarif_members.proofs.Passed.{readable_view}
use Rattle.sarif_members.proofs.passing.take_member.Goals as goal

pub returns-clause-value : goal.returns-clause-value
returns-clause-value c =
    next_member_is c.args.members.now c.next_member.new.self
    (option_map (λ m. (m.0.now, m.1)) c.next_member.result) c.next_member.ensures.value

pub returns-clause-readable : goal.returns-clause-readable
returns-clause-readable c =
    readable_view c.requires.0 c.requires.1 c.next_member.new.self c.next_member.result
    (member_at c.requires.0 c.args.members.now c.next_member.new.self c.requires.1
    (option_map (λ m. (m.0.now, m.1)) c.next_member.result) c.requires.2 c.next_member.ensures.value)
