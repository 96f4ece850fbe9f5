use Rattle.std.proofs.Common.{option_map}
use Rattle.json_texts.proofs.Standing.{next_member_is, member_writable, member_writable_view}
use Rattle.json_texts.proofs.walking.take_member.Goals as goal

pub returns-clause-value : goal.returns-clause-value
returns-clause-value c =
    next_member_is c.args.members.now c.next_member.new.self
    (option_map (λ m. (m.0.now, m.1)) c.next_member.result) c.next_member.ensures.value

pub returns-clause-writable : goal.returns-clause-writable
returns-clause-writable c =
    member_writable_view c.next_member.result
    (member_writable c.requires.0 c.requires.1 c.args.members.now c.next_member.new.self
    (option_map (λ m. (m.0.now, m.1)) c.next_member.result) c.requires.2 c.next_member.ensures.value)
