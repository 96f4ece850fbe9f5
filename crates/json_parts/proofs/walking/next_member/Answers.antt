use Rattle.std.proofs.Common.{◌≡◌, Some, None, option_map, sym, subst, arith}
use Rattle.json_parts.specs.Indexed.{data_of}
use Rattle.json_parts.specs.Internal.Ordered.{IsOrdered}
use Rattle.json_parts.specs.Internal.Walking.{NextMember}
use Rattle.json_parts.proofs.Order.{readable_ordered}
use Rattle.json_parts.proofs.Walks.{member_at, next_member_is}
use Rattle.json_parts.proofs.walking.next_member.Goals as goal

pub returns-in_err-name-clause-value : goal.returns-in_err-name-clause-value
returns-in_err-name-clause-value c =
    let gone : c.from_residual.result ≡ None = grind arith in
    subst (λ r. NextMember c.args.members.now (option_map (λ m. (m.0.now, m.1)) r) c.next_member.new.self) (sym gone)
    (next_member_is c.args.members.now c.next_member.new.self None c.in_err-name.ensures.value)

pub new-requires : goal.new-requires
new-requires c =
    (member_at c.requires.0 c.args.members.now c.next_member.new.self c.requires.1
    (Some (c.in_ok-name.name.now, c.in_ok-name.element)) c.requires.2 c.in_ok-name.ensures.value).0

pub returns-clause-value : goal.returns-clause-value
returns-clause-value c =
    subst (λ ts. NextMember c.args.members.now (Some (c.in_ok-name.name.now, ts)) c.next_member.new.self) (sym c.new.ensures)
    (next_member_is c.args.members.now c.next_member.new.self (Some (c.in_ok-name.name.now, c.in_ok-name.element)) c.in_ok-name.ensures.value)

pub returns-clause-ordered : goal.returns-clause-ordered
returns-clause-ordered c =
    let found = member_at c.requires.0 c.args.members.now c.next_member.new.self c.requires.1
    (Some (c.in_ok-name.name.now, c.in_ok-name.element)) c.requires.2 c.in_ok-name.ensures.value in
    subst (λ ts. IsOrdered (data_of ts)) (sym c.new.ensures) (readable_ordered c.in_ok-name.element found.0)
