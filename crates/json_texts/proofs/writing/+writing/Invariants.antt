use Rattle.std.proofs.Common.{◌≡◌, ◌≤◌, ◌++◌, ◌+◌, ◌*◌, ℕ, suc, drop, length}
use Rattle.json.specs.Json.{Items, object}
use Rattle.json.specs.Tree.{json_tokens, items_tokens, members_tokens}
use Rattle.json_parts.specs.Indexed.{json_at}
use Rattle.json_parts.specs.Internal.Walking.{depth_of}
use Rattle.json_texts.specs.Whole.{written}
use Rattle.json_texts.specs.Internal.Walking.{ItemsStand, AreWritable, members_at, nesting, written_items, written_members}
use Rattle.json_texts.proofs.writing.+writing.Given as goal

abbrev pub decreases-write_members : goal.decreases-write_members
decreases-write_members l = 2 * nesting l.members.now + 1

abbrev pub decreases-write_value : goal.decreases-write_value
decreases-write_value l = 2 * depth_of l.element.now

abbrev pub invariant-write_members-members : goal.invariant-write_members-members
invariant-write_members-members l =
    let left = drop l.member-index l.members in
    (l.out.tokens ++ members_tokens (written_members l.keeps_numbers (members_at left))
    ≡ l.fn.out.tokens ++ json_tokens (object (written_members l.keeps_numbers (members_at l.members))))
    × (l.out.before ≡ l.fn.out.before) × AreWritable left × (nesting left ≤ nesting l.members)

abbrev pub invariant-write_value-items : goal.invariant-write_value-items
invariant-write_value-items l =
    (n : ℕ) × (rest : Items) × ItemsStand n l.items rest × (depth_of l.element ≡ suc n)
    × (l.out.tokens ++ items_tokens (written_items l.keeps_numbers rest) ≡ l.fn.out.tokens ++ json_tokens (written l.keeps_numbers (json_at l.element)))
    × (l.out.before ≡ l.fn.out.before)

abbrev pub decreases-write_value-items : goal.decreases-write_value-items
decreases-write_value-items l = length l.items
