use Rattle.std.proofs.Common.{◌≡◌, ℕ, ◌+◌, ◌*◌, ◌<◌, ◌≤◌, length}
use Rattle.json.specs.Json.{items, members, value}
use Rattle.json.specs.Reads.{skip_items, skip_members}
use Rattle.json.specs.Tape.{Grown}
use Rattle.json.proofs.Grammar.{left}
use Rattle.json_parts.proofs.tape.filling.+filling.Given as goal

abbrev pub decreases-push_value : goal.decreases-push_value
decreases-push_value l = 2 * l.depth

abbrev pub decreases-push_items : goal.decreases-push_items
decreases-push_items l = 2 * l.depth + 1

abbrev pub decreases-push_members : goal.decreases-push_members
decreases-push_members l = 2 * l.depth + 1

abbrev pub invariant-push_items-items : goal.invariant-push_items-items
invariant-push_items-items l =
    (n : ℕ) × (length l.reader ≤ n)
    × (skip_items l.depth l.initial.reader ≡ left (items (value l.depth) n l.reader))
    × (length l.reader ≤ length l.initial.reader)
    × Grown l.initial.nodes.items l.initial.reader l.nodes.items l.reader
    × (l.at < length l.nodes.items)

abbrev pub decreases-push_items-items : goal.decreases-push_items-items
decreases-push_items-items l = length l.reader

abbrev pub invariant-push_members-members : goal.invariant-push_members-members
invariant-push_members-members l =
    (n : ℕ) × (length l.reader ≤ n)
    × (skip_members l.depth l.initial.reader ≡ left (members (value l.depth) n l.reader))
    × (length l.reader ≤ length l.initial.reader)
    × Grown l.initial.nodes.items l.initial.reader l.nodes.items l.reader
    × (l.at < length l.nodes.items)

abbrev pub decreases-push_members-members : goal.decreases-push_members-members
decreases-push_members-members l = length l.reader
