use Rattle.std.proofs.Common.{◌≡◌, ◌++◌, drop}
use Rattle.json_parts.specs.Indexed.{json_at}
use Rattle.json_texts.specs.Whole.{written}
use Rattle.json_texts.specs.Around.{named, members_of}
use Rattle.json_texts.specs.Internal.Walking.{AreWritable, members_at, written_members}
use Rattle.json_texts.specs.Internal.Parts.{AreParts, named_at}
use Rattle.json_texts.proofs.around.parts_of.Given as goal

abbrev pub invariant-members : goal.invariant-members
invariant-members l =
    let left = drop l.found-index l.found-items in
    (named_at l.keeps_numbers l.list.items ++ named (written_members l.keeps_numbers (members_at left))
    ≡ named (members_of (written l.keeps_numbers (json_at l.element))))
    × AreWritable left × AreParts l.list.items
