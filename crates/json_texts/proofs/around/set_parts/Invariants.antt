use Rattle.std.proofs.Common.{◌≡◌, drop}
use Rattle.json_texts.specs.Around.{set_texts}
use Rattle.json_texts.specs.Internal.Parts.{AreParts, named_at}
use Rattle.json_texts.proofs.around.set_parts.Given as goal

abbrev pub invariant-members : goal.invariant-members
invariant-members l =
    (set_texts (drop l.member-index l.set) (named_at l.keeps_numbers l.list.items) ≡ set_texts l.set (named_at l.keeps_numbers l.fn.list.items))
    × AreParts l.list.items
