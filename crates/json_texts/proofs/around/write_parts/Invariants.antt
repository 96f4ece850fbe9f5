use Rattle.std.proofs.Common.{◌≡◌, ◌++◌, drop}
use Rattle.std.specs.Str.{IsUtf8}
use Rattle.json.specs.Print.{ends_value}
use Rattle.json_texts.specs.Internal.Parts.{AreParts, parts_text, closed}
use Rattle.json_texts.proofs.around.write_parts.Given as goal

abbrev pub invariant-parts : goal.invariant-parts
invariant-parts l =
    let left = drop l.part-index l.list in
    (closed l.out.before l.out.tokens ++ parts_text l.keeps_numbers left ≡ l.fn.bytes.items ++ parts_text l.keeps_numbers l.list)
    × (ends_value l.out.tokens ≡ l.ends) × AreParts left × (IsUtf8 l.fn.bytes.items → IsUtf8 l.out.before)
