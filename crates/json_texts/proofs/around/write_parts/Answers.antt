use Rattle.std.proofs.Common.{◌++◌, sym, ap, ap₂, ◌∙◌, subst}
use Rattle.std.specs.Str.{IsUtf8}
use Rattle.json.specs.Print.{ends_value}
use Rattle.json_texts.specs.Internal.Parts.{closed, parts_text}
use Rattle.json_texts.proofs.Parts.{closed_none}
use Rattle.json_texts.proofs.around.write_parts.Goals as goal

pub parts-init : goal.parts-init
parts-init c =
    let before = c.new-out.ensures.before in
    let tokens = c.new-out.ensures.tokens in (
      ap (λ s. s ++ parts_text c.args.keeps_numbers c.args.list.now) (ap₂ closed before tokens ∙ closed_none c.args.bytes.items),
      ap ends_value tokens,
      c.requires,
      λ h. subst IsUtf8 (sym before) h,
    )
