use Rattle.std.proofs.Common.{◌≡◌, [], ◌∷◌, string_bytes, refl, ap₂, ◌∙◌}
use Rattle.serde_json.specs.Data.{string, array}
use Rattle.serde_json.specs.View.{items_view}
use Rattle.serde_json.specs.Written.{compact_text}
use Rattle.sarif_model.specs.Level.{level_name}
use Rattle.sarif_results.proofs.draft.text_from.Goals as goal

pub returns : goal.returns
returns c =
    let list = items_view c.args.list.items in
    let listed : string_bytes c.in_ok-listed.listed ≡ compact_text (array list) = c.in_ok-listed.ensures in
    c.text_around.ensures.stripped refl (array list ∷ string (level_name c.args.level) ∷ [])
    (ap₂ (λ a b. a ∷ b ∷ []) (c.as_str.ensures.value ∙ listed) c.level_text.ensures)
