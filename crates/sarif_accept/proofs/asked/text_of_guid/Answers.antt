use Rattle.std.proofs.Common.{◌≡◌, ap, ◌∙◌}
use Rattle.uuid.specs.Text.{lower, hyphenated_text}
use Rattle.sarif_model.specs.Guid.{guid_text}
use Rattle.sarif_accept.proofs.asked.text_of_guid.Goals as goal

pub returns : goal.returns
returns c =
    let is : c.encode_lower-text.result.now ≡ guid_text c.args.guid = c.encode_lower-text.ensures.text
    ∙ ap (hyphenated_text lower) (c.hyphenated.ensures ∙ c.from_u128.ensures) in
    rw is at c.try_from_str.ensures
