use Rattle.std.proofs.Common.{◌∙◌, codes}
use Rattle.sarif_known.proofs.TokensOf.{guid_tokens}
use Rattle.sarif_known.proofs.members.push_guid.Goals as goal

pub returns-in_ok-push_text : goal.returns-in_ok-push_text
returns-in_ok-push_text c =
    guid_tokens (codes "correlationGuid") c.args.out.now c.push_text.new.out c.encode_lower-text.result.now c.hyphenated.result c.in-Some.guid c.args.guid
    c.in-Some.is (c.hyphenated.ensures ∙ c.from_u128.ensures) c.encode_lower-text.ensures.text c.in_ok-push_text.ensures
