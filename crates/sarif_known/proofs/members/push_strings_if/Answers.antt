use Rattle.std.proofs.Common.{◌≡◌, ◌==◌, ◌∙◌, ◌++◌, ◌∷◌, [], false, length, map, ap, sym}
use Rattle.json.specs.Token.{key, begin_array, end_array}
use Rattle.serde_json.specs.Data.{string}
use Rattle.sarif_known.specs.Internal.Tokens.{each_tokens}
use Rattle.sarif_known.proofs.TokensOf.{four, list_tokens}
use Rattle.sarif_known.proofs.members.push_strings_if.Goals as goal

pub returns : goal.returns
returns c =
    let some : (length c.args.texts.now == 0) ≡ false = ap (λ l. length l == 0) (sym c.as_slice-texts.ensures) ∙ sym c.is_empty.ensures ∙ c.if-is_empty.false in
    four c.args.out.now (key c.args.name.now ∷ []) (begin_array ∷ []) (each_tokens (map string c.args.texts.now)) (end_array ∷ [])
    _ _ _ _ c.in_ok-token.ensures c.in_ok-token-2.ensures
    (c.in_ok-push_strings.ensures ∙ ap (λ l. c.token-2.new.self ++ each_tokens (map string l)) c.as_slice-texts.ensures)
    c.in_ok-token-3.ensures
    ∙ ap (λ ts. c.args.out.now ++ ts) (sym (list_tokens c.args.name.now string c.args.texts.now some))
