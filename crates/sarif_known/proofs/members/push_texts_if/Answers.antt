use Rattle.std.proofs.Common.{◌≡◌, ◌==◌, ◌∙◌, ◌++◌, ◌∷◌, [], false, length, ap, sym}
use Rattle.json.specs.Token.{key, begin_object, end_object}
use Rattle.sarif_known.specs.Internal.Tokens.{pairs_tokens}
use Rattle.sarif_known.proofs.TokensOf.{four, texts_tokens}
use Rattle.sarif_known.proofs.members.push_texts_if.Goals as goal

pub returns : goal.returns
returns c =
    let some : (length c.args.pairs.now == 0) ≡ false = ap (λ l. length l == 0) (sym c.as_slice-pairs.ensures) ∙ sym c.is_empty.ensures ∙ c.if-is_empty.false in
    four c.args.out.now (key c.args.name.now ∷ []) (begin_object ∷ []) (pairs_tokens c.args.pairs.now) (end_object ∷ [])
    _ _ _ _ c.in_ok-token.ensures c.in_ok-token-2.ensures
    (c.in_ok-push_pairs.ensures ∙ ap (λ l. c.token-2.new.self ++ pairs_tokens l) c.as_slice-pairs.ensures) c.in_ok-token-3.ensures
    ∙ ap (λ ts. c.args.out.now ++ ts) (sym (texts_tokens c.args.name.now c.args.pairs.now some))
