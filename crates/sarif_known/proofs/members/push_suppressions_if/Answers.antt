use Rattle.std.proofs.Common.{◌≡◌, ◌==◌, ◌∙◌, ◌++◌, ◌∷◌, [], false, length, map, ap, sym, codes}
use Rattle.json.specs.Token.{key, begin_array, end_array}
use Rattle.sarif_known.specs.KnownResult.{suppression_for}
use Rattle.sarif_known.specs.Internal.Tokens.{each_tokens}
use Rattle.sarif_known.proofs.TokensOf.{four, list_tokens}
use Rattle.sarif_known.proofs.members.push_suppressions_if.Goals as goal

pub returns : goal.returns
returns c =
    let some : (length c.args.held.now == 0) ≡ false = ap (λ l. length l == 0) (sym c.as_slice-held.ensures) ∙ sym c.is_empty.ensures ∙ c.if-is_empty.false in
    four c.args.out.now (key (codes "suppressions") ∷ []) (begin_array ∷ []) (each_tokens (map suppression_for c.args.held.now)) (end_array ∷ [])
    _ _ _ _ c.in_ok-token.ensures c.in_ok-token-2.ensures
    (c.in_ok-push_suppressions.ensures ∙ ap (λ l. c.token-2.new.self ++ each_tokens (map suppression_for l)) c.as_slice-held.ensures)
    c.in_ok-token-3.ensures
    ∙ ap (λ ts. c.args.out.now ++ ts) (sym (list_tokens (codes "suppressions") suppression_for c.args.held.now some))
