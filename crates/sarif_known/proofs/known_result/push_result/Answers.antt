use Rattle.std.proofs.Common.{◌∷◌, [], ◌++◌, ◌∙◌, ap, sym}
use Rattle.json.specs.Token.{begin_object, end_object}
use Rattle.sarif_known.specs.Chosen.{known_as}
use Rattle.sarif_known.specs.Internal.Tokens.{first_tokens, last_tokens}
use Rattle.sarif_known.proofs.TokensOf.{four, result_tokens}
use Rattle.sarif_known.proofs.known_result.push_result.Goals as goal

pub returns : goal.returns
returns c =
    let written = known_as c.args.regions c.args.found.now in
    four c.args.out.now (begin_object ∷ []) (first_tokens written c.args.artifact) (last_tokens written) (end_object ∷ [])
    _ _ _ _ c.in_ok-token.ensures c.in_ok-push_first_members.ensures c.in_ok-push_last_members.ensures c.in_ok-token-2.ensures
    ∙ ap (λ ts. c.args.out.now ++ ts) (sym (result_tokens written c.args.artifact))
