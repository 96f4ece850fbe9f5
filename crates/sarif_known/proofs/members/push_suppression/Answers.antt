use Rattle.std.proofs.Common.{◌∷◌, [], Some, codes}
use Rattle.json.specs.Token.{begin_object, end_object}
use Rattle.serde_json.specs.Data.{string}
use Rattle.sarif_model.specs.Status.{status_name}
use Rattle.sarif_known.specs.Internal.Tokens.{value_tokens}
use Rattle.sarif_known.proofs.TokensOf.{four}
use Rattle.sarif_known.proofs.members.push_suppression.Goals as goal

pub returns : goal.returns
returns c =
    four c.args.out.now (begin_object ∷ []) (value_tokens (codes "kind") (Some (string (codes "external"))))
    (value_tokens (codes "status") (Some (string (status_name c.args.status)))) (end_object ∷ [])
    _ _ _ _ c.in_ok-token.ensures c.in_ok-push_text.ensures (rw (← c.name.ensures) c.in_ok-push_text-2.ensures) c.in_ok-token-2.ensures
