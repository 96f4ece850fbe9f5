use Rattle.std.proofs.Common.{◌∷◌, [], codes}
use Rattle.json.specs.Token.{key, begin_object, end_object}
use Rattle.serde_json.specs.Data.{member, no_members, object, string}
use Rattle.sarif_known.specs.Internal.Tokens.{data_tokens}
use Rattle.sarif_known.proofs.TokensOf.{four}
use Rattle.sarif_known.proofs.known_run.push_artifact_at.Goals as goal

pub returns : goal.returns
returns c =
    four c.args.out.now (begin_object ∷ []) (key (codes "location") ∷ [])
    (data_tokens (object (member (codes "uriBaseId") (string c.args.base.now) no_members))) (end_object ∷ [])
    _ _ _ _ c.in_ok-token.ensures c.in_ok-token-2.ensures c.in_ok-push_object_of.ensures c.in_ok-token-3.ensures
