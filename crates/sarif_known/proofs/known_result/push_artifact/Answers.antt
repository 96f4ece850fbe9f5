use Rattle.std.proofs.Common.{Some, codes, ap, sym, ◌∙◌, ◌++◌}
use Rattle.serde_json.specs.Data.{number, unsigned}
use Rattle.sarif_known.specs.Chosen.{known_as}
use Rattle.sarif_known.specs.KnownResult.{region_for}
use Rattle.sarif_known.specs.Internal.Tokens.{opened, closed, value_tokens}
use Rattle.sarif_known.proofs.TokensOf.{three, index_tokens}
use Rattle.sarif_known.proofs.known_result.push_artifact.Goals as goal

pub returns : goal.returns
returns c =
    let written = known_as c.args.regions c.args.found.now in
    let region = region_for written.region written.snippet in
    three c.args.out.now opened (value_tokens (codes "index") (Some (number (unsigned c.args.artifact)))) (closed region)
    _ _ _ c.in_ok-open_location.ensures c.in_ok-push_number.ensures c.in_ok-close_location.ensures
    ∙ ap (λ ts. c.args.out.now ++ ts) (sym (index_tokens c.args.artifact region))
