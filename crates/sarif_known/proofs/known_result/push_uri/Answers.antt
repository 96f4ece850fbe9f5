use Rattle.std.proofs.Common.{Some, codes, option_map, ap, sym, ◌∙◌, ◌++◌}
use Rattle.serde_json.specs.Data.{string}
use Rattle.sarif_known.specs.Chosen.{known_as}
use Rattle.sarif_known.specs.KnownResult.{region_for}
use Rattle.sarif_known.specs.Internal.Tokens.{opened, closed, value_tokens}
use Rattle.sarif_known.proofs.TokensOf.{four, uri_tokens}
use Rattle.sarif_known.proofs.known_result.push_uri.Goals as goal

pub returns : goal.returns
returns c =
    let written = known_as c.args.regions c.args.found.now in
    four c.args.out.now opened (value_tokens (codes "uri") (Some (string c.args.uri.now)))
    (value_tokens (codes "uriBaseId") (option_map string c.args.base.now))
    (closed (region_for written.region written.snippet))
    _ _ _ _ c.in_ok-open_location.ensures (rw (← c.as_str.ensures) c.in_ok-push_text.ensures) c.in_ok-push_text_if.ensures c.in_ok-close_location.ensures
    ∙ ap (λ ts. c.args.out.now ++ ts) (sym (uri_tokens c.args.uri.now c.args.base.now (region_for written.region written.snippet)))
