use Rattle.std.proofs.Common.{◌∷◌, [], codes, map}
use Rattle.json.specs.Token.{key, begin_array, begin_object}
use Rattle.sarif_model.specs.Written.{list_if_any}
use Rattle.sarif_known.specs.KnownRun.{artifact_at, bases_alone}
use Rattle.sarif_known.specs.Internal.Tokens.{value_tokens}
use Rattle.sarif_known.proofs.RunsAdded.{opening_lost}
use Rattle.sarif_known.proofs.TokensOf.{four}
use Rattle.sarif_known.proofs.known_run.open_run.Goals as goal

pub returns-in-Err-clause-lost : goal.returns-in-Err-clause-lost
returns-in-Err-clause-lost c =
    opening_lost c.args.out.now c.token.new.self (map (λ r. r.now) c.args.records.now) c.in-Err.fault c.in_ok-token.ensures c.in-Err.ensures.lost

pub returns-clause-added : goal.returns-clause-added
returns-clause-added c =
    four c.args.out.now (begin_object ∷ [])
    (value_tokens (codes "artifacts") (list_if_any (map artifact_at (bases_alone (map (λ r. r.now) c.args.records.now)))))
    (key (codes "results") ∷ []) (begin_array ∷ [])
    _ _ _ _ c.in_ok-token.ensures c.in_default.ensures.added c.in_ok-token-2.ensures c.in_ok-token-3.ensures
