use Rattle.std.proofs.Common.{◌≡◌, ◌==◌, ◌∙◌, ◌++◌, ◌∷◌, [], false, length, map, ap, sym, codes, List, ℕ}
use Rattle.json.specs.Token.{key, begin_array, end_array}
use Rattle.sarif_known.specs.KnownRun.{artifact_at, bases_alone}
use Rattle.sarif_known.specs.Internal.Tokens.{each_tokens}
use Rattle.sarif_known.proofs.TokensOf.{four, list_tokens}
use Rattle.sarif_known.proofs.RunsAdded.{artifacts_lost}
use Rattle.sarif_known.proofs.known_run.push_artifacts_if.Goals as goal

pub returns-clause-added : goal.returns-clause-added
returns-clause-added c =
    let bases : List (List ℕ) = bases_alone (map (λ r. r.now) c.args.records.now) in
    let some : (length bases == 0) ≡ false = sym c.none_alone.ensures ∙ c.if-none_alone.false in
    four c.args.out.now (key (codes "artifacts") ∷ []) (begin_array ∷ []) (each_tokens (map artifact_at bases)) (end_array ∷ [])
    _ _ _ _ c.in_ok-token.ensures c.in_ok-token-2.ensures c.in_default.ensures.added c.in_ok-token-3.ensures
    ∙ ap (λ ts. c.args.out.now ++ ts) (sym (list_tokens (codes "artifacts") artifact_at bases some))

pub returns-in-Err-clause-lost : goal.returns-in-Err-clause-lost
returns-in-Err-clause-lost c =
    artifacts_lost c.args.out.now c.token.new.self c.token-2.new.self (bases_alone (map (λ r. r.now) c.args.records.now)) c.in-Err.fault
    (sym c.none_alone.ensures ∙ c.if-none_alone.false)
    c.in_ok-token.ensures c.in_ok-token-2.ensures c.in-Err.ensures.lost
