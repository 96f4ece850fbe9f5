use Rattle.std.proofs.Common.{◌≡◌, ◌∙◌, ◌++◌, ◌∷◌, ◌+◌, drop, map, ap, sym, List}
use Rattle.std.proofs.lemmas.List.{drop_more}
use Rattle.json.specs.Token.{Token}
use Rattle.sarif_model.specs.declared.record.Record.{Record}
use Rattle.sarif_known.specs.KnownRun.{artifact_at, bases_alone}
use Rattle.sarif_known.specs.Internal.Tokens.{data_tokens, each_tokens}
use Rattle.sarif_known.proofs.Lost.{part_lost}
use Rattle.sarif_known.proofs.RunsAdded.{step_artifacts}
use Rattle.sarif_known.proofs.known_run.push_artifacts.Goals as goal

pub returns-in-Err-clause-lost : goal.returns-in-Err-clause-lost
returns-in-Err-clause-lost c =
    let rs : List Record = map (λ r. r.now) (drop (c.loop-found.found-index + 1) c.args.records.now) in
    let r : Record = c.found-item.result.now in
    let whole : List Token = c.args.out.now ++ each_tokens (map artifact_at (bases_alone (map (λ r. r.now) c.args.records.now))) in
    let these : drop c.loop-found.found-index c.args.records.now ≡ c.found-item.result ∷ drop (c.loop-found.found-index + 1) c.args.records.now =
    drop_more c.args.records.now c.loop-found.found-index c.found-item.result c.loop-found-test.true
    ∙ ap (λ x. x ∷ drop (c.loop-found.found-index + 1) c.args.records.now) (sym c.found-item.is) in
    let so_far : c.loop-found.out ++ each_tokens (map artifact_at (bases_alone (r ∷ rs))) ≡ whole =
    ap (λ xs. c.loop-found.out ++ each_tokens (map artifact_at (bases_alone (map (λ r. r.now) xs)))) (sym these) ∙ c.loop-found.invariant.added in
    part_lost (c.loop-found.out ++ data_tokens (artifact_at c.in-Some.base.now)) (each_tokens (map artifact_at (bases_alone rs))) whole c.in-Err.fault
    (step_artifacts c.loop-found.out whole r rs c.in-Some.base.now (sym c.in-Some.ensures) so_far) c.in-Err.ensures.lost
