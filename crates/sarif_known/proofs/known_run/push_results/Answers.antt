use Rattle.std.proofs.Common.{◌≡◌, ◌∙◌, ◌++◌, ◌∷◌, ◌+◌, drop, map, ap, sym, arith, List}
use Rattle.std.proofs.lemmas.List.{drop_more}
use Rattle.json.specs.Token.{Token}
use Rattle.sarif_model.specs.declared.record.Record.{Record}
use Rattle.sarif_known.specs.Chosen.{known_as}
use Rattle.sarif_known.specs.KnownRun.{results_from}
use Rattle.sarif_known.specs.Internal.Tokens.{each_tokens}
use Rattle.sarif_known.proofs.Lengths.{long_enough, short_enough}
use Rattle.sarif_known.proofs.Lost.{front_lost}
use Rattle.sarif_known.proofs.TokensOf.{step_results}
use Rattle.sarif_known.proofs.known_run.push_results.Goals as goal

pub returns-then-is_long-clause-lost : goal.returns-then-is_long-clause-lost
returns-then-is_long-clause-lost c =
    let rs : List Record = map (λ r. known_as c.args.regions r.now) (drop (c.loop-found.found-index + 1) c.args.records.now) in
    let r : Record = known_as c.args.regions c.found-item.result.now in
    let whole : List Token = c.args.out.now ++ each_tokens (results_from 0 (map (λ r. known_as c.args.regions r.now) c.args.records.now)) in
    let these : drop c.loop-found.found-index c.args.records.now ≡ c.found-item.result ∷ drop (c.loop-found.found-index + 1) c.args.records.now =
    drop_more c.args.records.now c.loop-found.found-index c.found-item.result c.loop-found-test.true
    ∙ ap (λ x. x ∷ drop (c.loop-found.found-index + 1) c.args.records.now) (sym c.found-item.is) in
    let so_far : c.loop-found.out ++ each_tokens (results_from c.loop-found.next (r ∷ rs)) ≡ whole =
    ap (λ xs. c.loop-found.out ++ each_tokens (results_from c.loop-found.next (map (λ r. known_as c.args.regions r.now) xs))) (sym these)
    ∙ c.loop-found.invariant.added in
    front_lost c.push_result.new.out _ whole c.too_long.result
    (step_results c.loop-found.out c.push_result.new.out whole c.loop-found.next r rs c.artifact_number.result c.artifact_number.ensures
    c.in_ok-push_result.ensures so_far)
    c.too_long.ensures (long_enough c.push_result.new.out (sym c.is_long.ensures ∙ c.if-is_long.true))

pub loop-found-preserved : goal.loop-found-preserved
loop-found-preserved c =
    let rs : List Record = map (λ r. known_as c.args.regions r.now) (drop (c.loop-found.found-index + 1) c.args.records.now) in
    let r : Record = known_as c.args.regions c.found-item.result.now in
    let whole : List Token = c.args.out.now ++ each_tokens (results_from 0 (map (λ r. known_as c.args.regions r.now) c.args.records.now)) in
    let these : drop c.loop-found.found-index c.args.records.now ≡ c.found-item.result ∷ drop (c.loop-found.found-index + 1) c.args.records.now =
    drop_more c.args.records.now c.loop-found.found-index c.found-item.result c.loop-found-test.true
    ∙ ap (λ x. x ∷ drop (c.loop-found.found-index + 1) c.args.records.now) (sym c.found-item.is) in
    let so_far : c.loop-found.out ++ each_tokens (results_from c.loop-found.next (r ∷ rs)) ≡ whole =
    ap (λ xs. c.loop-found.out ++ each_tokens (results_from c.loop-found.next (map (λ r. known_as c.args.regions r.now) xs))) (sym these)
    ∙ c.loop-found.invariant.added in
    let more = step_results c.loop-found.out c.push_result.new.out whole c.loop-found.next r rs c.artifact_number.result
    c.artifact_number.ensures c.in_ok-push_result.ensures so_far in
    record {
      added = ap (λ n. c.push_result.new.out ++ each_tokens (results_from n rs)) c.next_number-next.ensures.value ∙ more;
      short = λ _. short_enough c.push_result.new.out (sym c.is_long.ensures ∙ c.if-is_long.false);
      small = omega (arith, c.next_number-next.ensures.bound, c.loop-found.invariant.small);
    }
