use Rattle.std.proofs.Common.{length, sym, ap, ◌∙◌, subst, arith}
use Rattle.sarif_prepare.specs.Internal.Together.{ArePaired}
use Rattle.sarif_prepare.proofs.MatchedRecords.{matched_records}
use Rattle.sarif_prepare.proofs.pairing.pair_sides.Goals as goal

pub pair_results-requires-clause-few : goal.pair_results-requires-clause-few
pair_results-requires-clause-few g c κs within =
    let found = c.requires.found.3 in
    let many = ap length found.is_current.records in
    let same = ap length c.deref.ensures.value in
    omega (arith, many, same, found.few_current)

pub pair_results-requires-clause-before : goal.pair_results-requires-clause-before
pair_results-requires-clause-before g c κs within = (c.requires.found.2, c.requires.found.3.are_baselines, c.requires.found.3.few_baseline)

pub returns-clause-together : goal.returns-clause-together
returns-clause-together g c = λ file now before found changes. record {
  is_current = c.in_ok-current.ensures file now found.is_current changes;
  are_baselines = found.are_baselines;
  current_are_runs = found.current_are_runs;
  baseline_are_runs = found.baseline_are_runs;
  current_records = found.current_records;
  few_runs = found.few_runs;
  few_current = found.few_current;
  few_baseline = found.few_baseline;
}

pub returns-clause-paired : goal.returns-clause-paired
returns-clause-paired g c =
    let file = c.requires.found.0 in
    let now = c.requires.found.1 in
    let found = c.requires.found.3 in
    let made = c.in_ok-current.ensures file now found.is_current c.requires.found.4 in
    let q = c.in_ok-paired.ensures in
    subst (λ rs. ArePaired c.args.options.now.checks.matching rs c.args.baselines c.in_ok-paired.paired)
    (c.deref.ensures.value ∙ found.is_current.records ∙ sym (matched_records file now c.in_ok-current.current made)) q
