use Rattle.std.proofs.Common.{rules, ◌≡◌, ◌≤◌, ◌+◌, ◌⊎◌, Some, length, map, sym, subst, arith}
use Rattle.std.proofs.lemmas.List.{length-map}
use Rattle.std.proofs.lemmas.Result.{err_from_is_err_and, IfOk-at_ok}
use Rattle.sarif_read.specs.Internal.Indexed.{run_of}
use Rattle.sarif_model.specs.Run.{results_total}
use Rattle.sarif_model.specs.FirstFault.{first, IsOutOfResources}
use Rattle.sarif_inputs.specs.SourceFaults.{limit_faults}
use Rattle.sarif_inputs.proofs.SourceRuns.{counted_more}
use Rattle.sarif_inputs.proofs.sources.ReadSoFar.add.Goals as goal
use Rattle.sarif_model.specs.Limits.{most_results, most_runs}

pub count_results-requires : goal.count_results-requires
count_results-requires c =
    let given = c.requires.parsed in
    let few = IfOk-at_ok (λ log. results_total (map run_of log.items) ≤ most_results) c.in_ok-log.ensures.same given.1.few_results in
    subst (λ runs. results_total (map run_of runs) ≤ most_results) (sym c.as_slice.ensures.value) few

pub returns-in_err-check_limits-clause-faults : goal.returns-in_err-check_limits-clause-faults
returns-in_err-check_limits-clause-faults c = λ bytes parsed.
    let log = c.in_ok-log.log.items in
    let source = c.args.source in
    let runs = length c.args.self.now.runs.items in
    let results = c.args.self.now.results in
    let p = err_from_is_err_and c.from_residual-in_err-check_limits.result c.from_residual-in_err-check_limits.ensures.1 in
    let e = c.in_err-check_limits.field-0.0 in
    let is = c.in_ok-log.ensures.runs c.args.checks.now.allow_external bytes parsed in
    let long : c.len.result + c.len-2.result ≡ runs + length (map run_of log) =
    let before : c.len.result ≡ runs = search rules in
    let here : c.len-2.result ≡ length log = search rules in omega (arith, before, here, length-map log run_of) in
    let total : results + c.count_results.result ≡ results + results_total (map run_of log) =
    let here : c.count_results.result ≡ results_total (map run_of log) = search rules in omega (arith, here) in
    let refused = subst (λ n. IsOutOfResources e ⊎ (first (limit_faults source n (results + c.count_results.result)) ≡ Some e)) long
    c.in_err-check_limits.ensures.faults in
    rw (p.1, p.2) (rw is (subst (λ n. IsOutOfResources e ⊎ (first (limit_faults source (runs + length (map run_of log)) n) ≡ Some e)) total refused))

pub place_runs-requires-clause-whole : goal.place_runs-requires-clause-whole
place_runs-requires-clause-whole c =
    let given = c.requires.parsed in
    let is = c.in_ok-log.ensures.runs c.args.checks.now.allow_external given.0 given.1 in
    c.read_runs_hold_no_fraction.ensures c.args.checks.now.allow_external given.0 (map run_of c.in_ok-log.log.items) is

pub returns-clause-counted : goal.returns-clause-counted
returns-clause-counted c =
    let old = c.args.self.now.runs.items in
    let log = c.in_ok-log.log.items in
    let more = counted_more c.args.checks.now old c.place_runs.new.all.items c.args.source (map run_of log) (search rules) in
    let few : length old + length log ≤ most_runs = search rules in
    let results : c.count_results.result ≡ results_total (map run_of log) = search rules in
    (omega (arith, more.0, few, length-map log run_of), search rules, omega (arith, more.1, results, c.requires.counted.2))
