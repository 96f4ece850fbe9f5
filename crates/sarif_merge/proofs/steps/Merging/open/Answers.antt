use Rattle.std.proofs.Common.{◌≡◌, ℕ, List, Err, length, refl, rules, sym, subst}
use Rattle.std.proofs.lemmas.Result.{err_from_is_err_and}
use Rattle.std.specs.Prelude.{IfErr}
use Rattle.sarif_inputs.specs.Internal.Indexes.{AreIndexesOf}
use Rattle.sarif_merge.specs.Internal.Steps.{IsRejection, inputs_in}
use Rattle.sarif_merge.proofs.StepFacts.{are_indexes_in, baselines_opened, logs_opened, rejected_sources, sources_read}
use Rattle.sarif_merge.proofs.steps.Merging.open.Goals as goal

pub open_sources-requires-clause-indexes : goal.open_sources-requires-clause-indexes
open_sources-requires-clause-indexes g c κs within =
    let inputs = inputs_in c.args.self.now in
    let count : c.len-logs.result ≡ length c.args.self.now.sources.now.logs.items = search rules in
    let found : (logs : List (List ℕ)) × (baselines : List (List ℕ)) × AreIndexesOf logs baselines c.args.indexes.now c.len-logs.result = (
      inputs.logs,
      inputs.baselines,
      subst (AreIndexesOf inputs.logs inputs.baselines c.args.indexes.now) (sym count) (are_indexes_in c.args.self.now c.args.indexes.now c.requires.indexes),
    ) in
    found

pub returns-in_err-runs-clause-refused : goal.returns-in_err-runs-clause-refused
returns-in_err-runs-clause-refused g c =
    let inputs = inputs_in c.args.self.now in
    let count : c.len-logs.result ≡ length c.args.self.now.sources.now.logs.items = search rules in
    let are =
    subst (AreIndexesOf inputs.logs inputs.baselines c.args.indexes.now) (sym count)
    (are_indexes_in c.args.self.now c.args.indexes.now c.requires.indexes) in
    let fault = c.in_err-runs.field-0.0 in
    let p = err_from_is_err_and c.from_residual.result c.from_residual.ensures.1 in
    let is : c.from_residual.result ≡ Err fault = rw (p.1, p.2) refl in
    subst (λ r. IfErr r (IsRejection c.args.self.now)) (sym is)
    (rejected_sources c.args.self.now c.args.indexes.now fault c.requires.indexes (c.in_err-runs.ensures.faults inputs.logs inputs.baselines are)
    c.in_err-runs.ensures.quiet)

pub returns-clause-logs : goal.returns-clause-logs
returns-clause-logs g c =
    let inputs = inputs_in c.args.self.now in
    let count : c.len-logs.result ≡ length c.args.self.now.sources.now.logs.items = search rules in
    let are =
    subst (AreIndexesOf inputs.logs inputs.baselines c.args.indexes.now) (sym count)
    (are_indexes_in c.args.self.now c.args.indexes.now c.requires.indexes) in
    logs_opened c.args.self.now c.in_ok-runs.runs (c.in_ok-runs.ensures.runs inputs.logs inputs.baselines are)

pub returns-clause-baselines : goal.returns-clause-baselines
returns-clause-baselines g c =
    let inputs = inputs_in c.args.self.now in
    let count : c.len-logs.result ≡ length c.args.self.now.sources.now.logs.items = search rules in
    let are =
    subst (AreIndexesOf inputs.logs inputs.baselines c.args.indexes.now) (sym count)
    (are_indexes_in c.args.self.now c.args.indexes.now c.requires.indexes) in
    baselines_opened c.args.self.now c.in_ok-runs.runs (c.in_ok-runs.ensures.runs inputs.logs inputs.baselines are)

pub returns-clause-read : goal.returns-clause-read
returns-clause-read g c =
    let inputs = inputs_in c.args.self.now in
    let count : c.len-logs.result ≡ length c.args.self.now.sources.now.logs.items = search rules in
    let are =
    subst (AreIndexesOf inputs.logs inputs.baselines c.args.indexes.now) (sym count)
    (are_indexes_in c.args.self.now c.args.indexes.now c.requires.indexes) in
    sources_read c.args.self.now c.in_ok-runs.runs (c.in_ok-runs.ensures.runs inputs.logs inputs.baselines are)
