use Rattle.std.proofs.Common.{Some, option_map, subst}
use Rattle.std.proofs.lemmas.Result.{IfOk-weaker}
use Rattle.sarif_merge.specs.FromReaders.{IsMergedWith}
use Rattle.sarif_program.proofs.run.merge_told.Goals as goal

-- what is lent is what is requested
pub returns-clause-merged : goal.returns-clause-merged
returns-clause-merged g c =
    let read = g.R.Read.remaining in
    let request = c.args.request.now in
    let old = c.args.readers.now in
    let new = c.merge_readers.new.readers in
    let reporting = option_map (λ reporting. reporting.now) c.as_ref-reporting.result in
    let choice = option_map (λ choosing. choosing.now) c.as_ref.result in
    IfOk-weaker c.merge_readers.result _
    (λ all. IsMergedWith read old new request.options c.args.made.now request.choice (Some request.upkeep) all.0)
    (λ all is.
    subst (λ chosen. IsMergedWith read old new request.options c.args.made.now chosen (Some request.upkeep) all.0) {x = choice} {y = request.choice}
    c.as_ref.ensures.value
    (subst (λ asked. IsMergedWith read old new request.options asked choice (Some request.upkeep) all.0) {x = reporting} {y = c.args.made.now}
    c.as_ref-reporting.ensures.value is))
    c.merge_readers.ensures.merged
