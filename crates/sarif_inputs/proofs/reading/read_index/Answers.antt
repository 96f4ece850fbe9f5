use Rattle.std.proofs.Common.{rules, ◌≡◌, Err, subst, sym}
use Rattle.std.specs.Prelude.{Ok}
use Rattle.sarif_inputs.specs.Internal.Together.{IsIndexed}
use Rattle.sarif_read.specs.Internal.ReadRefusal.{refusal_of_index}
use Rattle.json_parts.specs.Mark.{without_mark}
use Rattle.sarif_inputs.specs.Internal.Parsed.{IsParsedFrom}
use Rattle.sarif_inputs.proofs.ReadIndexes.{read_of_index, read_without_index}
use Rattle.sarif_inputs.proofs.reading.read_index.Goals as goal

pub returns-in-Ok : goal.returns-in-Ok
returns-in-Ok c = λ bytes indexed.
    let found = c.in-Ok.found in
    let is : c.args.index.now ≡ Ok found = search rules in
    let known = subst (λ r. IsIndexed (without_mark bytes) r) is indexed in
    read_of_index c.args.allow_external bytes found c.index_log.result known.0 c.index_log.ensures.ok c.index_log.ensures.few
    c.index_log.ensures.few_runs c.index_log.ensures.err

pub returns-in-Err : goal.returns-in-Err
returns-in-Err c = λ bytes indexed.
    let fault = c.in-Err.fault in
    let is : c.args.index.now ≡ Err fault = search rules in
    let same : c.refused_text.result ≡ refusal_of_index fault = search rules in
    subst (λ e. IsParsedFrom c.args.allow_external bytes (Err e)) (sym same)
    (read_without_index c.args.allow_external bytes fault (subst (λ r. IsIndexed (without_mark bytes) r) is indexed))
