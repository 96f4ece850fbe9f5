use Rattle.std.proofs.Common.{◌<◌, ◌^◌, ap, arith, false, true, get_or, rules}
use Rattle.std.proofs.lemmas.Grind.{common_steps}
use Rattle.std.proofs.lemmas.Result.{err_from_is_err_and}
use Rattle.std.proofs.lemmas.List.Elements.{All-get_or}
use Rattle.sarif_streams.specs.Counted.{failed_calls}
use Rattle.sarif_streams.proofs.ReadersRead.{no_fall, same_at, same_after}
use Rattle.sarif_program.proofs.Lost.{lost_at}
use Rattle.sarif_program.proofs.Rising.{none_falls_to}
use Rattle.sarif_program.proofs.Written.{taken_more}
use Rattle.sarif_program.proofs.writing.put_reports.Goals as goal

pub put_report-requires : goal.put_report-requires
put_report-requires g c =
    let i = c.loop-number.number in
    let d = c.index-writers-number.result in
    let given = c.args.writers.now in
    let few : failed_calls (get_or given i d).to < 2 ^ 63 = All-get_or (λ wanted. failed_calls wanted.to < 2 ^ 63) given i d (omega arith) c.requires.room in
    omega (arith, few, ap (λ wanted. failed_calls wanted.to) (same_at c.loop-number.writers given i d c.loop-number.invariant.left))

pub returns-in_err-put_report-clause-risen : goal.returns-in_err-put_report-clause-risen
returns-in_err-put_report-clause-risen g c =
    let i = c.loop-number.number in
    let d = c.index-writers-number.result in
    none_falls_to c.args.writers.now c.loop-number.writers i d c.put_report.new.writer (omega arith) c.loop-number.invariant.risen
    (no_fall true _ _ c.in_err-put_report.ensures.counted)

pub loop-number-preserved : goal.loop-number-preserved
loop-number-preserved g c =
    let i = c.loop-number.number in
    let d = c.index-writers-number.result in
    let given = c.args.writers.now in
    let now = c.loop-number.writers in
    let writer = c.put_report.new.writer in
    record {
      left = same_after now given i writer c.loop-number.invariant.left;
      taken = taken_more g.P.Write.contents c.args.texts.now given now i d writer c.index-texts-number.result
          (omega arith) (omega arith) c.loop-number.invariant.left c.loop-number.invariant.taken (search rules)
          c.in_ok-put_report.ensures.same c.in_ok-put_report.ensures.taken;
      quiet = grind (arith, common_steps, c.in_ok-put_report.ensures.counted, c.loop-number.invariant.quiet);
      risen = none_falls_to given now i d writer (omega arith) c.loop-number.invariant.risen (no_fall false _ _ c.in_ok-put_report.ensures.counted);
    }

pub returns-in_err-put_report-clause-lost : goal.returns-in_err-put_report-clause-lost
returns-in_err-put_report-clause-lost g c =
    let p = err_from_is_err_and c.from_residual.result c.from_residual.ensures.1 in
    let i = c.loop-number.number in
    let d = c.index-writers-number.result in
    rw (p.1, p.2)
    (λ told are. lost_at g.P.Write.contents told c.args.texts.now c.args.writers.now c.loop-number.writers i d c.put_report.new.writer
    c.index-texts-number.result _
    (omega arith) (omega arith) c.loop-number.invariant.left c.loop-number.invariant.taken (search rules)
    c.in_err-put_report.ensures.same c.in_err-put_report.ensures.lost c.in_err-put_report.ensures.cut are)
