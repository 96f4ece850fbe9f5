use Rattle.sarif_program.specs.Lost.{IsCut}
use Rattle.sarif_program.proofs.Lost.{cut_after, on_err}
use Rattle.sarif_program.proofs.writing.put_out.Goals as goal

-- the whole text was written, and the output could not be ended
pub returns-in_err-write-in-Ok-clause-cut : goal.returns-in_err-write-in-Ok-clause-cut
returns-in_err-write-in-Ok-clause-cut g c =
    let contents = g.W.Write.contents in
    let cut : IsCut contents c.args.text.now c.args.out.now c.write.new.self =
    cut_after contents c.args.text.now c.args.out.now c.write_out.new.out c.write.new.self c.in-Ok.ensures.counted
    c.in_err-write-in-Ok.ensures.counted c.in-Ok.ensures.ok
    c.in_err-write-in-Ok.ensures.bytes in
    on_err c.from_residual.result cut
