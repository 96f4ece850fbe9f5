use Rattle.std.proofs.Common.{arith, rules, length-drop}
use Rattle.std.proofs.KnownBytes.{Appends-trans}
use Rattle.std.proofs.Math.Seq.{take-add}
use Rattle.std.proofs.lemmas.List.{take_rest}
use Rattle.sarif_streams.proofs.writing.write_out.Goals as goal

pub loop-done-preserved : goal.loop-done-preserved
loop-done-preserved g c =
    let bytes = c.args.bytes.now in
    let done = c.loop-done.done in
    let left = rw (take_rest bytes done) at c.in-Ok.ensures.bound in
    record {
      within = omega (arith, length-drop done bytes, left);
      wrote = rw (take-add done c.in-Ok.taken bytes)
          (Appends-trans _ _ _ _ _ c.loop-done.invariant.wrote (rw (take_rest bytes done) at c.in-Ok.ensures.bytes));
      quiet = search rules;
    }
