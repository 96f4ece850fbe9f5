use Rattle.std.proofs.Common.{◌<◌, length, refl, arith}
use Rattle.sarif_accept.specs.Adding.{may_hit}
use Rattle.sarif_upkeep.proofs.Walked.{absent_next}
use Rattle.sarif_upkeep.proofs.staying.absent_hits.Goals as goal

pub loop-number-preserved : goal.loop-number-preserved
loop-number-preserved c =
    let rs = c.args.records.now in
    let taken = c.args.taken.now in
    let n = c.loop-number.number in
    let within : n < length rs = c.loop-number-test.true in
    let in_taken : n < length taken = omega (arith, within, c.requires) in record {
      counted = λ file.
          absent_next (may_hit c.args.policy) file rs taken n c.index-records-number.result _ _ _ c.loop-number.count _ _
          within in_taken c.index-records-number.is refl (c.count_absent-count.ensures.count file) (c.loop-number.invariant.counted file);
      few = omega (arith, c.loop-number.invariant.few, c.count_absent-count.ensures.few);
    }
