use Rattle.std.proofs.Common.{◌<◌, map, length, refl, arith}
use Rattle.sarif_accept.specs.Adding.{may_hit}
use Rattle.sarif_upkeep.proofs.Walked.{applied_at, marked_end, marked_next}
use Rattle.sarif_upkeep.proofs.accepting.accepted_marked.Goals as goal

pub loop-number-preserved : goal.loop-number-preserved
loop-number-preserved c =
    let rs = c.args.records.now in
    let drafts = c.args.drafts.now in
    let states = c.args.states.now in
    let marks = c.args.marks.now in
    let n = c.loop-number.number in
    let within : n < length rs = c.loop-number-test.true in
    let in_drafts : n < length drafts = omega (arith, within, c.requires.drafts) in
    let in_states : n < length states = omega (arith, within, c.requires.states) in
    let in_marks : n < length marks = omega (arith, within, c.requires.marks) in record {
      accepted = λ file same.
          let applied = applied_at file rs drafts n c.index-records-number.result _ c.index-drafts-number.result _ within in_drafts
          c.index-records-number.is c.index-drafts-number.is same in
          marked_next (may_hit c.args.policy) file marks rs states n _ _ c.index-records-number.result _ _ _ (map (λ r. r.now) c.loop-number.accepted.items) _ _
          in_marks within in_states refl c.index-records-number.is refl (c.in_ok-push_if_marked.ensures.pushed file applied)
          (c.loop-number.invariant.accepted file same);
      few = omega (arith, c.loop-number.invariant.few, c.in_ok-push_if_marked.ensures.few);
    }

pub returns-clause-accepted : goal.returns-clause-accepted
returns-clause-accepted c = λ file same.
    marked_end (may_hit c.args.policy) file c.args.marks.now c.args.records.now c.args.states.now c.loop-number.number _ _
    (omega (arith, c.loop-number-test.false, c.requires.marks)) (c.loop-number.invariant.accepted file same)
