use Rattle.std.proofs.Common.{◌<◌, length, refl, ap, sym, ◌∙◌, arith}
use Rattle.sarif_model.specs.declared.kinds.State.TheVariants.{Absent}
use Rattle.sarif_accept.specs.Adding.{may_hit}
use Rattle.sarif_upkeep.specs.Internal.Hiding.{lent}
use Rattle.sarif_upkeep.specs.Merge.{shown_by}
use Rattle.sarif_upkeep.specs.Renewed.{staying_among}
use Rattle.sarif_upkeep.proofs.Walked.{applied_at, staying_end, staying_next, staying_skip}
use Rattle.sarif_upkeep.proofs.WithoutHidden.{none_left, within_marks, zero_more}
use Rattle.sarif_upkeep.proofs.staying.staying_among.Goals as goal

pub is_hidden-requires : goal.is_hidden-requires
is_hidden-requires c = within_marks (lent c.args.hidden) c.loop-number.number (length c.args.records.now) c.loop-number-test.true c.requires.hidden

pub loop-number-init : goal.loop-number-init
loop-number-init c = record {
  counted = λ file same.
      zero_more _
      ∙ ap (λ h. staying_among (may_hit c.args.policy) file (shown_by h c.args.records.now) (shown_by h c.args.states.now)) (none_left (lent c.args.hidden));
  few = omega arith;
}

pub loop-number-preserved-then-is_hidden : goal.loop-number-preserved-then-is_hidden
loop-number-preserved-then-is_hidden c =
    let rs = c.args.records.now in
    let states = c.args.states.now in
    let n = c.loop-number.number in
    let within : n < length rs = c.loop-number-test.true in
    let in_states : n < length states = omega (arith, within, c.requires.states) in
    let in_hidden = within_marks (lent c.args.hidden) n (length rs) within c.requires.hidden in record {
      counted = λ file same.
          staying_skip (may_hit c.args.policy) file (lent c.args.hidden) rs states n c.index-records-number.result Absent c.loop-number.count _
          within in_states in_hidden (sym c.is_hidden.ensures ∙ c.if-is_hidden.true) (c.loop-number.invariant.counted file same);
      few = omega (arith, c.loop-number.invariant.few);
    }

pub loop-number-preserved : goal.loop-number-preserved
loop-number-preserved c =
    let rs = c.args.records.now in
    let drafts = c.args.drafts.now in
    let states = c.args.states.now in
    let n = c.loop-number.number in
    let within : n < length rs = c.loop-number-test.true in
    let in_drafts : n < length drafts = omega (arith, within, c.requires.drafts) in
    let in_states : n < length states = omega (arith, within, c.requires.states) in
    let in_hidden = within_marks (lent c.args.hidden) n (length rs) within c.requires.hidden in record {
      counted = λ file same.
          let applied = applied_at file rs drafts n c.index-records-number.result _ c.index-drafts-number.result _ within in_drafts
          c.index-records-number.is c.index-drafts-number.is same in
          staying_next (may_hit c.args.policy) file (lent c.args.hidden) rs states n c.index-records-number.result _ _ _ c.loop-number.count _ _
          within in_states in_hidden c.index-records-number.is refl (sym c.is_hidden.ensures ∙ c.if-is_hidden.false)
          (c.count_one-count.ensures.count file applied) (c.loop-number.invariant.counted file same);
      few = omega (arith, c.loop-number.invariant.few, c.count_one-count.ensures.few);
    }

pub returns-clause-count : goal.returns-clause-count
returns-clause-count c = λ file same.
    staying_end (may_hit c.args.policy) file (lent c.args.hidden) c.args.records.now c.args.states.now c.loop-number.number _ _
    (omega (arith, c.loop-number-test.false)) (c.loop-number.invariant.counted file same)
