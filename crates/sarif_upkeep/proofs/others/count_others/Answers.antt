use Rattle.std.proofs.Common.{◌<◌, false, length, refl, ap, sym, ◌∙◌, arith}
use Rattle.sarif_model.specs.declared.kinds.State.TheVariants.{Absent}
use Rattle.sarif_accept.specs.Adding.{may_hit}
use Rattle.sarif_accept.specs.Choosing.{alike_among, others_among}
use Rattle.sarif_upkeep.specs.Internal.Hiding.{lent}
use Rattle.sarif_upkeep.specs.Merge.{shown_by}
use Rattle.sarif_upkeep.proofs.Walked.{alike_end, alike_next, alike_skip, applied_at, others_end, others_next, others_skip}
use Rattle.sarif_upkeep.proofs.WithoutHidden.{none_left, within_marks, zero_more}
use Rattle.sarif_upkeep.proofs.others.count_others.Goals as goal

pub is_hidden-requires : goal.is_hidden-requires
is_hidden-requires c =
    within_marks (lent c.args.counting.now.hidden) c.loop-number.number (length c.args.records.now) c.loop-number-test.true c.requires.hidden

pub loop-number-init : goal.loop-number-init
loop-number-init c =
    let es = c.args.counting.now.added.now.entries in
    let policy = c.args.counting.now.policy in record {
      alike = λ file same day.
          zero_more _
          ∙ ap (λ h. length (alike_among (may_hit policy) file es (shown_by h c.args.marks.now) (shown_by h c.args.records.now) (shown_by h c.args.states.now)))
          (none_left (lent c.args.counting.now.hidden));
      left = λ file same day.
          zero_more _
          ∙ ap (λ h. length (others_among (may_hit policy) file es (shown_by h c.args.marks.now) (shown_by h c.args.records.now) (shown_by h c.args.states.now)))
          (none_left (lent c.args.counting.now.hidden));
      few = omega arith;
    }

pub loop-number-preserved-then-is_hidden : goal.loop-number-preserved-then-is_hidden
loop-number-preserved-then-is_hidden c =
    let rs = c.args.records.now in
    let states = c.args.states.now in
    let marks = c.args.marks.now in
    let hidden = lent c.args.counting.now.hidden in
    let es = c.args.counting.now.added.now.entries in
    let n = c.loop-number.number in
    let within : n < length rs = c.loop-number-test.true in
    let in_states : n < length states = omega (arith, within, c.requires.states) in
    let in_marks : n < length marks = omega (arith, within, c.requires.marks) in
    let in_hidden = within_marks hidden n (length rs) within c.requires.hidden in
    let hides = sym c.is_hidden.ensures ∙ c.if-is_hidden.true in record {
      alike = λ file same day.
          alike_skip (may_hit c.args.counting.now.policy) file es hidden marks rs states n false c.index-records-number.result Absent
          c.loop-number.alike _ in_marks within in_states in_hidden hides (c.loop-number.invariant.alike file same day);
      left = λ file same day.
          others_skip (may_hit c.args.counting.now.policy) file es hidden marks rs states n false c.index-records-number.result Absent
          c.loop-number.left _ in_marks within in_states in_hidden hides (c.loop-number.invariant.left file same day);
      few = omega (arith, c.loop-number.invariant.few);
    }

pub loop-number-preserved : goal.loop-number-preserved
loop-number-preserved c =
    let rs = c.args.records.now in
    let drafts = c.args.drafts.now in
    let states = c.args.states.now in
    let marks = c.args.marks.now in
    let hidden = lent c.args.counting.now.hidden in
    let es = c.args.counting.now.added.now.entries in
    let n = c.loop-number.number in
    let within : n < length rs = c.loop-number-test.true in
    let in_drafts : n < length drafts = omega (arith, within, c.requires.drafts) in
    let in_states : n < length states = omega (arith, within, c.requires.states) in
    let in_marks : n < length marks = omega (arith, within, c.requires.marks) in
    let in_hidden = within_marks hidden n (length rs) within c.requires.hidden in
    let seen = sym c.is_hidden.ensures ∙ c.if-is_hidden.false in record {
      alike = λ file same day.
          let applied = applied_at file rs drafts n c.index-records-number.result _ c.index-drafts-number.result _ within in_drafts
          c.index-records-number.is c.index-drafts-number.is same in
          alike_next (may_hit c.args.counting.now.policy) file es hidden marks rs states n _ _ c.index-records-number.result _ _ _
          c.loop-number.alike _ _ in_marks within in_states in_hidden refl c.index-records-number.is refl seen
          (c.in_ok-more.ensures.alike file applied day) (c.loop-number.invariant.alike file same day);
      left = λ file same day.
          let applied = applied_at file rs drafts n c.index-records-number.result _ c.index-drafts-number.result _ within in_drafts
          c.index-records-number.is c.index-drafts-number.is same in
          others_next (may_hit c.args.counting.now.policy) file es hidden marks rs states n _ _ c.index-records-number.result _ _ _
          c.loop-number.left _ _ in_marks within in_states in_hidden refl c.index-records-number.is refl seen
          (c.in_ok-more.ensures.left file applied day) (c.loop-number.invariant.left file same day);
      few = omega (arith, c.loop-number.invariant.few, c.in_ok-more.ensures.few);
    }

pub returns-clause-alike : goal.returns-clause-alike
returns-clause-alike c = λ file same day.
    alike_end (may_hit c.args.counting.now.policy) file c.args.counting.now.added.now.entries (lent c.args.counting.now.hidden) c.args.marks.now
    c.args.records.now c.args.states.now c.loop-number.number _ _ (omega (arith, c.loop-number-test.false, c.requires.marks))
    (c.loop-number.invariant.alike file same day)

pub returns-clause-left : goal.returns-clause-left
returns-clause-left c = λ file same day.
    others_end (may_hit c.args.counting.now.policy) file c.args.counting.now.added.now.entries (lent c.args.counting.now.hidden) c.args.marks.now
    c.args.records.now c.args.states.now c.loop-number.number _ _ (omega (arith, c.loop-number-test.false, c.requires.marks))
    (c.loop-number.invariant.left file same day)
