use Rattle.std.proofs.Common.{◌++◌, [], ◌∷◌, length, refl, ap, ◌∙◌, arith}
use Rattle.sarif_upkeep.specs.Hiding.{looked_at}
use Rattle.sarif_upkeep.specs.Internal.Hiding.{lent, marks_left}
use Rattle.sarif_upkeep.proofs.WithoutHidden.{looked_end, looked_next, looked_start, within_marks}
use Rattle.sarif_upkeep.proofs.hiding.mark_looked_at.Goals as goal

pub is_looked_at-requires : goal.is_looked_at-requires
is_looked_at-requires c =
    within_marks (lent c.args.chosen) c.loop-number.number (length c.args.hidden.now) c.loop-number-test.true c.requires

pub loop-number-init : goal.loop-number-init
loop-number-init c =
    ap (λ l. l ++ looked_at c.args.hidden.now (marks_left 0 (lent c.args.chosen))) c.in_ok-marks.ensures.items
    ∙ looked_start (lent c.args.chosen) c.args.hidden.now

pub loop-number-preserved : goal.loop-number-preserved
loop-number-preserved c =
    looked_next (lent c.args.chosen) c.args.hidden.now c.loop-number.number _ _ _ _ _ c.loop-number-test.true
    (within_marks (lent c.args.chosen) c.loop-number.number (length c.args.hidden.now) c.loop-number-test.true c.requires)
    refl (c.in_ok-push.ensures.items ∙ ap (λ b. c.loop-number.marks.items ++ b ∷ []) c.is_looked_at.ensures)
    c.loop-number.invariant

pub returns : goal.returns
returns c = looked_end (lent c.args.chosen) c.args.hidden.now c.loop-number.number _ _ (omega (arith, c.loop-number-test.false)) c.loop-number.invariant
