use Rattle.std.proofs.Common.{◌∙◌}
use Rattle.std.specs.BTreeSet.{keys}
use Rattle.sarif_filing.proofs.Numbered.{get_or_any}
use Rattle.sarif_suppress.proofs.Admitted.{set_step}
use Rattle.sarif_suppress.proofs.select.set_of.Goals as goal

pub loop-number-preserved : goal.loop-number-preserved
loop-number-preserved c =
    set_step (keys c.loop-number.set) _ c.args.numbers.now c.loop-number.number-index _ c.loop-number-test.true
    (get_or_any c.args.numbers.now c.loop-number.number-index 0 _ c.loop-number-test.true) c.in_ok-insert.ensures.keys
    ∙ c.loop-number.invariant
