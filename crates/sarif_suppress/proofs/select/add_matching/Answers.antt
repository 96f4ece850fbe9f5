use Rattle.std.proofs.Common.{◌∙◌}
use Rattle.std.specs.BTreeSet.{keys}
use Rattle.sarif_entries.specs.Matching.{matches}
use Rattle.sarif_suppress.specs.Internal.Numbers.{passes_at}
use Rattle.sarif_filing.proofs.Numbered.{get_or_any}
use Rattle.sarif_suppress.proofs.Rising.{found_step}
use Rattle.sarif_suppress.proofs.select.add_matching.Goals as goal

pub loop-number-preserved : goal.loop-number-preserved
loop-number-preserved c =
    found_step (passes_at (λ e. matches c.args.today e c.args.given.record.now) c.args.entries.now)
    (keys c.loop-number.found) _ c.args.numbers.now c.loop-number.number-index _ c.loop-number-test.true
    (get_or_any c.args.numbers.now c.loop-number.number-index 0 _ c.loop-number-test.true) c.in_ok-add_if_matching.ensures
    ∙ c.loop-number.invariant
