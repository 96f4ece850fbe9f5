use Rattle.std.proofs.Common.{rules, ◌≡◌, ◌++◌, ◌∙◌}
use Rattle.sarif_entries.specs.Condition.{is_pair}
use Rattle.sarif_filing.specs.Numbers.{numbers_at}
use Rattle.sarif_filing.proofs.Numbered.{under_step}
use Rattle.sarif_filing.proofs.table.add_with_pairs.Goals as goal

pub loop-pair-preserved : goal.loop-pair-preserved
loop-pair-preserved g c =
    let added : c.extend_from_slice.new.self.items ≡ c.loop-pair.found.items ++ numbers_at is_pair c.args.table.now c.pair-item.result = search rules in
    under_step (numbers_at is_pair c.args.table.now) c.loop-pair.found.items _ c.args.pairs.now c.loop-pair.pair-index c.pair-item.result
    c.loop-pair-test.true c.pair-item.is added ∙ c.loop-pair.invariant
