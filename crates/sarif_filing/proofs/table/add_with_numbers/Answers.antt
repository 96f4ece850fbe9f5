use Rattle.std.proofs.Common.{rules, ◌≡◌, ◌++◌, ◌∙◌, ℕ, nat_eq, get_or}
use Rattle.sarif_filing.specs.Numbers.{numbers_at}
use Rattle.sarif_filing.proofs.Numbered.{get_or_any, under_step}
use Rattle.sarif_filing.proofs.table.add_with_numbers.Goals as goal

pub loop-number-preserved : goal.loop-number-preserved
loop-number-preserved g c =
    let n : ℕ = get_or c.args.numbers.now c.loop-number.number-index 0 in
    let added : c.extend_from_slice.new.self.items ≡ c.loop-number.found.items ++ numbers_at nat_eq c.args.table.now n = search rules in
    under_step (numbers_at nat_eq c.args.table.now) c.loop-number.found.items _ c.args.numbers.now c.loop-number.number-index n
    c.loop-number-test.true (get_or_any c.args.numbers.now c.loop-number.number-index 0 n c.loop-number-test.true) added ∙ c.loop-number.invariant
