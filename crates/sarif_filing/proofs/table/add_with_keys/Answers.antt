use Rattle.std.proofs.Common.{rules, ◌≡◌, ◌++◌, ◌∙◌, bytes_eq}
use Rattle.std.specs.Cmp.Lexicographic.{pointwise}
use Rattle.sarif_filing.specs.Numbers.{numbers_at}
use Rattle.sarif_filing.proofs.Numbered.{under_step}
use Rattle.sarif_filing.proofs.table.add_with_keys.Goals as goal

pub loop-key-preserved : goal.loop-key-preserved
loop-key-preserved g c =
    let added : c.extend_from_slice.new.self.items
    ≡ c.loop-key.found.items ++ numbers_at (pointwise bytes_eq) c.args.table.now c.key-item.result = search rules in
    under_step (numbers_at (pointwise bytes_eq) c.args.table.now) c.loop-key.found.items _ c.args.keys.now c.loop-key.key-index
    c.key-item.result c.loop-key-test.true c.key-item.is added ∙ c.loop-key.invariant
