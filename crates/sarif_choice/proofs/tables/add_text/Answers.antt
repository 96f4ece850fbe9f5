use Rattle.std.proofs.Common.{rules, ◌≡◌}
use Rattle.sarif_choice.proofs.Fits.{one_more}
use Rattle.sarif_choice.proofs.tables.add_text.Goals as goal

pub returns : goal.returns
returns c = λ texts.
    let same : c.in_ok-clone.field-0 ≡ c.args.text.now = search rules in
    one_more c.args.table.now c.insert.new.self c.in_ok-clone.field-0 c.args.text.now texts same c.in_ok-insert.ensures.updates
