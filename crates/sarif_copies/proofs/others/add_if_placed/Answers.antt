use Rattle.std.proofs.Common.{◌≡◌, true, sym, ap, ◌∙◌}
use Rattle.sarif_copies.specs.Copies.{has_line}
use Rattle.sarif_copies.specs.Internal.Table.{with_numbers}
use Rattle.sarif_copies.proofs.These.{comes_in}
use Rattle.sarif_copies.proofs.others.add_if_placed.Goals as goal

pub returns-in_ok-insert : goal.returns-in_ok-insert
returns-in_ok-insert g c = λ rs has.
    let line : has_line c.args.found.now ≡ true = sym c.has_line.ensures ∙ c.if-has_line.true in
    comes_in rs c.args.found.now c.args.table.now c.insert.new.self has c.record_with.result
    (c.record_with.ensures ∙ ap (with_numbers c.args.found.now) c.requires) line c.in_ok-insert.ensures.updates
