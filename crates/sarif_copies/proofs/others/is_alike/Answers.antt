use Rattle.std.proofs.Common.{sym, ◌∙◌}
use Rattle.sarif_copies.proofs.These.{alike_to_none}
use Rattle.sarif_copies.proofs.others.is_alike.Goals as goal

pub returns-else-has_line : goal.returns-else-has_line
returns-else-has_line g c = λ rs has.
    c.if-has_line.false ∙ alike_to_none rs c.args.found.now (sym c.has_line.ensures ∙ c.if-has_line.false)
