use Rattle.std.proofs.Common.{◌∙◌}
use Rattle.sarif_upkeep.proofs.Stays.{suppress_if, suppress_not}
use Rattle.sarif_upkeep.proofs.staying.suppress.Goals as goal

pub returns-then-not-is_empty : goal.returns-then-not-is_empty
returns-then-not-is_empty c = c.all_accepted.ensures ∙ suppress_if c.args.statuses.now c.is_empty.result c.is_empty.ensures c.if-not-is_empty.true

pub returns-else-not-is_empty : goal.returns-else-not-is_empty
returns-else-not-is_empty c = suppress_not c.args.statuses.now c.is_empty.result c.is_empty.ensures c.if-not-is_empty.false
