use Rattle.std.proofs.Common.{sym, ◌∙◌}
use Rattle.sarif_runs.proofs.NoneNamed.{none_named}
use Rattle.sarif_runs.proofs.ignoring.without_names.Goals as goal

pub returns-then-is_empty : goal.returns-then-is_empty
returns-then-is_empty c = none_named c.args.names.now c.args.members (sym c.is_empty.ensures ∙ c.if-is_empty.true)
