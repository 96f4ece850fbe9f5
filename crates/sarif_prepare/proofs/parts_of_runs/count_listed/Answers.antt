use Rattle.std.proofs.Common.{sym, ◌∙◌}
use Rattle.sarif_runs.specs.Internal.Opened.{placed_of}
use Rattle.sarif_prepare.proofs.RunPartsOf.{some_counted, none_counted}
use Rattle.sarif_prepare.proofs.parts_of_runs.count_listed.Goals as goal

pub returns-then-has_results : goal.returns-then-has_results
returns-then-has_results c = some_counted (placed_of c.args.run.now).run c.len.result (sym c.if-has_results.true ∙ c.has_results.ensures) c.len.ensures.count

pub returns-else-has_results : goal.returns-else-has_results
returns-else-has_results c = none_counted (placed_of c.args.run.now).run (sym c.if-has_results.false ∙ c.has_results.ensures)
