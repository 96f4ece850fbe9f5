use Rattle.std.proofs.Common.{map, sym, ap, ◌∙◌}
use Rattle.sarif_inputs.specs.Snippets.{with_regions_if}
use Rattle.sarif_runs.specs.Internal.Opened.{placed_of}
use Rattle.sarif_inputs.proofs.ReadAgain.{maps_apart}
use Rattle.sarif_inputs.proofs.snippets.read_snippets.Goals as goal

pub returns-then-compare_snippets : goal.returns-then-compare_snippets
returns-then-compare_snippets c =
    c.read_all_regions.ensures ∙ maps_apart c.args.runs.now.items
    ∙ ap (λ b. with_regions_if b (map placed_of c.args.runs.now.items)) (sym c.if-compare_snippets.true ∙ c.compare_snippets.ensures)
