use Rattle.std.proofs.Common.{map, ◌∙◌}
use Rattle.sarif_choice.specs.Internal.Tables.{names_by}
use Rattle.sarif_choice.proofs.Fits.{unfit_by_table}
use Rattle.sarif_choice.proofs.choosing.first_unfit.Goals as goal

pub returns : goal.returns
returns c =
    c.first_missing.ensures
    ∙ unfit_by_table c.in_ok-table.table (names_by c.args.naming) c.args.texts.now c.deref.result.now (map (λ hit. hit.now) c.args.hits.now)
    c.in_ok-table.ensures (c.deref.ensures.value ∙ c.in_ok-names.ensures)
