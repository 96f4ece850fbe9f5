use Rattle.std.proofs.Common.{sym, ◌∙◌}
use Rattle.sarif_choice.specs.Internal.Tables.{names_by}
use Rattle.sarif_choice.proofs.Fits.{fits_by_table}
use Rattle.sarif_choice.proofs.choosing.fits_one.Goals as goal

pub returns : goal.returns
returns c =
    c.has_one.ensures
    ∙ fits_by_table c.args.table.now (names_by c.args.naming) c.args.texts.now c.deref.result.now c.args.hit.now c.requires
    (c.deref.ensures.value ∙ c.in_ok-names.ensures) (sym c.is_empty.ensures ∙ c.if-is_empty.false)
