use Rattle.std.proofs.Common.{◌==◌, length, ap, ◌∙◌}
use Rattle.sarif_deciding.proofs.GoneTests.{none_met}
use Rattle.sarif_deciding.proofs.gone.meets_none.Goals as goal

pub returns : goal.returns
returns c =
    c.is_empty.ensures ∙ ap (λ l. length l == 0) (c.as_slice.ensures ∙ c.in_ok-applied.ensures.entries)
    ∙ none_met c.args.filters.now c.args.record.now
