use Rattle.std.proofs.Common.{not, length, sym, ap, ◌∙◌}
use Rattle.std.specs.Prelude.{◌==◌}
use Rattle.sarif_suppress.specs.Suppressing.{matching_numbers}
use Rattle.sarif_accept.proofs.Staying.{found_met}
use Rattle.sarif_upkeep.proofs.Stays.{is_empty_long}
use Rattle.sarif_upkeep.proofs.others.is_met.Goals as goal

pub returns : goal.returns
returns c =
    let file = c.args.added.now in
    let r = c.args.record.now in
    ap not
    (c.is_empty.ensures ∙ ap (λ l. length l == 0) (c.as_slice.ensures ∙ c.in_ok-applied.ensures.entries)
    ∙ sym (is_empty_long (matching_numbers file r)))
    ∙ found_met file r
