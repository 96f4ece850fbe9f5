use Rattle.std.proofs.Common.{◌≡◌, drop}
use Rattle.serde_json.specs.View.{items_view}
use Rattle.sarif_read.specs.Stripping.{any_fractional}
use Rattle.sarif_read.proofs.whole.stripping.+fractions.Given as goal

abbrev pub invariant-has_fractional-loop-item : goal.invariant-has_fractional-loop-item
invariant-has_fractional-loop-item l =
    any_fractional (items_view (drop l.item-index l.item-items)) ≡ any_fractional (items_view l.item-items)
