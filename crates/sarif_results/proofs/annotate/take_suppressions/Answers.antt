use Rattle.std.proofs.Common.{rules, ◌≡◌, codes, option_map, ap, ◌∙◌}
use Rattle.serde_json.specs.Data.{no_items}
use Rattle.serde_json.specs.View.{view, items_view}
use Rattle.serde_json.proofs.Views.{view-lookup}
use Rattle.sarif_counts.specs.CountOf.{items_in}
use Rattle.sarif_results.proofs.annotate.take_suppressions.Goals as goal

pub returns-in-Some : goal.returns-in-Some
returns-in-Some c =
    c.into_items.ensures
    ∙ ap items_in (ap (option_map view) c.in-Some.ensures.value ∙ view-lookup (codes "suppressions") c.args.members.now.entries)

pub returns-in-None : goal.returns-in-None
returns-in-None c =
    let none : items_view c.new.result.items ≡ no_items = search rules in
    none ∙ ap items_in (ap (option_map view) c.in-None.ensures.value ∙ view-lookup (codes "suppressions") c.args.members.now.entries)
