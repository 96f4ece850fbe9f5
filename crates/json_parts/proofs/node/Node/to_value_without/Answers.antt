use Rattle.std.proofs.Common.{option_map, sym, ap, ◌∙◌}
use Rattle.serde_json.specs.View.{members_view}
use Rattle.serde_json.proofs.Views.{view-Object}
use Rattle.json_parts.specs.Indexed.{data_of}
use Rattle.json_parts.proofs.Kept.{object_made_without}
use Rattle.json_parts.proofs.node.Node.to_value_without.Goals as goal

pub returns-in-Some : goal.returns-in-Some
returns-in-Some c =
    let told = ap (option_map (λ m. members_view m.entries)) (sym c.in-Some.is) ∙ c.in_ok-members.ensures in
    view-Object c.in-Some.members ∙ object_made_without c.args.name.now (data_of c.args.self.now) (members_view c.in-Some.members.entries) told
