use Rattle.std.proofs.Common.{◌≡◌, ◌∙◌, ap, sym, length, map}
use Rattle.sarif_known.specs.Chosen.{all_chosen}
use Rattle.sarif_known.specs.Internal.Groups.{groups_of, side_by_side, texts_of}
use Rattle.sarif_known.specs.Order.{in_turn, runs_of_tool}
use Rattle.sarif_known.proofs.Grouped.{added_both, groups_count, texts_count}
use Rattle.sarif_known.proofs.order.add_in_turn.Goals as goal

-- src/order.rt:96:1
pub returns-in_ok-add_runs-in-Two-2 : goal.returns-in_ok-add_runs-in-Two-2
returns-in_ok-add_runs-in-Two-2 c =
    let current = all_chosen c.args.current.items in
    let baseline = all_chosen c.args.baseline.items in
    let tools = texts_of c.args.tools.now.keys in
    let old = groups_of c.args.groups.now.items in
    let long : length old ≡ length tools =
    groups_count c.args.groups.now.items ∙ c.requires.count ∙ sym (texts_count c.args.tools.now.keys) in
    record {
      added =
          added_both current baseline tools old (groups_of c.add_runs.new.groups.items) (groups_of c.add_runs-in-Two.new.groups.items) long
          c.in_ok-add_runs-in-Two.ensures.added c.in_ok-add_runs-in-Two-2.ensures.added
          ∙ ap (λ v. side_by_side old (map (runs_of_tool (in_turn v current baseline)) tools)) (sym c.in-Two.is);
    }

-- src/order.rt:96:1
pub returns-in_ok-add_runs-in-Three-2 : goal.returns-in_ok-add_runs-in-Three-2
returns-in_ok-add_runs-in-Three-2 c =
    let current = all_chosen c.args.current.items in
    let baseline = all_chosen c.args.baseline.items in
    let tools = texts_of c.args.tools.now.keys in
    let old = groups_of c.args.groups.now.items in
    let long : length old ≡ length tools =
    groups_count c.args.groups.now.items ∙ c.requires.count ∙ sym (texts_count c.args.tools.now.keys) in
    record {
      added =
          added_both baseline current tools old (groups_of c.add_runs-in-Three.new.groups.items)
          (groups_of c.add_runs-in-Three-2.new.groups.items) long
          c.in_ok-add_runs-in-Three.ensures.added c.in_ok-add_runs-in-Three-2.ensures.added
          ∙ ap (λ v. side_by_side old (map (runs_of_tool (in_turn v current baseline)) tools)) (sym c.in-Three.is);
    }
