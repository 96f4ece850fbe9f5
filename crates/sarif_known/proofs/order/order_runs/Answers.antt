use Rattle.std.proofs.Common.{◌≡◌, ◌∙◌, ◌++◌, sym}
use Rattle.sarif_known.specs.Chosen.{all_chosen}
use Rattle.sarif_known.specs.Internal.Groups.{groups_of, texts_of}
use Rattle.sarif_known.specs.Order.{tools_of}
use Rattle.sarif_known.proofs.Grouped.{all_grouped, order_tools, texts_count, tools_apart}
use Rattle.sarif_known.proofs.order.order_runs.Goals as goal

pub add_in_turn-requires-clause-apart : goal.add_in_turn-requires-clause-apart
add_in_turn-requires-clause-apart c =
    tools_apart (all_chosen c.args.baseline.items ++ all_chosen c.args.current.items) (texts_of c.add_tools-2.new.tools.keys)
    (order_tools c.args.current.items c.args.baseline.items c.deref-2.result.now c.deref.result.now c.with_hasher-tools.result.keys
    c.add_tools.new.tools.keys c.add_tools-2.new.tools.keys
    c.with_hasher-tools.ensures.empty c.deref.ensures.value c.deref-2.ensures.value c.in_ok-add_tools.ensures c.in_ok-add_tools-2.ensures)

pub add_in_turn-requires-clause-count : goal.add_in_turn-requires-clause-count
add_in_turn-requires-clause-count c = c.in_ok-groups.ensures.count ∙ c.len.ensures.len

pub returns : goal.returns
returns c =
    let tools : texts_of c.add_tools-2.new.tools.keys ≡ tools_of (all_chosen c.args.baseline.items ++ all_chosen c.args.current.items) =
    order_tools c.args.current.items c.args.baseline.items c.deref-2.result.now c.deref.result.now c.with_hasher-tools.result.keys
    c.add_tools.new.tools.keys c.add_tools-2.new.tools.keys
    c.with_hasher-tools.ensures.empty c.deref.ensures.value c.deref-2.ensures.value c.in_ok-add_tools.ensures c.in_ok-add_tools-2.ensures in
    c.in_ok-runs.ensures
    ∙ all_grouped c.args.version (all_chosen c.args.current.items) (all_chosen c.args.baseline.items) (texts_of c.add_tools-2.new.tools.keys)
    c.len.result (groups_of c.in_ok-groups.groups.items) (groups_of c.add_in_turn.new.groups.items)
    tools (c.len.ensures.len ∙ sym (texts_count c.add_tools-2.new.tools.keys)) c.in_ok-groups.ensures.empty c.in_ok-add_in_turn.ensures.added
