use Rattle.std.proofs.Common.{◌≡◌, ◌==◌, ◌∙◌, ap, sym, map, [], false, length, rules, vec_len}
use Rattle.sarif_known.specs.Chosen.{all_chosen, chosen_of}
use Rattle.sarif_known.specs.Internal.Groups.{groups_of, side_by_side, texts_of}
use Rattle.sarif_known.specs.Order.{runs_of_tool}
use Rattle.sarif_known.proofs.Grouped.{no_items, some_records, step_groups, no_more}
use Rattle.sarif_known.proofs.order.add_runs.Goals as goal

pub loop-run-preserved-in-Continue-1 : goal.loop-run-preserved-in-Continue-1
loop-run-preserved-in-Continue-1 c =
    let long : length c.in-Some.run'.records.items ≡ vec_len c.in-Some.run'.records = search rules in
    let some : (length c.in-Some.run'.records.items == 0) ≡ false = ap (λ n. n == 0) long ∙ sym c.is_empty.ensures ∙ c.if-not-is_empty.true in
    record {
      added =
          ap (λ l. side_by_side l (map (runs_of_tool (all_chosen c.next.new.self.rest.items)) (texts_of c.args.tools.now.keys))) c.in_ok-add_run.ensures.added
          ∙ step_groups (chosen_of c.in-Some.run') (some_records c.in-Some.run' some) (all_chosen c.next.new.self.rest.items) []
          (texts_of c.args.tools.now.keys) (groups_of c.loop-run.groups.items) c.requires.apart
          ∙ ap
          (λ rs. side_by_side (groups_of c.loop-run.groups.items) (map (runs_of_tool (all_chosen rs)) (texts_of c.args.tools.now.keys)))
          (sym c.in-Some.ensures.steps.0)
          ∙ c.loop-run.invariant.added;
      count = c.in_ok-add_run.ensures.count ∙ c.loop-run.invariant.count;
    }

pub returns-clause-added : goal.returns-clause-added
returns-clause-added c =
    let zero_long : length c.loop-run.run-iterator.rest.items ≡ 0 = search rules in
    let none : c.loop-run.run-iterator.rest.items ≡ [] = no_items c.loop-run.run-iterator.rest.items zero_long in
    sym (no_more (texts_of c.args.tools.now.keys) (groups_of c.loop-run.groups.items))
    ∙ ap (λ rs. side_by_side (groups_of c.loop-run.groups.items) (map (runs_of_tool (all_chosen rs)) (texts_of c.args.tools.now.keys))) (sym none)
    ∙ c.loop-run.invariant.added
