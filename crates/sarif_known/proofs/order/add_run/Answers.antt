use Rattle.std.proofs.Common.{◌∙◌, sym}
use Rattle.sarif_known.specs.Chosen.{chosen_of}
use Rattle.sarif_known.specs.Internal.Groups.{groups_of}
use Rattle.sarif_known.proofs.Grouped.{no_group, set_group, groups_count}
use Rattle.sarif_known.proofs.order.add_run.Goals as goal

pub returns-in_ok-push-clause-added : goal.returns-in_ok-push-clause-added
returns-in_ok-push-clause-added c =
    set_group c.args.tools.now.keys c.args.run c.args.groups.now.items c.in-Some.rank c.index_mut.result.now c.push.new.self
    c.in-Some.ensures.index c.requires c.index_mut.ensures.value c.in_ok-push.ensures.items

pub returns-in_default-clause-added : goal.returns-in_default-clause-added
returns-in_default-clause-added c =
    no_group c.args.tools.now.keys (chosen_of c.args.run) (groups_of c.args.groups.now.items)
    (sym c.get_index_of.ensures.index ∙ c.in_default.is) (groups_count c.args.groups.now.items ∙ c.requires)
