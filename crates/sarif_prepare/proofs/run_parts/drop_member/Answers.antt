use Rattle.std.proofs.Common.{ap, ◌∙◌}
use Rattle.serde_json.specs.View.{members_view}
use Rattle.sarif_results.proofs.Removed.{view-remove_entry}
use Rattle.sarif_prepare.proofs.run_parts.drop_member.Goals as goal

pub returns : goal.returns
returns c =
    ap members_view c.remove.ensures.entries
    ∙ view-remove_entry c.args.name.now c.args.members.now.entries (rw c.remove.ensures.entries at c.remove.ensures.updates.1)
