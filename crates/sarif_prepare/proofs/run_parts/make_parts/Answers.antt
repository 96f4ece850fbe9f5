use Rattle.std.proofs.Common.{ap, codes, ◌∙◌}
use Rattle.serde_json.specs.View.{members_view}
use Rattle.serde_json.specs.Written.{members_have_float}
use Rattle.sarif_results.proofs.WholeMembers.{without_whole}
use Rattle.sarif_prepare.proofs.run_parts.make_parts.Goals as goal

pub returns-clause-whole : goal.returns-clause-whole
returns-clause-whole c =
    ap members_have_float c.drop_member.ensures
    ∙ without_whole (codes "baselineGuid") (members_view c.into_members-members.result.entries) c.into_members-members.ensures.whole
