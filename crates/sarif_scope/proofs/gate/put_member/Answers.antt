use Rattle.std.proofs.Common.{ap, ◌∙◌}
use Rattle.serde_json.specs.Data.{put}
use Rattle.serde_json.specs.View.{view, members_view}
use Rattle.serde_json.proofs.Views.{members_view-insert_entry}
use Rattle.sarif_scope.proofs.gate.put_member.Goals as goal

pub returns : goal.returns
returns c =
    ap members_view c.in_ok-old.ensures.entries ∙ members_view-insert_entry c.args.members.now.entries c.in_ok-key.key c.args.value
    ∙ ap (λ k. put k (view c.args.value) (members_view c.args.members.now.entries)) c.in_ok-key.ensures.ok
