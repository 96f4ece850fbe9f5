use Rattle.std.proofs.Common.{ap, ◌∙◌}
use Rattle.serde_json.specs.Data.{put}
use Rattle.serde_json.specs.View.{view, members_view}
use Rattle.serde_json.proofs.Views.{members_view-insert_entry}
use Rattle.sarif_read.proofs.filling.put_results.Goals as goal

pub returns : goal.returns
returns c =
    ap members_view c.in_ok-old.ensures.entries ∙ members_view-insert_entry c.args.members.now.entries c.in_ok-key.key c.args.results
    ∙ ap (λ k. put k (view c.args.results) (members_view c.args.members.now.entries)) c.in_ok-key.ensures.ok
