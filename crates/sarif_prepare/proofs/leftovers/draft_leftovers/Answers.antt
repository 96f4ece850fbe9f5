use Rattle.sarif_prepare.specs.Internal.Leftover.{leftover_draft}
use Rattle.sarif_prepare.proofs.Shared.{made_of_shown}
use Rattle.sarif_prepare.proofs.leftovers.draft_leftovers.Goals as goal

pub returns : goal.returns
returns g c = made_of_shown leftover_draft c.in_ok-each.each.items c.args.left.now c.in_ok-drafts.drafts.items c.in_ok-each.ensures c.in_ok-drafts.ensures
