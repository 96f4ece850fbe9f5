use Rattle.std.proofs.Common.{[], ◌∷◌, codes, refl, sym, ap, ◌∙◌}
use Rattle.serde_json.specs.Find.{get}
use Rattle.sarif_model.specs.Run.{result_at}
use Rattle.sarif_read.proofs.PickedMembers.{picked_get}
use Rattle.sarif_runs.specs.Internal.Opened.{placed_of}
use Rattle.sarif_prepare.proofs.leftovers.draft_leftover.Goals as goal

pub draft_absent-requires-clause-own : goal.draft_absent-requires-clause-own
draft_absent-requires-clause-own c =
    let left = c.args.left.now in
    let d = result_at (placed_of left.run.now).run left.seq in
    ap (get (codes "suppressions")) c.in_ok-found.ensures ∙ picked_get (codes "suppressions") (codes "suppressions" ∷ []) d refl
    ∙ ap (get (codes "suppressions")) (sym c.node.ensures)
