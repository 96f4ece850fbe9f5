use Rattle.std.proofs.Common.{◌≡◌, false, ◌&&◌, ◌∷◌, [], codes, refl, sym, ap, ap₂, ◌∙◌}
use Rattle.std.specs.Prelude.{if◌then◌else◌}
use Rattle.serde_json.specs.Find.{get}
use Rattle.sarif_model.specs.Run.{is_absent_result, result_at}
use Rattle.sarif_read.proofs.PickedMembers.{picked_get}
use Rattle.sarif_runs.specs.Judging.{item_by, item_of, skips}
use Rattle.sarif_runs.specs.Record.{record_of}
use Rattle.sarif_runs.specs.Internal.Opened.{placed_of}
use Rattle.sarif_runs.specs.declared.item.Item.TheVariants.{Skipped}
use Rattle.sarif_results.specs.declared.outcome.Outcome.{Outcome}
use Rattle.sarif_results.specs.Internal.Outcomes.{draft_beside}
use Rattle.sarif_judge.proofs.judged_result.judge_current.Goals as goal

pub draft_item-requires-clause-own : goal.draft_item-requires-clause-own
draft_item-requires-clause-own c =
    let d = result_at (placed_of c.args.opened.now).run c.args.seq in
    ap (get (codes "suppressions")) c.in_ok-found.ensures ∙ picked_get (codes "suppressions") (codes "suppressions" ∷ []) d refl
    ∙ ap (get (codes "suppressions")) (sym c.node.ensures)

pub returns : goal.returns
returns c =
    let p = placed_of c.args.opened.now in
    let seq = c.args.seq in
    let file = c.args.file.now in
    let d = result_at p.run seq in
    let item : c.in_ok-item.item ≡ item_of p seq =
    c.in_ok-item.ensures
    ∙ ap (λ b. if b && is_absent_result d then Skipped else item_by (record_of p.options.records p.run seq)) (sym c.requires.current) in
    let draft : c.in_ok-draft.draft ≡ draft_beside file (skips p.source) d (item_of p seq) =
    c.in_ok-draft.ensures ∙ ap (λ e. draft_beside file false e c.in_ok-item.item) c.node.ensures ∙ ap (draft_beside file false d) item
    ∙ ap (λ b. draft_beside file b d (item_of p seq)) (sym c.requires.current) in
    ap₂ {C = Outcome} (λ i x. record { item = i; draft = x }) item draft
