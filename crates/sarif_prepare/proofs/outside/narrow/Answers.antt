use Rattle.std.proofs.Common.{not, map, length, sym, ap, ◌∙◌}
use Rattle.std.proofs.lemmas.List.{length-map}
use Rattle.sarif_runs.specs.Internal.Opened.{placed_of}
use Rattle.sarif_runs.specs.Internal.Spots.{spots_from}
use Rattle.sarif_prepare.proofs.NarrowedSides.{outside_long}
use Rattle.sarif_prepare.proofs.outside.narrow.Goals as goal

pub count_others-requires-clause-marks : goal.count_others-requires-clause-marks
count_others-requires-clause-marks g c =
    let asked =
    ap length (c.deref-3.ensures.value ∙ c.in_ok-active.ensures) ∙ length-map c.deref.result.now (λ draft. not draft.suppressed)
    ∙ ap length c.deref.ensures.value in
    let spots = ap (λ rs. length (spots_from 0 (map placed_of rs))) c.deref-2.ensures.value in
    ap length (c.deref-4.ensures.value ∙ c.in_ok-marks.ensures)
    ∙ outside_long c.args.change.now (map placed_of c.deref-2.result.now) c.deref-3.result.now (asked ∙ c.requires.drafts ∙ sym spots)
    ∙ asked

pub mask_states-requires : goal.mask_states-requires
mask_states-requires g c =
    let asked =
    ap length (c.deref-3.ensures.value ∙ c.in_ok-active.ensures) ∙ length-map c.deref.result.now (λ draft. not draft.suppressed)
    ∙ ap length c.deref.ensures.value in
    let spots = ap (λ rs. length (spots_from 0 (map placed_of rs))) c.deref-2.ensures.value in
    ap length (c.deref-6.ensures.value ∙ c.in_ok-marks.ensures)
    ∙ outside_long c.args.change.now (map placed_of c.deref-2.result.now) c.deref-3.result.now (asked ∙ c.requires.drafts ∙ sym spots)
    ∙ asked ∙ sym c.requires.states ∙ sym (ap length c.deref-5.ensures.value)
