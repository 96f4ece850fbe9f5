use Rattle.std.proofs.Common.{Some, length, map, sym, ap, ◌∙◌}
use Rattle.std.proofs.lemmas.List.{length-map}
use Rattle.sarif_log.proofs.Sides.{taken_long}
use Rattle.sarif_log.specs.Internal.Copied.{masked}
use Rattle.sarif_log.specs.Told.{if_asked}
use Rattle.sarif_model.specs.declared.kinds.State.TheVariants.{Absent}
use Rattle.sarif_prepare.specs.Asked.{reporting_in}
use Rattle.sarif_prepare.specs.Internal.Baselines.{baseline_drafts}
use Rattle.sarif_prepare.specs.Internal.Impacts.{all_shown, is_hidden, put_impacts}
use Rattle.sarif_prepare.specs.Internal.Leftover.{found_at, not_taken}
use Rattle.sarif_prepare.specs.Internal.Limiting.{unadmitted}
use Rattle.sarif_prepare.specs.Internal.Telling.{pair_at, told_each}
use Rattle.sarif_prepare.proofs.LeftTexts.{long}
use Rattle.sarif_prepare.proofs.WrittenSides.{baseline_long}
use Rattle.sarif_runs.specs.Internal.Opened.{placed_of}
use Rattle.sarif_prepare.proofs.impacts.tell_there.Goals as goal

pub mask_states-requires : goal.mask_states-requires
mask_states-requires g c =
    ap length (c.deref-3.ensures.value ∙ c.in_ok-hidden.ensures) ∙ length-map c.args.shown.now is_hidden ∙ c.requires.each
    ∙ sym (ap length (c.deref-2.ensures.value ∙ c.in_ok-absent.ensures) ∙ length-map c.deref.result.now (λ _. Some Absent)
    ∙ ap length c.deref.ensures.value)

pub tell_left-requires-clause-taken : goal.tell_left-requires-clause-taken
tell_left-requires-clause-taken g c κs within =
    let b = c.requires.together.3.are_baselines in
    let spots = c.args.sides.now.baselines.now.spots.items in
    ap length c.requires.paired.taken
    ∙ taken_long c.args.all.now.options.now.checks.matching (map unadmitted c.args.sides.now.current.now.records.items) c.args.sides.now.baselines.now.records.items
    ∙ ap length b.records ∙ b.count ∙ sym (ap length b.spots) ∙ length-map spots (found_at c.requires.together.2)

pub tell_left-requires-clause-drafts : goal.tell_left-requires-clause-drafts
tell_left-requires-clause-drafts g c κs within =
    let before = c.requires.together.2 in
    let b = c.requires.together.3.are_baselines in
    let q = c.requires.paired in
    let spots = c.args.sides.now.baselines.now.spots.items in
    let taken = c.args.sides.now.paired.now.taken.items in
    let taken_all =
    ap length q.taken ∙ taken_long c.args.all.now.options.now.checks.matching (map unadmitted c.args.sides.now.current.now.records.items) c.args.sides.now.baselines.now.records.items
    ∙ ap length b.records in
    let spots_all = sym (length-map spots (found_at before)) ∙ ap length b.spots ∙ sym b.count in
    ap length (q.left before b)
    ∙ long taken (baseline_drafts before) spots (baseline_long before c.args.sides.now.baselines.now b ∙ sym taken_all) (spots_all ∙ sym taken_all)

pub tell_left-requires-clause-states : goal.tell_left-requires-clause-states
tell_left-requires-clause-states g c κs within =
    ap length c.deref-4.ensures.value ∙ c.in_ok-states.ensures.count ∙ ap length (c.deref-2.ensures.value ∙ c.in_ok-absent.ensures)
    ∙ length-map c.deref.result.now (λ _. Some Absent) ∙ ap length c.deref.ensures.value

pub returns : goal.returns
returns g c =
    let runs = map placed_of c.args.sides.now.baselines.now.runs.items in
    let spots = not_taken c.args.sides.now.paired.now.taken.items c.args.sides.now.baselines.now.spots.items in
    let left = c.args.sides.now.paired.now.left.items in
    let shown = c.args.shown.now in
    let states =
    c.deref-4.ensures.value ∙ c.in_ok-states.ensures.states
    ∙ ap (λ ms. masked ms c.deref-2.result.now) (c.deref-3.ensures.value ∙ c.in_ok-hidden.ensures)
    ∙ ap (masked (map is_hidden shown)) (c.deref-2.ensures.value ∙ c.in_ok-absent.ensures ∙ ap (map (λ _. Some Absent)) c.deref.ensures.value) in
    c.in_ok-put.ensures ∙ ap (put_impacts c.in_ok-findings.findings.items) c.in_ok-impacts.ensures
    ∙ ap (λ fs. put_impacts fs (all_shown shown))
    (c.in_ok-findings.ensures
    ∙ ap (λ ss. if_asked (reporting_in c.args.all.now) (λ r. told_each r (map (pair_at runs) spots) left ss)) states)
