use Rattle.std.proofs.Common.{length, map, sym, ap, ◌∙◌}
use Rattle.std.proofs.lemmas.List.{length-map}
use Rattle.sarif_log.specs.Internal.Copied.{masked}
use Rattle.sarif_log.specs.Told.{if_asked}
use Rattle.sarif_prepare.specs.Asked.{reporting_in}
use Rattle.sarif_prepare.specs.Internal.Impacts.{all_shown, is_hidden, put_impacts}
use Rattle.sarif_prepare.specs.Internal.Telling.{pair_at, told_each}
use Rattle.sarif_prepare.proofs.NarrowedSides.{runs_few, spots_many, states_all}
use Rattle.sarif_runs.specs.Internal.Opened.{placed_of}
use Rattle.sarif_runs.specs.Internal.Spots.{spots_from}
use Rattle.sarif_prepare.proofs.impacts.tell_here.Goals as goal

pub mask_states-requires : goal.mask_states-requires
mask_states-requires g c =
    ap length (c.deref-2.ensures.value ∙ c.in_ok-hidden.ensures) ∙ length-map c.args.shown.now is_hidden ∙ c.requires.each
    ∙ sym (states_all c.args.all.now.options.now.checks.matching c.requires.together.0 c.requires.together.1 c.requires.together.2
    c.args.sides.now.current.now c.args.sides.now.baselines.now c.args.sides.now.paired.now c.requires.together.3 c.requires.paired)
    ∙ sym (ap length c.deref.ensures.value)

pub tell_current-requires-clause-runs : goal.tell_current-requires-clause-runs
tell_current-requires-clause-runs g c κs within =
    runs_few c.args.all.now.options.now.checks.matching c.requires.together.0 c.requires.together.1 c.requires.together.2
    c.args.sides.now.current.now c.args.sides.now.baselines.now c.args.sides.now.paired.now c.requires.together.3 c.requires.paired

pub tell_current-requires-clause-drafts : goal.tell_current-requires-clause-drafts
tell_current-requires-clause-drafts g c κs within =
    spots_many c.args.all.now.options.now.checks.matching c.requires.together.0 c.requires.together.1 c.requires.together.2
    c.args.sides.now.current.now c.args.sides.now.baselines.now c.args.sides.now.paired.now c.requires.together.3 c.requires.paired

pub tell_current-requires-clause-states : goal.tell_current-requires-clause-states
tell_current-requires-clause-states g c κs within =
    ap length c.deref-3.ensures.value ∙ c.in_ok-states.ensures.count ∙ ap length c.deref.ensures.value
    ∙ states_all c.args.all.now.options.now.checks.matching c.requires.together.0 c.requires.together.1 c.requires.together.2
    c.args.sides.now.current.now c.args.sides.now.baselines.now c.args.sides.now.paired.now c.requires.together.3 c.requires.paired

pub returns : goal.returns
returns g c =
    let runs = map placed_of c.args.sides.now.current.now.runs.items in
    let shown = c.args.shown.now in
    let states =
    c.deref-3.ensures.value ∙ c.in_ok-states.ensures.states
    ∙ ap (λ ms. masked ms c.deref.result.now) (c.deref-2.ensures.value ∙ c.in_ok-hidden.ensures)
    ∙ ap (masked (map is_hidden shown)) c.deref.ensures.value in
    c.in_ok-put.ensures ∙ ap (put_impacts c.in_ok-findings.findings.items) c.in_ok-impacts.ensures
    ∙ ap (λ fs. put_impacts fs (all_shown shown))
    (c.in_ok-findings.ensures
    ∙ ap (λ ss. if_asked (reporting_in c.args.all.now) (λ r. told_each r (map (pair_at runs) (spots_from 0 runs)) c.args.sides.now.current.now.drafts.items ss)) states)
