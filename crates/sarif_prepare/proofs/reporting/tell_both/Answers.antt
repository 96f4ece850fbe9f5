use Rattle.std.proofs.Common.{◌++◌, Some, map, length, sym, ap, ◌∙◌}
use Rattle.std.proofs.lemmas.List.{length-map}
use Rattle.sarif_model.specs.declared.kinds.State.TheVariants.{Absent}
use Rattle.sarif_match.specs.Partners.{partners_in}
use Rattle.sarif_prepare.specs.Internal.Leftover.{found_at, not_taken}
use Rattle.sarif_runs.specs.Internal.Spots.{spots_from}
use Rattle.sarif_runs.proofs.AllSpots.{spots_count}
use Rattle.sarif_prepare.specs.Internal.Baselines.{baseline_drafts}
use Rattle.sarif_log.specs.LogBy.{states_of}
use Rattle.sarif_prepare.specs.Internal.Telling.{pair_at, told_each}
use Rattle.sarif_log.specs.Told.{if_asked}
use Rattle.sarif_prepare.specs.Asked.{reporting_in}
use Rattle.sarif_prepare.proofs.LeftTexts.{long}
use Rattle.sarif_log.proofs.Sides.{states_long, taken_long}
use Rattle.sarif_prepare.specs.Internal.Limiting.{unadmitted}
use Rattle.sarif_prepare.proofs.MatchedRecords.{matched_records}
use Rattle.sarif_prepare.proofs.ToldSides.{sides_told}
use Rattle.sarif_prepare.proofs.WrittenSides.{baseline_long, current_long}
use Rattle.sarif_prepare.proofs.reporting.tell_both.Goals as goal

pub tell_current-requires-clause-drafts : goal.tell_current-requires-clause-drafts
tell_current-requires-clause-drafts g c κs within =
    let h = c.requires.together.3 in
    let now = c.requires.together.1 in
    current_long c.requires.together.0 now c.requires.together.2 c.args.sides.now.current.now c.args.sides.now.baselines.now h ∙ h.current_records
    ∙ sym (spots_count 0 now) ∙ sym (ap (λ ps. length (spots_from 0 ps)) h.is_current.opened)

pub tell_current-requires-clause-states : goal.tell_current-requires-clause-states
tell_current-requires-clause-states g c κs within =
    let h = c.requires.together.3 in
    let cs = map unadmitted c.args.sides.now.current.now.records.items in
    let bs = c.args.sides.now.baselines.now.records.items in
    ap length (c.deref.ensures.value ∙ c.requires.paired.states) ∙ length-map (states_of c.args.asked.now.options.now.checks.matching cs bs) Some
    ∙ states_long c.args.asked.now.options.now.checks.matching bs (partners_in c.args.asked.now.options.now.checks.matching cs bs) 0 cs
    ∙ ap length (matched_records c.requires.together.0 c.requires.together.1 c.args.sides.now.current.now h.is_current)
    ∙ sym (current_long c.requires.together.0 c.requires.together.1 c.requires.together.2 c.args.sides.now.current.now c.args.sides.now.baselines.now h)

pub tell_left-requires-clause-taken : goal.tell_left-requires-clause-taken
tell_left-requires-clause-taken g c κs within =
    let b = c.requires.together.3.are_baselines in
    let spots = c.args.sides.now.baselines.now.spots.items in
    ap length c.requires.paired.taken
    ∙ taken_long c.args.asked.now.options.now.checks.matching (map unadmitted c.args.sides.now.current.now.records.items) c.args.sides.now.baselines.now.records.items
    ∙ ap length b.records ∙ b.count ∙ sym (ap length b.spots) ∙ length-map spots (found_at c.requires.together.2)

pub tell_left-requires-clause-drafts : goal.tell_left-requires-clause-drafts
tell_left-requires-clause-drafts g c κs within =
    let before = c.requires.together.2 in
    let b = c.requires.together.3.are_baselines in
    let q = c.requires.paired in
    let spots = c.args.sides.now.baselines.now.spots.items in
    let taken = c.args.sides.now.paired.now.taken.items in
    let taken_all =
    ap length q.taken
    ∙ taken_long c.args.asked.now.options.now.checks.matching (map unadmitted c.args.sides.now.current.now.records.items) c.args.sides.now.baselines.now.records.items
    ∙ ap length b.records in
    let spots_all = sym (length-map spots (found_at before)) ∙ ap length b.spots ∙ sym b.count in
    ap length (q.left before b)
    ∙ long taken (baseline_drafts before) spots (baseline_long before c.args.sides.now.baselines.now b ∙ sym taken_all) (spots_all ∙ sym taken_all)

pub tell_left-requires-clause-states : goal.tell_left-requires-clause-states
tell_left-requires-clause-states g c κs within =
    ap length (c.deref-3.ensures.value ∙ c.in_ok-states.ensures) ∙ length-map c.deref-2.result.now (λ _. Some Absent)
    ∙ ap length c.deref-2.ensures.value

pub returns : goal.returns
returns g c = λ file now before h.
    let asked = reporting_in c.args.asked.now in
    let drafts = c.args.sides.now.current.now.drafts.items in
    let spots = c.args.sides.now.baselines.now.spots.items in
    let current =
    c.in_ok-findings.ensures
    ∙ ap (λ ps. if_asked asked (λ r. told_each r (map (pair_at ps) (spots_from 0 ps)) drafts c.deref.result.now)) h.is_current.opened
    ∙ ap (λ ss. if_asked asked (λ r. told_each r (map (pair_at now) (spots_from 0 now)) drafts ss)) c.deref.ensures.value in
    let absent =
    c.in_ok-absent.ensures
    ∙ ap (λ ps. if_asked asked
    (λ r. told_each r (map (pair_at ps) (not_taken c.args.sides.now.paired.now.taken.items spots)) c.args.sides.now.paired.now.left.items
    c.deref-3.result.now)) h.are_baselines.opened
    ∙ ap (λ ss. if_asked asked
    (λ r. told_each r (map (pair_at before) (not_taken c.args.sides.now.paired.now.taken.items spots)) c.args.sides.now.paired.now.left.items ss))
    (c.deref-3.ensures.value ∙ c.in_ok-states.ensures ∙ ap (map (λ _. Some Absent)) c.deref-2.ensures.value) in
    c.in_ok-append.ensures.items ∙ ap (λ fs. fs ++ c.in_ok-absent.absent.items) current
    ∙ ap (λ fs. if_asked asked (λ r. told_each r (map (pair_at now) (spots_from 0 now)) drafts c.args.sides.now.paired.now.states.items) ++ fs) absent
    ∙ sides_told c.args.asked.now.options.now.checks.matching asked file now before c.args.sides.now.current.now c.args.sides.now.baselines.now c.args.sides.now.paired.now h c.requires.paired
