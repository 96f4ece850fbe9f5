use Rattle.std.proofs.Common.{length, map, ap, ◌∙◌}
use Rattle.std.proofs.lemmas.Result.{IfOk-weaker}
use Rattle.std.specs.Prelude.{option_map}
use Rattle.sarif_log.specs.Told.{if_asked}
use Rattle.sarif_runs.specs.Internal.Spots.{spots_from}
use Rattle.sarif_prepare.specs.Asked.{reporting_in}
use Rattle.sarif_prepare.specs.Internal.Telling.{pair_at, told_each}
use Rattle.sarif_prepare.proofs.NarrowedSides.{none_told, runs_few, some_long, some_told, spots_many}
use Rattle.sarif_prepare.proofs.reporting.tell_results.Goals as goal

pub tell_current-requires-clause-runs : goal.tell_current-requires-clause-runs
tell_current-requires-clause-runs g c κs within =
    runs_few c.args.asked.now.options.now.checks.matching c.requires.together.0 c.requires.together.1 c.requires.together.2
    c.args.sides.now.current.now c.args.sides.now.baselines.now c.args.sides.now.paired.now c.requires.together.3 c.requires.paired

pub tell_current-requires-clause-drafts : goal.tell_current-requires-clause-drafts
tell_current-requires-clause-drafts g c κs within =
    spots_many c.args.asked.now.options.now.checks.matching c.requires.together.0 c.requires.together.1 c.requires.together.2
    c.args.sides.now.current.now c.args.sides.now.baselines.now c.args.sides.now.paired.now c.requires.together.3 c.requires.paired

pub tell_current-requires-clause-states : goal.tell_current-requires-clause-states
tell_current-requires-clause-states g c κs within =
    ap length c.deref.ensures.value
    ∙ some_long c.args.asked.now.options.now.checks.matching c.requires.together.0 c.requires.together.1 c.requires.together.2
    c.args.sides.now.current.now c.args.sides.now.baselines.now c.args.sides.now.paired.now c.requires.together.3 c.requires.paired
    c.requires.narrowed.0 c.args.asked.now.options.now.policy (option_map (λ n. n.now) c.args.sides.now.narrowed) c.in-Some.narrowed.now
    (ap (option_map (λ n. n.now)) c.in-Some.is) c.requires.narrowed.1

pub returns-in-Some : goal.returns-in-Some
returns-in-Some g c =
    IfOk-weaker c.tell_current.result _ _ (λ findings is. λ file now before h change k.
    let asked = reporting_in c.args.asked.now in
    let drafts = c.args.sides.now.current.now.drafts.items in
    is
    ∙ ap (λ ps. if_asked asked (λ r. told_each r (map (pair_at ps) (spots_from 0 ps)) drafts c.deref.result.now)) h.is_current.opened
    ∙ ap (λ ss. if_asked asked (λ r. told_each r (map (pair_at now) (spots_from 0 now)) drafts ss)) c.deref.ensures.value
    ∙ some_told c.args.asked.now.options.now.checks.matching file now before c.args.sides.now.current.now c.args.sides.now.baselines.now
    c.args.sides.now.paired.now h c.requires.paired change c.args.asked.now.options.now.policy
    (option_map (λ n. n.now) c.args.sides.now.narrowed) c.in-Some.narrowed.now (ap (option_map (λ n. n.now)) c.in-Some.is) k asked)
    c.tell_current.ensures

pub returns-in-None : goal.returns-in-None
returns-in-None g c =
    IfOk-weaker c.tell_both.result _ _ (λ findings is. λ file now before h change k.
    is file now before h
    ∙ none_told c.args.asked.now.options.now.checks.matching file now before c.args.sides.now.current.now c.args.sides.now.baselines.now
    c.args.sides.now.paired.now h c.requires.paired change c.args.asked.now.options.now.policy
    (option_map (λ n. n.now) c.args.sides.now.narrowed) (ap (option_map (λ n. n.now)) c.in-None.is) k (reporting_in c.args.asked.now))
    c.tell_both.ensures
