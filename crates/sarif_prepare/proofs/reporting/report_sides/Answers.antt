use Rattle.std.proofs.Common.{length, sym, ap, ◌∙◌, arith}
use Rattle.std.specs.Prelude.{option_map}
use Rattle.std.proofs.lemmas.Result.{err_from_is_err_and}
use Rattle.sarif_prepare.proofs.MatchedRecords.{lent_sides}
use Rattle.sarif_prepare.proofs.NarrowedSides.{drafts_few, facts_are, left_many, lent_narrowed, runs_few, spots_many, states_all}
use Rattle.sarif_prepare.proofs.KeptSides.{standings_all}
use Rattle.sarif_prepare.proofs.RuledMarks.{lent_ruled}
use Rattle.sarif_prepare.proofs.ToldRuled.{decided_many, known_each}
use Rattle.sarif_prepare.specs.Kept.{change_in}
use Rattle.sarif_prepare.specs.Ruled.{policy_in}
use Rattle.sarif_prepare.proofs.reporting.report_sides.Goals as goal

pub narrow_if-requires-clause-runs : goal.narrow_if-requires-clause-runs
narrow_if-requires-clause-runs g c κs within =
    runs_few c.args.asked.now.options.now.checks.matching c.args.rules.now.file.now c.requires.together.0 c.requires.together.1 c.args.sides.now.current c.args.sides.now.baselines
    c.args.sides.now.paired c.requires.together.2 c.requires.paired

pub narrow_if-requires-clause-drafts : goal.narrow_if-requires-clause-drafts
narrow_if-requires-clause-drafts g c κs within =
    spots_many c.args.asked.now.options.now.checks.matching c.args.rules.now.file.now c.requires.together.0 c.requires.together.1 c.args.sides.now.current c.args.sides.now.baselines
    c.args.sides.now.paired c.requires.together.2 c.requires.paired

pub narrow_if-requires-clause-few : goal.narrow_if-requires-clause-few
narrow_if-requires-clause-few g c κs within =
    drafts_few c.args.asked.now.options.now.checks.matching c.args.rules.now.file.now c.requires.together.0 c.requires.together.1 c.args.sides.now.current c.args.sides.now.baselines
    c.args.sides.now.paired c.requires.together.2 c.requires.paired

pub narrow_if-requires-clause-few_left : goal.narrow_if-requires-clause-few_left
narrow_if-requires-clause-few_left g c κs within =
    left_many c.args.asked.now.options.now.checks.matching c.args.rules.now.file.now c.requires.together.0 c.requires.together.1 c.args.sides.now.current c.args.sides.now.baselines
    c.args.sides.now.paired c.requires.together.2 c.requires.paired

pub narrow_if-requires-clause-states : goal.narrow_if-requires-clause-states
narrow_if-requires-clause-states g c κs within =
    states_all c.args.asked.now.options.now.checks.matching c.args.rules.now.file.now c.requires.together.0 c.requires.together.1 c.args.sides.now.current c.args.sides.now.baselines
    c.args.sides.now.paired c.requires.together.2 c.requires.paired

pub rule_if-requires-clause-impacts : goal.rule_if-requires-clause-impacts
rule_if-requires-clause-impacts g c = λ ruling some.
    let v = c.args.asked.now.options.now.checks.matching in
    let file = c.args.rules.now.file.now in
    let sides = c.args.sides.now in
    let now = c.requires.together.0 in
    let before = c.requires.together.1 in
    let h = c.requires.together.2 in
    let many = states_all v file now before sides.current sides.baselines sides.paired h c.requires.paired in
    let each =
    decided_many v file now before sides.current sides.baselines sides.paired h c.requires.paired (change_in c.args.rules.now) (policy_in c.args.rules.now) ruling
    (sym some ∙ c.in_ok-decided.ensures now before h) in
    omega (arith, each, many)

pub rule_if-requires-clause-known : goal.rule_if-requires-clause-known
rule_if-requires-clause-known g c = λ ruling some.
    let v = c.args.asked.now.options.now.checks.matching in
    let file = c.args.rules.now.file.now in
    let sides = c.args.sides.now in
    let now = c.requires.together.0 in
    let before = c.requires.together.1 in
    let h = c.requires.together.2 in
    let many = states_all v file now before sides.current sides.baselines sides.paired h c.requires.paired in
    let each =
    known_each v file now before sides.current sides.baselines sides.paired h c.requires.paired (change_in c.args.rules.now) (policy_in c.args.rules.now) ruling
    (sym some ∙ c.in_ok-decided.ensures now before h) in
    omega (arith, each, many)

pub rule_if-requires-clause-standings : goal.rule_if-requires-clause-standings
rule_if-requires-clause-standings g c =
    standings_all c.args.asked.now.options.now.checks.matching c.args.sides.now.current c.args.sides.now.baselines c.args.sides.now.paired c.requires.paired

pub rule_if-requires-clause-few : goal.rule_if-requires-clause-few
rule_if-requires-clause-few g c =
    left_many c.args.asked.now.options.now.checks.matching c.args.rules.now.file.now c.requires.together.0 c.requires.together.1 c.args.sides.now.current c.args.sides.now.baselines
    c.args.sides.now.paired c.requires.together.2 c.requires.paired

pub tell_sides-requires-clause-together : goal.tell_sides-requires-clause-together
tell_sides-requires-clause-together g c κs within =
    let now = c.requires.together.0 in
    let before = c.requires.together.1 in
    let h = c.requires.together.2 in (
      c.args.rules.now.file.now,
      now,
      before,
      (lent_sides c.args.rules.now.file.now now before c.args.sides.now.current c.lend-lent.result.current.now c.args.sides.now.baselines
          c.lend-lent.result.baselines.now c.lend-lent.ensures.current c.lend-lent.ensures.baselines h),
    )

pub tell_sides-requires-clause-narrowed : goal.tell_sides-requires-clause-narrowed
tell_sides-requires-clause-narrowed g c κs within = (
  change_in c.args.rules.now,
  (lent_narrowed (change_in c.args.rules.now) c.args.asked.now.options.now.policy c.args.sides.now.current c.lend-lent.result.current.now
      c.args.sides.now.paired c.lend-lent.result.paired.now _ _ c.lend-lent.ensures.current c.lend-lent.ensures.paired c.lend-lent.ensures.narrowed
      c.in_ok-narrowed.ensures),
)

pub tell_sides-requires-clause-each : goal.tell_sides-requires-clause-each
tell_sides-requires-clause-each g c κs within = λ ruling some.
    let now = c.requires.together.0 in
    let before = c.requires.together.1 in
    let h = c.requires.together.2 in
    rw (ap (λ x. length x.drafts.items) c.lend-lent.ensures.current, ap (λ x. length x.left.items) c.lend-lent.ensures.paired)
    (decided_many c.args.asked.now.options.now.checks.matching c.args.rules.now.file.now now before c.args.sides.now.current c.args.sides.now.baselines c.args.sides.now.paired h
    c.requires.paired (change_in c.args.rules.now) (policy_in c.args.rules.now) ruling (sym some ∙ c.lend-lent.ensures.decided ∙ c.in_ok-decided.ensures now before h))

pub keep_if_asked-requires-clause-together : goal.keep_if_asked-requires-clause-together
keep_if_asked-requires-clause-together g c κs within =
    let now = c.requires.together.0 in
    let before = c.requires.together.1 in
    let h = c.requires.together.2 in (
      now,
      before,
      (lent_sides c.args.rules.now.file.now now before c.args.sides.now.current c.lend-lent.result.current.now c.args.sides.now.baselines
          c.lend-lent.result.baselines.now c.lend-lent.ensures.current c.lend-lent.ensures.baselines h),
    )

pub keep_if_asked-requires-clause-narrowed : goal.keep_if_asked-requires-clause-narrowed
keep_if_asked-requires-clause-narrowed g c κs within =
    (lent_narrowed (change_in c.args.rules.now) c.args.asked.now.options.now.policy c.args.sides.now.current c.lend-lent.result.current.now
    c.args.sides.now.paired c.lend-lent.result.paired.now _ _ c.lend-lent.ensures.current c.lend-lent.ensures.paired c.lend-lent.ensures.narrowed
    c.in_ok-narrowed.ensures)

pub keep_if_asked-requires-clause-each : goal.keep_if_asked-requires-clause-each
keep_if_asked-requires-clause-each g c κs within = λ ruling some.
    let now = c.requires.together.0 in
    let before = c.requires.together.1 in
    let h = c.requires.together.2 in
    rw (ap (λ x. length x.drafts.items) c.lend-lent.ensures.current, ap (λ x. length x.left.items) c.lend-lent.ensures.paired)
    (decided_many c.args.asked.now.options.now.checks.matching c.args.rules.now.file.now now before c.args.sides.now.current c.args.sides.now.baselines c.args.sides.now.paired h
    c.requires.paired (change_in c.args.rules.now) (policy_in c.args.rules.now) ruling (sym some ∙ c.lend-lent.ensures.decided ∙ c.in_ok-decided.ensures now before h))

pub keep_if_asked-requires-clause-ruled : goal.keep_if_asked-requires-clause-ruled
keep_if_asked-requires-clause-ruled g c κs within =
    lent_ruled c.args.sides.now.paired c.lend-lent.result.paired.now _ _ _ _ c.lend-lent.ensures.paired c.lend-lent.ensures.decided c.lend-lent.ensures.ruled
    c.in_ok-ruled.ensures

pub keep_if_asked-requires-clause-decided : goal.keep_if_asked-requires-clause-decided
keep_if_asked-requires-clause-decided g c κs within = λ now before h.
    c.lend-lent.ensures.decided
    ∙ c.in_ok-decided.ensures now before
    (lent_sides c.args.rules.now.file.now now before c.lend-lent.result.current.now c.args.sides.now.current c.lend-lent.result.baselines.now
    c.args.sides.now.baselines (sym c.lend-lent.ensures.current) (sym c.lend-lent.ensures.baselines) h)

pub returns-clause-findings : goal.returns-clause-findings
returns-clause-findings g c = λ now before h.
    c.in_ok-findings.ensures c.args.rules.now.file.now now before
    (lent_sides c.args.rules.now.file.now now before c.args.sides.now.current c.lend-lent.result.current.now c.args.sides.now.baselines
    c.lend-lent.result.baselines.now c.lend-lent.ensures.current c.lend-lent.ensures.baselines h)
    (change_in c.args.rules.now)
    (lent_narrowed (change_in c.args.rules.now) c.args.asked.now.options.now.policy c.args.sides.now.current c.lend-lent.result.current.now
    c.args.sides.now.paired c.lend-lent.result.paired.now _ _ c.lend-lent.ensures.current c.lend-lent.ensures.paired c.lend-lent.ensures.narrowed
    c.in_ok-narrowed.ensures)
    (policy_in c.args.rules.now) (c.lend-lent.ensures.decided ∙ c.in_ok-decided.ensures now before h)

pub returns-clause-change : goal.returns-clause-change
returns-clause-change g c = λ now before h.
    c.facts_of-change.ensures
    ∙ facts_are c.args.asked.now.options.now.checks.matching c.args.rules.now.file.now now before c.args.sides.now.current c.args.sides.now.baselines
    c.args.sides.now.paired h c.requires.paired (change_in c.args.rules.now) c.args.asked.now.options.now.policy _ c.in_ok-narrowed.ensures

pub returns-clause-ruling : goal.returns-clause-ruling
returns-clause-ruling g c = λ now before h.
    c.facts_in.ensures ∙ ap (option_map (λ decided. decided.facts)) (c.in_ok-decided.ensures now before h)

pub returns-clause-kept : goal.returns-clause-kept
returns-clause-kept g c = λ now before h. c.in_ok-life.ensures.kept now before
    (lent_sides c.args.rules.now.file.now now before c.args.sides.now.current c.lend-lent.result.current.now c.args.sides.now.baselines
    c.lend-lent.result.baselines.now c.lend-lent.ensures.current c.lend-lent.ensures.baselines h)

pub returns-in_err-life-clause-unkept : goal.returns-in_err-life-clause-unkept
returns-in_err-life-clause-unkept g c = λ now before h.
    let p = err_from_is_err_and c.from_residual-in_err-life.result c.from_residual-in_err-life.ensures.1 in
    rw (p.1, p.2) (c.in_err-life.ensures.unkept now before
    (lent_sides c.args.rules.now.file.now now before c.args.sides.now.current c.lend-lent.result.current.now c.args.sides.now.baselines
    c.lend-lent.result.baselines.now c.lend-lent.ensures.current c.lend-lent.ensures.baselines h))
