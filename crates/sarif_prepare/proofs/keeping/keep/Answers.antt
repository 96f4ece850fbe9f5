use Rattle.std.proofs.Common.{refl, ◌∙◌}
use Rattle.std.specs.Prelude.{option_map}
use Rattle.std.proofs.lemmas.Result.{err_from_is_err_and}
use Rattle.sarif_prepare.specs.Asked.{choice_in}
use Rattle.sarif_prepare.specs.Chosen.{chosen_merge}
use Rattle.sarif_prepare.specs.Kept.{bytes_of, change_in}
use Rattle.sarif_prepare.specs.Ruled.{policy_in}
use Rattle.sarif_prepare.proofs.KeptSides.{matched_chosen, misfit_unkept, states_there}
use Rattle.sarif_prepare.proofs.keeping.keep.Goals as goal

pub life_of-requires : goal.life_of-requires
life_of-requires g c =
    let rules = c.args.rules.now in
    let sides = c.args.sides.now in
    let options = c.args.asked.now.options.now in
    let now = c.requires.together.0 in
    let before = c.requires.together.1 in
    let h = c.requires.together.2 in (
      chosen_merge (policy_in rules) options.checks rules.file.now (bytes_of rules) (change_in rules) options.policy (choice_in c.args.asked.now) now before,
      matched_chosen options.checks rules.file.now (bytes_of rules) (change_in rules) options.policy now before sides.current.now sides.baselines.now
          sides.paired.now (option_map (λ n. n.now) sides.narrowed) _ h c.requires.paired c.requires.narrowed c.requires.read
          refl refl refl refl c.knows_regions.ensures c.deref-2.ensures.value c.deref-3.ensures.value c.deref-4.ensures.value
          (c.deref-5.ensures.value ∙ c.in_ok-states.ensures ∙ states_there c.deref.result.now _ (c.deref.ensures.value ∙ c.requires.paired.states))
          c.deref-6.ensures.value c.deref-7.ensures.value c.deref-8.ensures.value c.deref-9.ensures.value
          (policy_in rules) (choice_in c.args.asked.now) (option_map (λ d. d.now) sides.decided) (option_map (λ r. r.now) sides.ruled)
          (c.requires.decided now before h) c.requires.ruled c.policy_by.ensures c.hidden_in.ensures c.absent_in.ensures c.standings_in.ensures
          (c.lent.ensures ∙ c.in_ok-marks.ensures.ok now before h) (c.in_ok-marks.ensures.fits now before h),
    )

pub returns-in_err-life-clause-unkept : goal.returns-in_err-life-clause-unkept
returns-in_err-life-clause-unkept g c = λ now before h.
    let rules = c.args.rules.now in
    let sides = c.args.sides.now in
    let options = c.args.asked.now.options.now in
    let p = err_from_is_err_and c.from_residual-in_err-life.result c.from_residual-in_err-life.ensures.1 in
    rw (p.1, p.2) (c.in_err-life.ensures.refused
    (chosen_merge (policy_in rules) options.checks rules.file.now (bytes_of rules) (change_in rules) options.policy (choice_in c.args.asked.now) now before)
    (matched_chosen options.checks rules.file.now (bytes_of rules) (change_in rules) options.policy now before sides.current.now sides.baselines.now
    sides.paired.now (option_map (λ n. n.now) sides.narrowed) _ h c.requires.paired c.requires.narrowed c.requires.read
    refl refl refl refl c.knows_regions.ensures c.deref-2.ensures.value c.deref-3.ensures.value c.deref-4.ensures.value
    (c.deref-5.ensures.value ∙ c.in_ok-states.ensures ∙ states_there c.deref.result.now _ (c.deref.ensures.value ∙ c.requires.paired.states))
    c.deref-6.ensures.value c.deref-7.ensures.value c.deref-8.ensures.value c.deref-9.ensures.value
    (policy_in rules) (choice_in c.args.asked.now) (option_map (λ d. d.now) sides.decided) (option_map (λ r. r.now) sides.ruled)
    (c.requires.decided now before h) c.requires.ruled c.policy_by.ensures c.hidden_in.ensures c.absent_in.ensures c.standings_in.ensures
    (c.lent.ensures ∙ c.in_ok-marks.ensures.ok now before h) (c.in_ok-marks.ensures.fits now before h)))

pub returns-clause-kept : goal.returns-clause-kept
returns-clause-kept g c = λ now before h.
    let rules = c.args.rules.now in
    let sides = c.args.sides.now in
    let options = c.args.asked.now.options.now in
    let m = chosen_merge (policy_in rules) options.checks rules.file.now (bytes_of rules) (change_in rules) options.policy (choice_in c.args.asked.now) now before in
    let is =
    matched_chosen options.checks rules.file.now (bytes_of rules) (change_in rules) options.policy now before sides.current.now sides.baselines.now
    sides.paired.now (option_map (λ n. n.now) sides.narrowed) _ h c.requires.paired c.requires.narrowed c.requires.read
    refl refl refl refl c.knows_regions.ensures c.deref-2.ensures.value c.deref-3.ensures.value c.deref-4.ensures.value
    (c.deref-5.ensures.value ∙ c.in_ok-states.ensures ∙ states_there c.deref.result.now _ (c.deref.ensures.value ∙ c.requires.paired.states))
    c.deref-6.ensures.value c.deref-7.ensures.value c.deref-8.ensures.value c.deref-9.ensures.value
    (policy_in rules) (choice_in c.args.asked.now) (option_map (λ d. d.now) sides.decided) (option_map (λ r. r.now) sides.ruled)
    (c.requires.decided now before h) c.requires.ruled c.policy_by.ensures c.hidden_in.ensures c.absent_in.ensures c.standings_in.ensures
    (c.lent.ensures ∙ c.in_ok-marks.ensures.ok now before h) (c.in_ok-marks.ensures.fits now before h) in record {
      faultless = c.in_ok-life.ensures.sound m is;
      is = c.in_ok-life.ensures.made m is;
      read = c.in_ok-life.ensures.read m is;
    }

pub returns-in_err-marks-clause-unkept : goal.returns-in_err-marks-clause-unkept
returns-in_err-marks-clause-unkept g c = λ now before h.
    let rules = c.args.rules.now in
    let options = c.args.asked.now.options.now in
    let p = err_from_is_err_and c.from_residual.result c.from_residual.ensures.1 in
    rw (p.1, p.2) (misfit_unkept
    (chosen_merge (policy_in rules) options.checks rules.file.now (bytes_of rules) (change_in rules) options.policy (choice_in c.args.asked.now) now before)
    c.args.upkeep.now _ (c.in_err-marks.ensures.err now before h))
