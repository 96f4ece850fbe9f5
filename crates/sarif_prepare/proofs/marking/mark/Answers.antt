use Rattle.std.proofs.Common.{Some, inl, inr, ap, ◌∙◌}
use Rattle.std.proofs.lemmas.Result.{err_from_is_err_and}
use Rattle.std.specs.Prelude.{option_map}
use Rattle.sarif_prepare.specs.Chosen.{at_of}
use Rattle.sarif_prepare.proofs.MarkedSides.{shown_many, states_many}
use Rattle.sarif_prepare.proofs.RuledMarks.{mark_by, misfit_is_by, ruled_many}
use Rattle.sarif_prepare.proofs.marking.mark.Goals as goal

pub spread_marks-requires-clause-shown : goal.spread_marks-requires-clause-shown
spread_marks-requires-clause-shown g c =
    let sides = c.args.sides.now in
    let sides_of = c.requires.together in
    let options = c.args.asked.now.options.now in
    shown_many options.checks.matching c.in_ok-reporting.reporting c.args.choosing.now.choice sides_of.0 sides_of.1 sides_of.2
    sides.current.now sides.baselines.now sides.paired.now sides_of.3 c.requires.paired c.requires.narrowed.0 options.policy
    (option_map (λ n. n.now) sides.narrowed) c.requires.narrowed.1

pub spread_marks-requires-clause-ruled : goal.spread_marks-requires-clause-ruled
spread_marks-requires-clause-ruled g c =
    let sides = c.args.sides.now in
    let sides_of = c.requires.together in
    let options = c.args.asked.now.options.now in
    ruled_many sides.current.now sides.paired.now (option_map (λ d. d.now) sides.decided) (option_map (λ r. r.now) sides.ruled) c.requires.ruled c.requires.each
    (states_many options.checks.matching c.in_ok-reporting.reporting c.args.choosing.now.choice sides_of.0 sides_of.1 sides_of.2
    sides.current.now sides.baselines.now sides.paired.now sides_of.3 c.requires.paired)

pub returns-clause-ok : goal.returns-clause-ok
returns-clause-ok g c = λ file now before h change k conditions decided.
    let options = c.args.asked.now.options.now in
    let sides = c.args.sides.now in
    ap Some
    (mark_by options.policy c.args.choosing.now c.in_ok-reporting.reporting c.as_slice.result.now c.in_ok-reporting.ensures c.as_slice.ensures
    options.checks.matching file now before sides.current.now sides.baselines.now sides.paired.now h c.requires.paired change
    (option_map (λ n. n.now) sides.narrowed) k conditions (option_map (λ d. d.now) sides.decided) (option_map (λ r. r.now) sides.ruled) decided c.requires.ruled
    c.deref.result.now c.in_ok-marks.marks.items c.deref-2.result.now _
    (c.deref.ensures.value ∙ c.in_ok-hits.ensures file now before h change k conditions decided) c.in_ok-marks.ensures.ok c.deref-2.ensures.value
    c.in_ok-spread.ensures)

pub returns-clause-fits : goal.returns-clause-fits
returns-clause-fits g c = λ file now before h change k conditions decided.
    let options = c.args.asked.now.options.now in
    let sides = c.args.sides.now in
    misfit_is_by options.policy c.args.choosing.now c.in_ok-reporting.reporting c.as_slice.result.now c.in_ok-reporting.ensures c.as_slice.ensures
    options.checks.matching file now before sides.current.now sides.baselines.now sides.paired.now h c.requires.paired change conditions
    c.in_ok-hits.hits.items c.deref.result.now (c.in_ok-hits.ensures file now before h change k conditions decided) c.deref.ensures.value
    ∙ ap (λ o. option_map at_of o) c.in_ok-marks.ensures.fits

pub returns-in_err-marks-clause-err : goal.returns-in_err-marks-clause-err
returns-in_err-marks-clause-err g c = λ file now before h change k conditions decided.
    let options = c.args.asked.now.options.now in
    let sides = c.args.sides.now in
    let p = err_from_is_err_and c.from_residual-in_err-marks.result c.from_residual-in_err-marks.ensures.1 in
    let same =
    misfit_is_by options.policy c.args.choosing.now c.in_ok-reporting.reporting c.as_slice.result.now c.in_ok-reporting.ensures c.as_slice.ensures
    options.checks.matching file now before sides.current.now sides.baselines.now sides.paired.now h c.requires.paired change conditions
    c.in_ok-hits.hits.items c.deref.result.now (c.in_ok-hits.ensures file now before h change k conditions decided) c.deref.ensures.value in
    rw (p.1, p.2) (elim c.in_err-marks.ensures.err [ inl out ↦ inl out | inr found ↦ inr (found.0, found.1, same ∙ found.2) ])
