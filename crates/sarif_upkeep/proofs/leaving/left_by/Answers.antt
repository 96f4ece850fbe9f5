use Rattle.std.proofs.Common.{sym, ap, ◌∙◌}
use Rattle.sarif_counts.specs.Hits.{count_if}
use Rattle.sarif_upkeep.specs.Renewed.{stay_in}
use Rattle.sarif_upkeep.proofs.OthersCounted.{marks_long, none_alike, none_told, some_alike, stay_of_all, stay_of_marked, stay_told}
use Rattle.sarif_upkeep.proofs.leaving.left_by.Goals as goal

pub left_of_marked-requires-clause-marks : goal.left_of_marked-requires-clause-marks
left_of_marked-requires-clause-marks c = marks_long c.requires.matched.0 c.args.matched.now c.requires.matched.1 _ c.in-Some.is

pub returns-then-not-renewal-clause-alike : goal.returns-then-not-renewal-clause-alike
returns-then-not-renewal-clause-alike c = λ m is added.
    c.none_left.ensures.alike ∙ none_alike m c.args.renewal.now c.args.matched.now.chosen is.chosen c.if-not-renewal.true

pub returns-then-not-renewal-clause-stay : goal.returns-then-not-renewal-clause-stay
returns-then-not-renewal-clause-stay c = λ m is added.
    c.none_left.ensures.stay ∙ ap (λ b. count_if b (stay_in m c.args.renewal.now)) (sym c.if-not-renewal.true)

pub returns-in-None-clause-alike : goal.returns-in-None-clause-alike
returns-in-None-clause-alike c = λ m is added. none_told m c.args.renewal.now c.args.matched.now.chosen is.chosen c.in-None.is

pub returns-in-None-clause-stay : goal.returns-in-None-clause-stay
returns-in-None-clause-stay c = λ m is added.
    let renewal = c.args.renewal.now in
    stay_told m renewal c.args.matched.now.chosen _ _ is.chosen c.if-not-renewal.false
    (stay_of_all m renewal c.args.matched.now.chosen _ c.in-None.is (c.left_of_all.ensures.count m is))
    (c.absent_stay-absent.ensures.count m is)

pub returns-in_ok-others-in-Some-clause-alike : goal.returns-in_ok-others-in-Some-clause-alike
returns-in_ok-others-in-Some-clause-alike c = λ m is added.
    some_alike m c.args.renewal.now c.args.matched.now.chosen _ _ is.chosen c.in-Some.is c.if-not-renewal.false
    (c.in_ok-others-in-Some.ensures.alike m is added)

pub returns-in_ok-others-in-Some-clause-stay : goal.returns-in_ok-others-in-Some-clause-stay
returns-in_ok-others-in-Some-clause-stay c = λ m is added.
    let renewal = c.args.renewal.now in
    stay_told m renewal c.args.matched.now.chosen _ _ is.chosen c.if-not-renewal.false
    (stay_of_marked m renewal c.args.matched.now.chosen _ _ c.in-Some.is (c.in_ok-others-in-Some.ensures.left m is added))
    (c.absent_stay-absent.ensures.count m is)
