use Rattle.std.proofs.Common.{◌≡◌, ◌+◌, [], map, ◌∙◌}
use Rattle.std.specs.Prelude.{unwrap_or}
use Rattle.sarif_conditions.specs.Decided.{is_unused, unused_by}
use Rattle.sarif_conditions.specs.Internal.Deciding.{outcome_of}
use Rattle.sarif_conditions.specs.Judged.{judged_of}
use Rattle.sarif_conditions.proofs.DecidingMore.{one_condition, parts_counted}
use Rattle.sarif_conditions.proofs.decided.add_condition.Goals as goal

pub returns : goal.returns
returns g c = λ before was.
    let one = c.args.condition.now in
    let rs = map judged_of c.args.results.now in
    let tried = c.in_ok-tried.tried in
    let os : c.deref.result.now ≡ map (outcome_of one) rs = c.deref.ensures.value ∙ c.in_ok-outcomes.ensures in
    let unused : tried.only.unused + tried.except.unused ≡ unused_by rs one =
    rw (c.in_ok-tried.ensures.only.unused, c.in_ok-tried.ensures.except.unused)
    (parts_counted (is_unused rs) (unwrap_or one.only []) one.except) in
    one_condition before one rs c.args.all.now _ c.deref.result.now (tried.only.unused + tried.except.unused)
    os unused c.in_ok-add.ensures was
