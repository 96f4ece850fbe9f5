use Rattle.std.proofs.Common.{map, ap, subst, ◌∙◌}
use Rattle.sarif_conditions.specs.Facts.{decided_of}
use Rattle.sarif_conditions.specs.Judged.{judged_of}
use Rattle.sarif_deciding.specs.Internal.Looked.{IsAbsentLooked, IsCurrentLooked}
use Rattle.sarif_deciding.specs.Merge.{matched_of}
use Rattle.sarif_deciding.proofs.deciding.decide_merge.Goals as goal

pub returns : goal.returns
returns g c =
    let cs = c.args.policy.now.conditions in
    let m = matched_of c.args.merge.now in
    let now = subst (λ given. IsCurrentLooked given m c.in_ok-current.current) c.as_slice-conditions.ensures c.in_ok-current.ensures in
    let gone = subst (λ given. IsAbsentLooked given m c.in_ok-absent.absent) c.as_slice-conditions.ensures c.in_ok-absent.ensures in
    c.in_ok-decided.ensures
    ∙ ap (decided_of cs) (ap (map judged_of) c.deref.ensures.value ∙ c.in_ok-results.ensures.judged cs now gone)
