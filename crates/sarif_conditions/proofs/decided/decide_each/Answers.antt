use Rattle.std.proofs.Common.{◌≡◌, ◌+◌, ◌++◌, ◌∷◌, [], map, take, ap, sym, ◌∙◌}
use Rattle.std.proofs.lemmas.List.{take_more, length-map}
use Rattle.sarif_conditions.specs.Internal.Deciding.{deciding_of}
use Rattle.sarif_conditions.specs.Judged.{judged_of}
use Rattle.sarif_conditions.proofs.DecidingMore.{standings_alike}
use Rattle.sarif_conditions.proofs.decided.decide_each.Goals as goal

pub add_condition-requires-clause-all : goal.add_condition-requires-clause-all
add_condition-requires-clause-all g c =
    let rs = c.args.results.now in
    standings_alike (take c.loop-condition.condition-index c.args.conditions.now) (map judged_of rs) c.loop-condition.all c.loop-condition.invariant
    ∙ length-map rs judged_of

pub loop-condition-preserved : goal.loop-condition-preserved
loop-condition-preserved g c =
    let cs = c.args.conditions.now in
    let i = c.loop-condition.condition-index in
    let one = c.condition-item.result in
    let taken : take (i + 1) cs ≡ take i cs ++ one ∷ [] =
    take_more cs i one c.loop-condition-test.true ∙ ap (λ x. take i cs ++ x ∷ []) (sym c.condition-item.is) in
    c.in_ok-add_condition.ensures (take i cs) c.loop-condition.invariant ∙ ap (λ ds. deciding_of ds (map judged_of c.args.results.now)) (sym taken)
