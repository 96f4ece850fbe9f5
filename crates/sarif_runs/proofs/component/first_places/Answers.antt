use Rattle.std.proofs.Common.{bytes_eq, take, sym, ap, ◌∙◌, arith}
use Rattle.sarif_runs.specs.Reading.{first_or}
use Rattle.sarif_runs.specs.Rules.{first_with_id}
use Rattle.sarif_runs.proofs.FirstPlaces.{position-take}
use Rattle.sarif_runs.proofs.component.first_places.Goals as goal

pub loop-place-preserved : goal.loop-place-preserved
loop-place-preserved c = λ q.
    let seen = take c.loop-place.place c.args.rules.now in
    c.in_ok-add_first.ensures q
    ∙ ap (λ o. first_or o (bytes_eq q c.as_str.result.now) c.loop-place.place) (c.loop-place.invariant q)
    ∙ ap (λ id. first_or (first_with_id q seen) (bytes_eq q id) c.loop-place.place) c.as_str.ensures
    ∙ ap (λ rule. first_or (first_with_id q seen) (bytes_eq q rule.id) c.loop-place.place) c.index-rules-place.is
    ∙ sym (position-take (λ rule. bytes_eq q rule.id) c.args.rules.now c.loop-place.place c.index-rules-place.result (omega arith))
