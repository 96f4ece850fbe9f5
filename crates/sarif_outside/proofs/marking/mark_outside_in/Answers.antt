use Rattle.std.proofs.Common.{◌≡◌, map, sym, ap, subst, ◌∙◌}
use Rattle.std.specs.List.{All}
use Rattle.sarif_runs.specs.Internal.Opened.{placed_of}
use Rattle.sarif_runs.specs.Internal.Spots.{IsSpotOf}
use Rattle.sarif_runs.proofs.SpotsWithin.{spots_within}
use Rattle.std.proofs.lemmas.List.Elements.{All-same}
use Rattle.sarif_outside.specs.Internal.Asked.{IsLookedFor, mark_by, placed_looked, scoped}
use Rattle.sarif_outside.specs.Marks.{both, is_outside_at}
use Rattle.sarif_outside.proofs.marking.mark_outside_in.Goals as goal

pub list_asked-requires-clause-within : goal.list_asked-requires-clause-within
list_asked-requires-clause-within g c =
    let runs = map placed_of c.args.runs.now in
    let named : map placed_looked c.deref.result.now ≡ runs =
    ap (map placed_looked) c.deref.ensures.value ∙ c.in_ok-looked.ensures.placed in
    let places = c.deref-2.ensures.value ∙ c.in_ok-spots.ensures in
    subst (λ ps. All (IsSpotOf ps) c.deref-2.result.now) (sym named) (subst (All (IsSpotOf runs)) (sym places) (spots_within runs))

pub returns : goal.returns
returns g c =
    let change = scoped c.args.change.now in
    let asked = c.args.asked.now in
    let runs = map placed_of c.args.runs.now in
    c.in_ok-marks.ensures
    ∙ ap (map mark_by) c.deref-3.ensures.value
    ∙ c.in_ok-list.ensures change (All-same (IsLookedFor change) c.deref.result.now c.in_ok-looked.looked.items c.deref.ensures.value c.in_ok-looked.ensures.looked)
    ∙ ap (λ ps. both asked (map (is_outside_at change ps) c.deref-2.result.now)) (ap (map placed_looked) c.deref.ensures.value ∙ c.in_ok-looked.ensures.placed)
    ∙ ap (λ l. both asked (map (is_outside_at change runs) l)) (c.deref-2.ensures.value ∙ c.in_ok-spots.ensures)
