use Rattle.std.proofs.Common.{◌≡◌, map, sym, ap, subst, ◌∙◌}
use Rattle.std.specs.List.{All}
use Rattle.sarif_prepare.specs.Internal.Leftover.{not_taken}
use Rattle.sarif_runs.specs.Internal.Opened.{placed_of}
use Rattle.sarif_runs.specs.Internal.Spots.{IsSpotOf}
use Rattle.sarif_prepare.specs.Internal.Telling.{placed_told}
use Rattle.sarif_prepare.proofs.ToldRuns.{left_within}
use Rattle.sarif_prepare.proofs.telling.tell_left.Goals as goal

pub list_told-requires-clause-within : goal.list_told-requires-clause-within
list_told-requires-clause-within g c =
    let runs = map placed_of c.args.baselines.now.runs.items in
    let taken = c.args.paired.now.taken.items in
    let named : map placed_told c.deref-4.result.now ≡ runs =
    ap (map placed_told) c.deref-4.ensures.value ∙ c.in_ok-runs.ensures ∙ ap (map placed_of) c.deref-3.ensures.value in
    let places =
    c.deref-5.ensures.value ∙ c.in_ok-spots.ensures ∙ ap (λ ts. not_taken ts c.deref.result.now) c.deref-2.ensures.value
    ∙ ap (not_taken taken) c.deref.ensures.value in
    subst (λ ps. All (IsSpotOf ps) c.deref-5.result.now) (sym named)
    (subst (All (IsSpotOf runs)) (sym places) (left_within (IsSpotOf runs) taken c.args.baselines.now.spots.items c.requires.within))
