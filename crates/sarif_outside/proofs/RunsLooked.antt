-- The artifacts of runs are looked up in a change.
use Rattle.std.proofs.Common.{◌≡◌, ◌∙◌, List, [], ◌∷◌, map, drop, get_or, sym, ap}
use Rattle.std.proofs.lemmas.Simd.{map-map}
use Rattle.std.proofs.lemmas.List.Elements.{All-cons, All-nil}
use Rattle.sarif_runs.specs.Internal.Opened.{placed_of}
use Rattle.sarif_runs.specs.declared.opened.OpenedRun.{OpenedRun}
use Rattle.sarif_scope.specs.declared.gated.GatedChange.{GatedChange}
use Rattle.sarif_outside.specs.Internal.Asked.{AreLookedFor, IsLookedFor, looked_as, placed_looked}
use Rattle.sarif_outside.specs.declared.asked.LookedRun.{LookedRun}

pub all_placed : (change : GatedChange) (made : List LookedRun) (runs : List OpenedRun)
    → map looked_as made ≡ map (λ (run : OpenedRun). (change, placed_of run)) runs
    → map placed_looked made ≡ map placed_of runs
all_placed change made runs are =
    sym (map-map (λ pair. pair.1) looked_as made)
    ∙ ap (map (λ pair. pair.1)) are
    ∙ map-map (λ pair. pair.1) (λ (run : OpenedRun). (change, placed_of run)) runs

pub all_looked : (change : GatedChange) (made : List LookedRun) (runs : List OpenedRun)
    → map looked_as made ≡ map (λ (run : OpenedRun). (change, placed_of run)) runs
    → AreLookedFor change made
all_looked change [] runs are = All-nil (IsLookedFor change)
all_looked change (run ∷ made) [] are = cc
all_looked change (run ∷ made) (opened ∷ runs) are =
    All-cons (IsLookedFor change) run made
    (ap (λ pair. pair.0) (ap (λ l. get_or l 0 (looked_as run)) are))
    (all_looked change made runs (ap (drop 1) are))
