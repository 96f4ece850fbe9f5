-- A rating depends only on the tool of the run, and a result is rated by what it names.
use Rattle.std.proofs.lemmas.Simd.{map-map}
use Rattle.serde_json.specs.View.{view}
use Rattle.serde_json.specs.declared.value.Value.{Value}
use Rattle.sarif_runs.specs.Internal.Opened.{placed_of}
use Rattle.sarif_runs.specs.declared.opened.OpenedRun.{OpenedRun}
use Rattle.std.proofs.Common.{map, ◌≡◌, ◌∙◌, ℕ, List, [], ◌∷◌, Option, Some, None, codes, refl, sym, ap}
use Rattle.std.specs.Prelude.{option_and_then}
use Rattle.serde_json.specs.Data.{Data}
use Rattle.serde_json.specs.Find.{get}
use Rattle.sarif_findings.specs.Lookup.{component_by, element_at, extension_index, rule_in}
use Rattle.sarif_policy.specs.Rating.{rating_of}
use Rattle.sarif_read.proofs.Beside.{bare_get}
use Rattle.sarif_read.specs.Internal.Bare.{bare}
use Rattle.sarif_ratings.specs.Ratings.{rating_in}

component_alike : (a b : Data) (n : Option ℕ) → get (codes "tool") a ≡ get (codes "tool") b
    → component_by a n ≡ component_by b n
component_alike a b None same = ap (option_and_then (get (codes "driver"))) same
component_alike a b (Some n) same = ap (option_and_then (λ tool. element_at (codes "extensions") tool n)) same

-- a run without its results rates them alike
pub bare_rated : (run found : Data) → rating_in (bare run) found ≡ rating_in run found
bare_rated run found =
    ap (λ component. rating_of found (option_and_then (rule_in found) component))
    (component_alike (bare run) run (extension_index found) (bare_get (codes "tool") run refl))

each_bare : (runs : List OpenedRun) (found : Data)
    → map (λ (run : OpenedRun). rating_in (bare (placed_of run).run) found) runs
    ≡ map (λ (run : OpenedRun). rating_in (placed_of run).run found) runs
each_bare [] found = refl
each_bare (run ∷ runs) found =
    ap (λ one. one ∷ map (λ (other : OpenedRun). rating_in (bare (placed_of other).run) found) runs) (bare_rated (placed_of run).run found)
    ∙ ap (λ more. rating_in (placed_of run).run found ∷ more) (each_bare runs found)

-- runs that are rated without their results
pub all_rated : (rated : List Value) (runs : List OpenedRun)
    → map view rated ≡ map (λ (run : OpenedRun). bare (placed_of run).run) runs → (found : Data)
    → map (λ (run : Value). rating_in (view run) found) rated
    ≡ map (λ (run : OpenedRun). rating_in (placed_of run).run found) runs
all_rated rated runs are found =
    sym (map-map (λ d. rating_in d found) view rated)
    ∙ ap (map (λ d. rating_in d found)) are
    ∙ map-map (λ d. rating_in d found) (λ (run : OpenedRun). bare (placed_of run).run) runs
    ∙ each_bare runs found
