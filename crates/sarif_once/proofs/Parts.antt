-- Runs without their marked results are judged as the runs were.
use Rattle.std.proofs.Common.{◌≡◌, ◌≤◌, suc, Bool, List, [], ◌∷◌, take, drop, length, refl, sym, ap, subst, arith}
use Rattle.std.specs.Prelude.{Option, Some, None, option_map}
use Rattle.std.specs.List.{AllByRecursion}
use Rattle.serde_json.specs.Data.{Data, null, boolean, number, string, array, object, Items}
use Rattle.serde_json.specs.View.{items_of as json_items}
use Rattle.sarif_model.specs.Run.{results_array, results_of, results_total}
use Rattle.sarif_read.specs.Unmarked.{unmarked, with_array, without_marked}
use Rattle.sarif_read.proofs.Only.{results_without, unmarked_few}
use Rattle.sarif_results.specs.Drafts.{IsObject, IsRun}
use Rattle.sarif_runs.specs.Judging.{run_values, skips}
use Rattle.sarif_runs.specs.Placed.{Placed}
use Rattle.sarif_runs.specs.Unmarked.{runs_without}
use Rattle.sarif_once.proofs.Lists.{all_left}

object_with : (found : Option Items) (d : Data) → IsObject d → IsObject (with_array found d)
object_with None d is = is
object_with (Some ds) null is = absurd is
object_with (Some ds) (boolean b) is = absurd is
object_with (Some ds) (number n) is = absurd is
object_with (Some ds) (string s) is = absurd is
object_with (Some ds) (array es) is = absurd is
object_with (Some ds) (object ms) is = tt

run_left : (marks : List Bool) (run : Data) → IsRun run → IsRun (without_marked marks run)
run_left marks run is = (
  object_with (option_map (λ _. json_items (unmarked marks (results_of run))) (results_array run)) run is.0,
  subst (AllByRecursion IsObject) (sym (results_without marks run)) (all_left IsObject marks (results_of run) is.1),
)

pub runs_left : (marks : List Bool) (ps : List Placed) → AllByRecursion IsRun (run_values ps) → AllByRecursion IsRun (run_values (runs_without marks ps))
runs_left marks [] are = tt
runs_left marks (p ∷ ps) are =
    let n = length (results_of p.run) in
    (run_left (take n marks) p.run are.0, runs_left (drop n marks) ps are.1)

pub sources_left : (baseline : Bool) (marks : List Bool) (ps : List Placed) → AllByRecursion (λ p. skips p.source ≡ baseline) ps
    → AllByRecursion (λ p. skips p.source ≡ baseline) (runs_without marks ps)
sources_left baseline marks [] all = tt
sources_left baseline marks (p ∷ ps) all = (all.0, sources_left baseline (drop (length (results_of p.run)) marks) ps all.1)

pub count_left : (marks : List Bool) (ps : List Placed) → length (runs_without marks ps) ≡ length ps
count_left marks [] = refl
count_left marks (p ∷ ps) = ap suc (count_left (drop (length (results_of p.run)) marks) ps)

pub total_left : (marks : List Bool) (ps : List Placed) → results_total (run_values (runs_without marks ps)) ≤ results_total (run_values ps)
total_left marks [] = omega arith
total_left marks (p ∷ ps) =
    let n = length (results_of p.run) in
    let here : length (results_of (without_marked (take n marks) p.run)) ≡ length (unmarked (take n marks) (results_of p.run)) =
    ap length (results_without (take n marks) p.run) in
    let few = unmarked_few (take n marks) (results_of p.run) in
    let rest = total_left (drop n marks) ps in
    omega (arith, here, few, rest)
