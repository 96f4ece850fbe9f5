-- The input runs of a merged log without their copies.
use Rattle.std.proofs.Common.{◌≡◌, ◌≤◌, ℕ, zero, suc, Bool, true, false, List, [], ◌∷◌, ◌++◌, take, drop, length, Option, Some, None, codes, refl, sym, ap, ap₂, ◌∙◌, arith}
use Rattle.std.specs.Prelude.{option_and_then, option_map}
use Rattle.std.specs.List.{AllByRecursion, AllZip}
use Rattle.std.proofs.Math.Seq.{take-append_seam, drop-append_seam}
use Rattle.std.proofs.lemmas.List.{length-drop, length-take-le}
use Rattle.serde_json.specs.Data.{Data, null, boolean, number, string, array, object, Items, Members, put}
use Rattle.serde_json.specs.Find.{as_array}
use Rattle.serde_json.specs.View.{items_of}
use Rattle.serde_json.proofs.Views.{get_member-put}
use Rattle.json_parts.specs.Without.{without}
use Rattle.sarif_model.specs.declared.kinds.State.{State}
use Rattle.sarif_model.specs.declared.record.Record.{Record}
use Rattle.sarif_model.specs.Members.{elements}
use Rattle.sarif_model.specs.Run.{elements_or_none, results_array, results_of, results_total}
use Rattle.sarif_model.proofs.Elements.{items_back}
use Rattle.sarif_model.proofs.PutAgain.{put_put}
use Rattle.sarif_read.specs.Unmarked.{unmarked, with_array, without_marked}
use Rattle.sarif_read.proofs.Only.{results_without}
use Rattle.sarif_read.proofs.RunOf.{without_put}
use Rattle.sarif_results.specs.Drafts.{IsObject, IsRun, Listing}
use Rattle.sarif_runs.specs.Judging.{run_values}
use Rattle.sarif_runs.specs.Placed.{Placed}
use Rattle.sarif_runs.specs.Unmarked.{runs_without}
use Rattle.sarif_once.proofs.Spread.{unmarked_long}
use Rattle.sarif_log.specs.MergedRuns.{annotated_items, bare, merged_run, merged_runs, own_results, with_results, written, written_all}
use Rattle.sarif_log.proofs.RunResults.{still_out, taken_out}
use Rattle.sarif_prepare.specs.Once.{marks_of_runs}
use Rattle.sarif_laws_once.specs.Places.{values_without}
use Rattle.sarif_laws_once.proofs.Places.{IsMarked, each_without}
use Rattle.sarif_laws_once.proofs.Written.{run_long}

-- ---- results

written_left : (listed : Listing) (ms : List Bool) (rs : List Record) (ss : List State) (ds : List Data)
    → length ms ≡ length ds → length rs ≡ length ds → length ss ≡ length ds
    → unmarked ms (written_all listed rs ss ds) ≡ written_all listed (unmarked ms rs) (unmarked ms ss) (unmarked ms ds)
written_left listed [] rs ss [] same_m same_r same_s = refl
written_left listed [] rs ss (d ∷ ds) same_m same_r same_s = absurd (omega (arith, same_m))
written_left listed (m ∷ ms) rs ss [] same_m same_r same_s = absurd (omega (arith, same_m))
written_left listed (m ∷ ms) [] ss (d ∷ ds) same_m same_r same_s = absurd (omega (arith, same_r))
written_left listed (m ∷ ms) (r ∷ rs) [] (d ∷ ds) same_m same_r same_s = absurd (omega (arith, same_s))
written_left listed (true ∷ ms) (r ∷ rs) (s ∷ ss) (d ∷ ds) same_m same_r same_s =
    written_left listed ms rs ss ds (omega (arith, same_m)) (omega (arith, same_r)) (omega (arith, same_s))
written_left listed (false ∷ ms) (r ∷ rs) (s ∷ ss) (d ∷ ds) same_m same_r same_s =
    ap (λ es. written listed r s d ∷ es) (written_left listed ms rs ss ds (omega (arith, same_m)) (omega (arith, same_r)) (omega (arith, same_s)))

-- ---- a run

-- a run with other results, without those that are marked
pub with_left : (ms : List Bool) (ds : List Data) (members : Members)
    → without_marked ms (object (with_results (Some (items_of ds)) members)) ≡ object (with_results (Some (items_of (unmarked ms ds))) members)
with_left ms ds members =
    let run = object (put (codes "results") (array (items_of ds)) members) in
    let found : results_array run ≡ Some (items_of ds) = ap (option_and_then as_array) (get_member-put (codes "results") (array (items_of ds)) members) in
    ap (λ f. with_array (option_map (λ _. items_of (unmarked ms (elements_or_none f))) f) run) found
    ∙ ap (λ es. object (put (codes "results") (array (items_of (unmarked ms es))) (put (codes "results") (array (items_of ds)) members))) (items_back ds)
    ∙ ap object (put_put (codes "results") (array (items_of (unmarked ms ds))) (array (items_of ds)) members)

none_left : (ms : List Bool) (members : Members) → without_marked ms (object (bare members)) ≡ object (bare members)
none_left ms members =
    ap (λ f. with_array (option_map (λ _. items_of (unmarked ms (elements_or_none f))) f) (object (bare members)))
    (ap (option_and_then as_array) (still_out (codes "results") (codes "baselineGuid") (without (codes "results") members) (taken_out (codes "results") members)))

-- the other members stay
pub bare_put : (d : Data) (members : Members) → bare (put (codes "results") d members) ≡ bare members
bare_put d members = ap (without (codes "baselineGuid")) (without_put (codes "results") d members)

found_left : (listed : Listing) (ms : List Bool) (rs : List Record) (ss : List State) (found : Option Items) (members : Members)
    → own_results members ≡ found
    → length ms ≡ length (elements_or_none found) → length rs ≡ length (elements_or_none found) → length ss ≡ length (elements_or_none found)
    → without_marked ms (object (with_results (annotated_items listed rs ss found) (bare members)))
    ≡ merged_run listed (unmarked ms rs) (unmarked ms ss) (with_array (option_map (λ _. items_of (unmarked ms (elements_or_none found))) found) (object members))
found_left listed ms rs ss None members is same_m same_r same_s =
    none_left ms members
    ∙ sym (ap (λ f. object (with_results (annotated_items listed (unmarked ms rs) (unmarked ms ss) f) (bare members))) is)
found_left listed ms rs ss (Some ds) members is same_m same_r same_s =
    let left = unmarked ms (elements ds) in
    let again : own_results (put (codes "results") (array (items_of left)) members) ≡ Some (items_of left) =
    ap (option_and_then as_array) (get_member-put (codes "results") (array (items_of left)) members) in
    with_left ms (written_all listed rs ss (elements ds)) (bare members)
    ∙ ap (λ es. object (with_results (Some (items_of es)) (bare members)))
    (written_left listed ms rs ss (elements ds) same_m same_r same_s
    ∙ ap (written_all listed (unmarked ms rs) (unmarked ms ss)) (sym (items_back left)))
    ∙ ap₂ (λ f beside. object (with_results (annotated_items listed (unmarked ms rs) (unmarked ms ss) f) beside)) (sym again)
    (sym (bare_put (array (items_of left)) members))

run_left : (listed : Listing) (ms : List Bool) (rs : List Record) (ss : List State) (run : Data) → IsObject run
    → length ms ≡ length (results_of run) → length rs ≡ length (results_of run) → length ss ≡ length (results_of run)
    → without_marked ms (merged_run listed rs ss run) ≡ merged_run listed (unmarked ms rs) (unmarked ms ss) (without_marked ms run)
run_left listed ms rs ss null is same_m same_r same_s = absurd is
run_left listed ms rs ss (boolean b) is same_m same_r same_s = absurd is
run_left listed ms rs ss (number n) is same_m same_r same_s = absurd is
run_left listed ms rs ss (string t) is same_m same_r same_s = absurd is
run_left listed ms rs ss (array ds) is same_m same_r same_s = absurd is
run_left listed ms rs ss (object members) is same_m same_r same_s =
    found_left listed ms rs ss (own_results members) members refl same_m same_r same_s

-- ---- all runs

pub unmarked_split : {X : Type 0} (n : ℕ) (ms : List Bool) (xs : List X) → length ms ≡ length xs
    → unmarked ms xs ≡ unmarked (take n ms) (take n xs) ++ unmarked (drop n ms) (drop n xs)
unmarked_split zero ms xs same = refl
unmarked_split (suc n) [] [] same = refl
unmarked_split (suc n) [] (x ∷ xs) same = absurd (omega (arith, same))
unmarked_split (suc n) (m ∷ ms) [] same = absurd (omega (arith, same))
unmarked_split (suc n) (true ∷ ms) (x ∷ xs) same = unmarked_split n ms xs (omega (arith, same))
unmarked_split (suc n) (false ∷ ms) (x ∷ xs) same = ap (λ ys. x ∷ ys) (unmarked_split n ms xs (omega (arith, same)))

-- the first of the others, and the rest of them
pub take_left : {X : Type 0} (n k : ℕ) (ms : List Bool) (xs : List X) → length ms ≡ length xs → k ≡ length (unmarked (take n ms) (take n xs))
    → take k (unmarked ms xs) ≡ unmarked (take n ms) (take n xs)
take_left n k ms xs same is =
    ap₂ take is (unmarked_split n ms xs same) ∙ take-append_seam (unmarked (take n ms) (take n xs)) (unmarked (drop n ms) (drop n xs))

pub drop_left : {X : Type 0} (n k : ℕ) (ms : List Bool) (xs : List X) → length ms ≡ length xs → k ≡ length (unmarked (take n ms) (take n xs))
    → drop k (unmarked ms xs) ≡ unmarked (drop n ms) (drop n xs)
drop_left n k ms xs same is =
    ap₂ drop is (unmarked_split n ms xs same) ∙ drop-append_seam (unmarked (take n ms) (take n xs)) (unmarked (drop n ms) (drop n xs))

pub as_many_left : {X Y : Type 0} (n : ℕ) (ms : List Bool) (xs : List X) (ys : List Y) → length ys ≡ n → n ≤ length ms → length ms ≡ length xs
    → length (unmarked (take n ms) ys) ≡ length (unmarked (take n ms) (take n xs))
as_many_left n ms xs ys same le all =
    let few_m = length-take-le n ms le in
    let few_x = length-take-le n xs (omega (arith, le, all)) in
    unmarked_long (take n ms) ys (take n xs) (omega (arith, few_m, same)) (omega (arith, few_m, few_x))

pub inputs_marked : (listed : Listing) (ms : List Bool) (rs : List Record) (ss : List State) (runs : List Data) → AllByRecursion IsRun runs
    → length ms ≡ results_total runs → AllZip IsMarked (marks_of_runs ms runs) (merged_runs listed rs ss runs)
inputs_marked listed ms rs ss [] are same = tt
inputs_marked listed ms rs ss (run ∷ runs) are same =
    let n = length (results_of run) in (
      length-take-le n ms (omega (arith, same)) ∙ sym (run_long listed (take n rs) (take n ss) run are.0.0),
      inputs_marked listed (drop n ms) (drop n rs) (drop n ss) runs are.1 (omega (arith, length-drop n ms, same)),
    )

pub inputs_left : (listed : Listing) (ms : List Bool) (rs : List Record) (ss : List State) (runs : List Data) → AllByRecursion IsRun runs
    → length ms ≡ results_total runs → length rs ≡ length ms → length ss ≡ length ms
    → each_without (marks_of_runs ms runs) (merged_runs listed rs ss runs)
    ≡ merged_runs listed (unmarked ms rs) (unmarked ms ss) (values_without ms runs)
inputs_left listed ms rs ss [] are same same_r same_s = refl
inputs_left listed ms rs ss (run ∷ runs) are same same_r same_s =
    let n = length (results_of run) in
    let k = length (results_of (without_marked (take n ms) run)) in
    let le : n ≤ length ms = omega (arith, same) in
    let found : k ≡ length (unmarked (take n ms) (results_of run)) = ap length (results_without (take n ms) run) in
    let of_rs : k ≡ length (unmarked (take n ms) (take n rs)) = found ∙ as_many_left n ms rs (results_of run) refl le (sym same_r) in
    let of_ss : k ≡ length (unmarked (take n ms) (take n ss)) = found ∙ as_many_left n ms ss (results_of run) refl le (sym same_s) in
    let here =
    run_left listed (take n ms) (take n rs) (take n ss) run are.0.0 (length-take-le n ms le)
    (length-take-le n rs (omega (arith, le, same_r))) (length-take-le n ss (omega (arith, le, same_s))) in
    let rest =
    inputs_left listed (drop n ms) (drop n rs) (drop n ss) runs are.1 (omega (arith, length-drop n ms, same))
    (omega (arith, length-drop n ms, length-drop n rs, same_r)) (omega (arith, length-drop n ms, length-drop n ss, same_s)) in
    ap₂ (λ d ds. d ∷ ds)
    (here ∙ ap₂ (λ qs ts. merged_run listed qs ts (without_marked (take n ms) run)) (sym (take_left n k ms rs (sym same_r) of_rs))
    (sym (take_left n k ms ss (sym same_s) of_ss)))
    (rest ∙ ap₂ (λ qs ts. merged_runs listed qs ts (values_without (drop n ms) runs)) (sym (drop_left n k ms rs (sym same_r) of_rs))
    (sym (drop_left n k ms ss (sym same_s) of_ss)))

pub values_are : (ms : List Bool) (ps : List Placed) → values_without ms (run_values ps) ≡ run_values (runs_without ms ps)
values_are ms [] = refl
values_are ms (p ∷ ps) =
    let n = length (results_of p.run) in
    ap (λ ds. without_marked (take n ms) p.run ∷ ds) (values_are (drop n ms) ps)
