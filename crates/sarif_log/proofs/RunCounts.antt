-- Drafts are counted as the runs of the merged log are.
use Rattle.std.proofs.Common.{◌≡◌, ◌+◌, ◌++◌, ℕ, zero, suc, Bool, List, [], ◌∷◌, Option, Some, None, map, take, drop, length, length-append, refl, sym, ap, ◌∙◌, arith}
use Rattle.std.proofs.lemmas.List.{take-map, drop-map, length-take-le, length-drop}
use Rattle.std.specs.List.{AllByRecursion, flat_map}
use Rattle.serde_json.specs.Data.{Data, null, boolean, number, string, array, object, Items, Members}
use Rattle.serde_json.specs.View.{items_of}
use Rattle.sarif_model.specs.declared.kinds.Level.{Level}
use Rattle.sarif_model.specs.declared.kinds.State.{State}
use Rattle.sarif_model.specs.declared.record.Record.{Record}
use Rattle.sarif_model.specs.Members.{elements}
use Rattle.sarif_model.specs.Run.{elements_or_none, results_of, results_total}
use Rattle.sarif_suppress.specs.declared.suppressions.Applied.{Applied}
use Rattle.sarif_counts.specs.CountOf.{count_in, count_of, items_in, results_in}
use Rattle.sarif_results.specs.declared.draft.Draft.{Draft}
use Rattle.sarif_results.specs.Drafts.{drafts_by, unapplied, IsObject, IsRun}
use Rattle.sarif_log.specs.Internal.Texts.{present_results, tallied, unless_taken}
use Rattle.sarif_results.specs.Drafts.{Listing}
use Rattle.sarif_log.specs.MergedRuns.{absent_runs, annotated_items, bare, if_any, merged_run, merged_runs, own_results, unmatched, with_results, written_all}
use Rattle.sarif_model.specs.Run.{present}
use Rattle.sarif_log.proofs.ResultCounts.{tallied_written, tallied_unmatched}
use Rattle.sarif_log.proofs.RunResults.{bare_results, put_results_found}
use Rattle.sarif_log.proofs.RunTexts.{drafts_front, drafts_back, present_objects}

-- those before and those after
pub tallied_split : (n : ℕ) (ds : List Draft) (ss : List (Option State)) (s : State) (l : Level) (b : Bool)
    → tallied ds ss s l b ≡ tallied (take n ds) (take n ss) s l b + tallied (drop n ds) (drop n ss) s l b
tallied_split zero ds ss s l b = omega arith
tallied_split (suc n) [] ss s l b = omega arith
tallied_split (suc n) (d ∷ ds) [] s l b = tallied_none (drop n ds) where
  tallied_none : (es : List Draft) → 0 ≡ 0 + tallied es [] s l b
  tallied_none [] = refl
  tallied_none (e ∷ es) = refl
tallied_split (suc n) (d ∷ ds) (t ∷ ss) s l b = let rest = tallied_split n ds ss s l b in omega (arith, rest)

found_counts : (listed : Listing) (applied : Record → Applied) (rs : List Record) (ss : List State) (bs : Members) (found : Option Items) (s : State)
    (l : Level) (b : Bool)
    → results_in (object bs) ≡ items_in None
    → length rs ≡ length (elements_or_none found) → length ss ≡ length (elements_or_none found) → AllByRecursion IsObject (elements_or_none found)
    → tallied (drafts_by listed applied rs (elements_or_none found)) (map Some ss) s l b
    ≡ count_in (results_in (object (with_results (annotated_items listed rs ss found) bs))) s l b
found_counts listed applied [] ss bs None s l b none same_r same_s objects = ap (λ ds. count_in ds s l b) (sym none)
found_counts listed applied (r ∷ rs) ss bs None s l b none same_r same_s objects = absurd (omega (arith, same_r))
found_counts listed applied rs ss bs (Some ds) s l b none same_r same_s objects =
    tallied_written listed applied rs ss (elements ds) s l b same_r same_s objects
    ∙ ap (λ es. count_in es s l b) (sym (put_results_found (items_of (written_all listed rs ss (elements ds))) bs))

run_counts : (listed : Listing) (applied : Record → Applied) (rs : List Record) (ss : List State) (run : Data) (s : State) (l : Level) (b : Bool)
    → IsRun run → length rs ≡ length (results_of run) → length ss ≡ length (results_of run)
    → tallied (drafts_by listed applied rs (results_of run)) (map Some ss) s l b ≡ count_in (results_in (merged_run listed rs ss run)) s l b
run_counts listed applied rs ss null s l b is same_r same_s = absurd is.0
run_counts listed applied rs ss (boolean x) s l b is same_r same_s = absurd is.0
run_counts listed applied rs ss (number n) s l b is same_r same_s = absurd is.0
run_counts listed applied rs ss (string t) s l b is same_r same_s = absurd is.0
run_counts listed applied rs ss (array ds) s l b is same_r same_s = absurd is.0
run_counts listed applied rs ss (object ms) s l b is same_r same_s =
    found_counts listed applied rs ss (bare ms) (own_results ms) s l b (bare_results ms) same_r same_s is.1

pub runs_count : (listed : Listing) (applied : Record → Applied) (rs : List Record) (ss : List State) (runs : List Data) (s : State) (l : Level) (b : Bool)
    → AllByRecursion IsRun runs → length rs ≡ results_total runs → length ss ≡ length rs
    → tallied (drafts_by listed applied rs (flat_map results_of runs)) (map Some ss) s l b ≡ count_of (merged_runs listed rs ss runs) s l b
runs_count listed applied [] ss [] s l b are same_r same_s = refl
runs_count listed applied (r ∷ rs) ss [] s l b are same_r same_s = absurd (omega (arith, same_r))
runs_count listed applied rs ss (run ∷ runs) s l b are same_r same_s =
    let xs = results_of run in
    let ys = flat_map results_of runs in
    let n = length xs in
    let ds = drafts_by listed applied rs (xs ++ ys) in
    let long_r : length (take n rs) ≡ n = length-take-le n rs (omega (arith, same_r)) in
    let long_s : length (take n ss) ≡ n = length-take-le n ss (omega (arith, same_r, same_s)) in
    let rest_r : length (drop n rs) ≡ results_total runs = omega (arith, length-drop n rs, same_r) in
    let rest_s : length (drop n ss) ≡ length (drop n rs) = omega (arith, length-drop n rs, length-drop n ss, same_s) in
    tallied_split n ds (map Some ss) s l b
    ∙ ap (λ es. tallied es (take n (map Some ss)) s l b + tallied (drop n ds) (drop n (map Some ss)) s l b) (drafts_front listed applied rs xs ys)
    ∙ ap (λ zs. tallied (drafts_by listed applied (take n rs) xs) zs s l b + tallied (drop n ds) (drop n (map Some ss)) s l b) (take-map Some n ss)
    ∙ ap (λ m. m + tallied (drop n ds) (drop n (map Some ss)) s l b) (run_counts listed applied (take n rs) (take n ss) run s l b are.0 long_r long_s)
    ∙ ap (λ es. count_in (results_in (merged_run listed (take n rs) (take n ss) run)) s l b + tallied es (drop n (map Some ss)) s l b)
    (drafts_back listed applied rs xs ys)
    ∙ ap (λ zs. count_in (results_in (merged_run listed (take n rs) (take n ss) run)) s l b + tallied (drafts_by listed applied (drop n rs) ys)
    zs s l b) (drop-map Some n ss)
    ∙ ap (λ m. count_in (results_in (merged_run listed (take n rs) (take n ss) run)) s l b + m)
    (runs_count listed applied (drop n rs) (drop n ss) runs s l b are.1 rest_r rest_s)

left_counts_at : (ds : List Data) (run : Data) (more : List Data) (s : State) (l : Level) (b : Bool) → IsObject run
    → count_in (items_of ds) s l b + count_of more s l b ≡ count_of (if_any ds run more) s l b
left_counts_at [] run more s l b is = omega arith
left_counts_at (d ∷ ds) null more s l b is = absurd is
left_counts_at (d ∷ ds) (boolean x) more s l b is = absurd is
left_counts_at (d ∷ ds) (number n) more s l b is = absurd is
left_counts_at (d ∷ ds) (string t) more s l b is = absurd is
left_counts_at (d ∷ ds) (array es) more s l b is = absurd is
left_counts_at (d ∷ ds) (object ms) more s l b is = ap (λ es. count_in es s l b + count_of more s l b) (sym (put_results_found (items_of (d ∷ ds)) (bare ms)))

pub left_count : (rs : List Record) (taken : List Bool) (runs : List Data) (s : State) (l : Level) (b : Bool)
    → AllByRecursion IsRun runs → length rs ≡ length (present_results runs) → length taken ≡ length rs
    → tallied (drafts_by (λ _ own. own) unapplied rs (present_results runs)) (map unless_taken taken) s l b ≡ count_of (absent_runs rs taken runs) s l b
left_count [] taken [] s l b are same_r same_t = refl
left_count (r ∷ rs) taken [] s l b are same_r same_t = absurd (omega (arith, same_r))
left_count rs taken (run ∷ runs) s l b are same_r same_t =
    let xs = present (results_of run) in
    let ys = present_results runs in
    let n = length xs in
    let listed : Listing = λ _ own. own in
    let ds = drafts_by listed unapplied rs (xs ++ ys) in
    let ss = map unless_taken taken in
    let all_long : length rs ≡ n + length ys = same_r ∙ length-append xs ys in
    let rest_r : length (drop n rs) ≡ length ys = omega (arith, length-drop n rs, all_long) in
    let rest_t : length (drop n taken) ≡ length (drop n rs) = omega (arith, length-drop n rs, length-drop n taken, same_t) in
    let kept = unmatched (take n rs) (take n taken) xs in
    let others = absent_runs (drop n rs) (drop n taken) runs in
    tallied_split n ds ss s l b
    ∙ ap (λ es. tallied es (take n ss) s l b + tallied (drop n ds) (drop n ss) s l b) (drafts_front listed unapplied rs xs ys)
    ∙ ap (λ zs. tallied (drafts_by listed unapplied (take n rs) xs) zs s l b + tallied (drop n ds) (drop n ss) s l b) (take-map unless_taken n taken)
    ∙ ap (λ m. m + tallied (drop n ds) (drop n ss) s l b) (tallied_unmatched (take n rs) (take n taken) xs s l b (present_objects (results_of run) are.0.1))
    ∙ ap (λ es. count_in (items_of kept) s l b + tallied es (drop n ss) s l b) (drafts_back listed unapplied rs xs ys)
    ∙ ap (λ zs. count_in (items_of kept) s l b + tallied (drafts_by listed unapplied (drop n rs) ys) zs s l b) (drop-map unless_taken n taken)
    ∙ ap (λ m. count_in (items_of kept) s l b + m) (left_count (drop n rs) (drop n taken) runs s l b are.1 rest_r rest_t)
    ∙ left_counts_at kept run others s l b are.0.0
