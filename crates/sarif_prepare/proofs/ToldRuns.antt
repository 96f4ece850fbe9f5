-- The findings of the runs of a merged log, from the drafts of their results.
use Rattle.std.proofs.Common.{◌≡◌, ◌+◌, ◌++◌, ℕ, zero, suc, Bool, true, false, List, [], ◌∷◌, Option, Some, None, map, take, drop, length, length-append, append_assoc, codes, refl, sym, ap, ◌∙◌, arith}
use Rattle.std.proofs.Math.Seq.{take-append_seam, drop-append_seam, get_or-append_seam}
use Rattle.std.proofs.lemmas.List.{map-append, take-map, drop-map, drop_all, drop_more, length-map, length-take-le, length-drop}
use Rattle.std.specs.Prelude.{flat_map, option_and_then}
use Rattle.std.proofs.lemmas.List.Elements.{All-cons, All-drop, All-nil}
use Rattle.std.specs.List.{All, AllByRecursion, cons_option, filter_map, range_with_len}
use Rattle.serde_json.specs.Data.{Data, null, boolean, number, string, array, object, Items, Members}
use Rattle.serde_json.specs.Find.{as_array, get_member}
use Rattle.serde_json.specs.View.{items_of}
use Rattle.serde_json.proofs.Views.{get_member-put, get_member-put_other}
use Rattle.json_parts.proofs.Stripped.{get-without_other}
use Rattle.json_parts.specs.Without.{without}
use Rattle.sarif_model.specs.declared.kinds.State.{State}
use Rattle.sarif_model.specs.declared.kinds.State.TheVariants.{Absent}
use Rattle.sarif_model.specs.declared.record.Record.{Record}
use Rattle.sarif_model.specs.Members.{elements}
use Rattle.sarif_model.specs.Run.{elements_or_none, result_at, results_of, results_total}
use Rattle.sarif_suppress.specs.declared.suppressions.Applied.{Applied}
use Rattle.sarif_runs.specs.declared.spots.Spot.{Spot}
use Rattle.sarif_runs.specs.Judging.{run_values}
use Rattle.sarif_prepare.specs.Internal.Leftover.{not_taken}
use Rattle.sarif_runs.specs.Placed.{Placed}
use Rattle.sarif_runs.specs.Internal.Spots.{no_run, placed_at, spots_from, spots_in}
use Rattle.sarif_findings.specs.declared.finding.Finding.{Finding}
use Rattle.sarif_findings.specs.declared.reporting.Reporting.{Reporting}
use Rattle.sarif_findings.specs.Reported.{finding_if, reported_in}
use Rattle.sarif_prepare.proofs.RunsAlike.{AreAlike}
use Rattle.sarif_results.specs.declared.draft.Draft.{Draft}
use Rattle.sarif_results.specs.Drafts.{drafts_by, unapplied, IsObject, IsRun}
use Rattle.sarif_log.specs.Internal.Texts.{present_results, unless_taken}
use Rattle.sarif_results.specs.Drafts.{Listing}
use Rattle.sarif_log.specs.MergedRuns.{absent_runs, annotated_items, bare, if_any, merged_run, merged_runs, unmatched, with_absent, with_results, written_all}
use Rattle.sarif_model.specs.Run.{present}
use Rattle.sarif_model.proofs.Elements.{items_back}
use Rattle.sarif_log.specs.MergedRuns as runs
use Rattle.sarif_log.proofs.RunResults.{still_out, taken_out}
use Rattle.sarif_log.proofs.RunTexts.{drafts_front, drafts_back, present_objects}
use Rattle.sarif_prepare.specs.Internal.Telling.{own_results, pair_at, present_in, told_as, told_each, with_run}
use Rattle.sarif_prepare.proofs.ToldResults.{told_unmatched, told_written}

-- ---- a run as it is written

-- members that writing doesn't touch
beside : (name : List ℕ) (ms : Members) → (name ≡ codes "results" → ⊥) → (name ≡ codes "baselineGuid" → ⊥) → get_member name (bare ms) ≡ get_member name ms
beside name ms no_results no_guid =
    get-without_other name (codes "baselineGuid") (object (without (codes "results") ms)) no_guid
    ∙ get-without_other name (codes "results") (object ms) no_results

kept : (name : List ℕ) (results : Option Items) (ms : Members) → (name ≡ codes "results" → ⊥) → (name ≡ codes "baselineGuid" → ⊥)
    → get_member name (with_results results (bare ms)) ≡ get_member name ms
kept name None ms no_results no_guid = beside name ms no_results no_guid
kept name (Some ds) ms no_results no_guid =
    get_member-put_other name (codes "results") (array ds) (bare ms) no_results ∙ beside name ms no_results no_guid

pub alike : (results : Option Items) (ms : Members) → AreAlike (object (with_results results (bare ms))) (object ms)
alike results ms = record {
  tool = kept (codes "tool") results ms (λ e. cc) (λ e. cc);
  artifacts = kept (codes "artifacts") results ms (λ e. cc) (λ e. cc);
}

pub no_results : (ms : Members) → get_member (codes "results") (bare ms) ≡ None
no_results ms = still_out (codes "results") (codes "baselineGuid") (without (codes "results") ms) (taken_out (codes "results") ms)

-- the findings of a run with these results
of_results : (reporting : Reporting) (xs : List Data) (ms : Members)
    → reported_in reporting (object (with_results (Some (items_of xs)) (bare ms)))
    ≡ filter_map (finding_if reporting (object (with_results (Some (items_of xs)) (bare ms)))) xs
of_results reporting xs ms =
    let run = object (with_results (Some (items_of xs)) (bare ms)) in
    ap (λ o. filter_map (finding_if reporting run) (elements_or_none (option_and_then as_array o)))
    (get_member-put (codes "results") (array (items_of xs)) (bare ms))
    ∙ ap (filter_map (finding_if reporting run)) (items_back xs)

found_told : (reporting : Reporting) (listed : Listing) (applied : Record → Applied) (rs : List Record) (ss : List State) (ms : Members) (found : Option Items)
    → length rs ≡ length (elements_or_none found) → length ss ≡ length (elements_or_none found) → AllByRecursion IsObject (elements_or_none found)
    → told_each reporting (with_run (object ms) (elements_or_none found)) (drafts_by listed applied rs (elements_or_none found)) (map Some ss)
    ≡ reported_in reporting (object (with_results (annotated_items listed rs ss found) (bare ms)))
found_told reporting listed applied rs ss ms None same_r same_s objects =
    sym (ap (λ o. filter_map (finding_if reporting (object (bare ms))) (elements_or_none (option_and_then as_array o))) (no_results ms))
found_told reporting listed applied rs ss ms (Some ds) same_r same_s objects =
    let xs = written_all listed rs ss (elements ds) in
    told_written reporting (object (with_results (Some (items_of xs)) (bare ms))) (object ms) listed applied rs ss (elements ds)
    (alike (Some (items_of xs)) ms) same_r same_s objects
    ∙ sym (of_results reporting xs ms)

run_told : (reporting : Reporting) (listed : Listing) (applied : Record → Applied) (rs : List Record) (ss : List State) (run : Data)
    → IsRun run → length rs ≡ length (results_of run) → length ss ≡ length (results_of run)
    → told_each reporting (own_results run) (drafts_by listed applied rs (results_of run)) (map Some ss) ≡ reported_in reporting (merged_run listed rs ss run)
run_told reporting listed applied rs ss null is same_r same_s = absurd is.0
run_told reporting listed applied rs ss (boolean b) is same_r same_s = absurd is.0
run_told reporting listed applied rs ss (number n) is same_r same_s = absurd is.0
run_told reporting listed applied rs ss (string s) is same_r same_s = absurd is.0
run_told reporting listed applied rs ss (array ds) is same_r same_s = absurd is.0
run_told reporting listed applied rs ss (object ms) is same_r same_s =
    found_told reporting listed applied rs ss ms (runs.own_results ms) same_r same_s is.1

-- ---- all runs

none_told : (reporting : Reporting) (ps : List (Data × Data)) (ss : List (Option State)) → [] ≡ told_each reporting ps [] ss
none_told reporting [] ss = refl
none_told reporting (p ∷ ps) ss = refl

stateless_told : (reporting : Reporting) (ps : List (Data × Data)) (ds : List Draft) → [] ≡ told_each reporting ps ds []
stateless_told reporting [] ds = refl
stateless_told reporting (p ∷ ps) [] = refl
stateless_told reporting (p ∷ ps) (d ∷ ds) = refl

front : {X : Type 0} (o : Option X) (xs ys zs : List X) → xs ≡ ys ++ zs → cons_option o xs ≡ cons_option o ys ++ zs
front None xs ys zs same = same
front (Some x) xs ys zs same = ap (λ ws. x ∷ ws) same

-- the findings of the first n results, followed by those of the others
split : (reporting : Reporting) (n : ℕ) (ps : List (Data × Data)) (ds : List Draft) (ss : List (Option State))
    → told_each reporting ps ds ss ≡ told_each reporting (take n ps) (take n ds) (take n ss) ++ told_each reporting (drop n ps) (drop n ds) (drop n ss)
split reporting zero ps ds ss = refl
split reporting (suc n) [] ds ss = refl
split reporting (suc n) (p ∷ ps) [] ss = none_told reporting (drop n ps) (drop (suc n) ss)
split reporting (suc n) (p ∷ ps) (d ∷ ds) [] = stateless_told reporting (drop n ps) (drop n ds)
split reporting (suc n) (p ∷ ps) (d ∷ ds) (s ∷ ss) =
    front (told_as reporting p.0 p.1 d s) (told_each reporting ps ds ss) (told_each reporting (take n ps) (take n ds) (take n ss))
    (told_each reporting (drop n ps) (drop n ds) (drop n ss)) (split reporting n ps ds ss)

-- the findings of two lists of results, the first followed by the second
seam : (reporting : Reporting) (ps qs : List (Data × Data)) (n : ℕ) (ds : List Draft) (ss : List (Option State)) → n ≡ length ps
    → told_each reporting (ps ++ qs) ds ss ≡ told_each reporting ps (take n ds) (take n ss) ++ told_each reporting qs (drop n ds) (drop n ss)
seam reporting ps qs n ds ss same =
    split reporting n (ps ++ qs) ds ss
    ∙ ap (λ xs. told_each reporting xs (take n ds) (take n ss) ++ told_each reporting (drop n (ps ++ qs)) (drop n ds) (drop n ss))
    (ap (λ m. take m (ps ++ qs)) same ∙ take-append_seam ps qs)
    ∙ ap (λ xs. told_each reporting ps (take n ds) (take n ss) ++ told_each reporting xs (drop n ds) (drop n ss))
    (ap (λ m. drop m (ps ++ qs)) same ∙ drop-append_seam ps qs)

pub with_long : (run : Data) (ds : List Data) → length ds ≡ length (with_run run ds)
with_long run ds = sym (length-map ds (λ d. (run, d)))

pub runs_told : (reporting : Reporting) (listed : Listing) (applied : Record → Applied) (rs : List Record) (ss : List State) (runs : List Data)
    → AllByRecursion IsRun runs → length rs ≡ results_total runs → length ss ≡ length rs
    → told_each reporting (flat_map own_results runs) (drafts_by listed applied rs (flat_map results_of runs)) (map Some ss)
    ≡ flat_map (reported_in reporting) (merged_runs listed rs ss runs)
runs_told reporting listed applied rs ss [] are same_r same_s = refl
runs_told reporting listed applied rs ss (run ∷ runs) are same_r same_s =
    let xs = results_of run in
    let ys = flat_map results_of runs in
    let n = length xs in
    let ds = drafts_by listed applied rs (xs ++ ys) in
    let here = own_results run in
    let later = flat_map own_results runs in
    let long_r : length (take n rs) ≡ n = length-take-le n rs (omega (arith, same_r)) in
    let long_s : length (take n ss) ≡ n = length-take-le n ss (omega (arith, same_r, same_s)) in
    let rest_r : length (drop n rs) ≡ results_total runs = omega (arith, length-drop n rs, same_r) in
    let rest_s : length (drop n ss) ≡ length (drop n rs) = omega (arith, length-drop n rs, length-drop n ss, same_s) in
    seam reporting here later n ds (map Some ss) (with_long run xs)
    ∙ ap (λ es. told_each reporting here es (take n (map Some ss)) ++ told_each reporting later (drop n ds) (drop n (map Some ss)))
    (drafts_front listed applied rs xs ys)
    ∙ ap (λ zs. told_each reporting here (drafts_by listed applied (take n rs) xs) zs ++ told_each reporting later (drop n ds) (drop n (map Some ss)))
    (take-map Some n ss)
    ∙ ap (λ fs. fs ++ told_each reporting later (drop n ds) (drop n (map Some ss)))
    (run_told reporting listed applied (take n rs) (take n ss) run are.0 long_r long_s)
    ∙ ap (λ es. reported_in reporting (merged_run listed (take n rs) (take n ss) run) ++ told_each reporting later es (drop n (map Some ss)))
    (drafts_back listed applied rs xs ys)
    ∙ ap (λ zs. reported_in reporting (merged_run listed (take n rs) (take n ss) run)
    ++ told_each reporting later (drafts_by listed applied (drop n rs) ys) zs) (drop-map Some n ss)
    ∙ ap (λ fs. reported_in reporting (merged_run listed (take n rs) (take n ss) run) ++ fs)
    (runs_told reporting listed applied (drop n rs) (drop n ss) runs are.1 rest_r rest_s)

-- ---- what is left of baselines

absent_told : (reporting : Reporting) (xs : List Data) (run : Data) (more : List Data) (told : List Finding) → IsRun run
    → (told ≡ filter_map (finding_if reporting (with_absent xs run)) xs)
    → told ++ flat_map (reported_in reporting) more ≡ flat_map (reported_in reporting) (if_any xs run more)
absent_told reporting [] run more told is same = ap (λ fs. fs ++ flat_map (reported_in reporting) more) same
absent_told reporting (x ∷ xs) null more told is same = absurd is.0
absent_told reporting (x ∷ xs) (boolean b) more told is same = absurd is.0
absent_told reporting (x ∷ xs) (number n) more told is same = absurd is.0
absent_told reporting (x ∷ xs) (string s) more told is same = absurd is.0
absent_told reporting (x ∷ xs) (array ds) more told is same = absurd is.0
absent_told reporting (x ∷ xs) (object ms) more told is same =
    ap (λ fs. fs ++ flat_map (reported_in reporting) more) (same ∙ sym (of_results reporting (x ∷ xs) ms))

absent_alike : (xs : List Data) (run : Data) → IsRun run → AreAlike (with_absent xs run) run
absent_alike xs null is = absurd is.0
absent_alike xs (boolean b) is = absurd is.0
absent_alike xs (number n) is = absurd is.0
absent_alike xs (string s) is = absurd is.0
absent_alike xs (array ds) is = absurd is.0
absent_alike xs (object ms) is = alike (Some (items_of xs)) ms

left_told : (reporting : Reporting) (rs : List Record) (taken : List Bool) (runs : List Data)
    → AllByRecursion IsRun runs → length rs ≡ length (present_results runs) → length taken ≡ length rs
    → told_each reporting (flat_map present_in runs) (drafts_by (λ _ own. own) unapplied rs (present_results runs)) (map unless_taken taken)
    ≡ flat_map (reported_in reporting) (absent_runs rs taken runs)
left_told reporting rs taken [] are same_r same_t = refl
left_told reporting rs taken (run ∷ runs) are same_r same_t =
    let xs = present (results_of run) in
    let ys = present_results runs in
    let n = length xs in
    let listed : Listing = λ _ own. own in
    let ds = drafts_by listed unapplied rs (xs ++ ys) in
    let ss = map unless_taken taken in
    let here = present_in run in
    let later = flat_map present_in runs in
    let all_long : length rs ≡ n + length ys = same_r ∙ length-append xs ys in
    let long_r : length (take n rs) ≡ n = length-take-le n rs (omega (arith, all_long)) in
    let long_t : length (take n taken) ≡ n = length-take-le n taken (omega (arith, all_long, same_t)) in
    let rest_r : length (drop n rs) ≡ length ys = omega (arith, length-drop n rs, all_long) in
    let rest_t : length (drop n taken) ≡ length (drop n rs) = omega (arith, length-drop n rs, length-drop n taken, same_t) in
    let left = unmatched (take n rs) (take n taken) xs in
    let others = absent_runs (drop n rs) (drop n taken) runs in
    let told = told_each reporting here (drafts_by listed unapplied (take n rs) xs) (map unless_taken (take n taken)) in
    seam reporting here later n ds ss (with_long run xs)
    ∙ ap (λ es. told_each reporting here es (take n ss) ++ told_each reporting later (drop n ds) (drop n ss)) (drafts_front listed unapplied rs xs ys)
    ∙ ap (λ zs. told_each reporting here (drafts_by listed unapplied (take n rs) xs) zs ++ told_each reporting later (drop n ds) (drop n ss))
    (take-map unless_taken n taken)
    ∙ ap (λ es. told ++ told_each reporting later es (drop n ss)) (drafts_back listed unapplied rs xs ys)
    ∙ ap (λ zs. told ++ told_each reporting later (drafts_by listed unapplied (drop n rs) ys) zs) (drop-map unless_taken n taken)
    ∙ ap (λ fs. told ++ fs) (left_told reporting (drop n rs) (drop n taken) runs are.1 rest_r rest_t)
    ∙ absent_told reporting left run others told are.0
    (told_unmatched reporting (with_absent left run) run (take n rs) (take n taken) xs (absent_alike left run are.0) long_r long_t
    (present_objects (results_of run) are.0.1))

-- findings only for the results that are not taken
untaken : (reporting : Reporting) (taken : List Bool) (ps : List (Data × Data)) (ds : List Draft) → length ps ≡ length taken → length ds ≡ length taken
    → told_each reporting (not_taken taken ps) (not_taken taken ds) (map (λ _. Some Absent) (not_taken taken ds))
    ≡ told_each reporting ps ds (map unless_taken taken)
untaken reporting [] [] [] same_p same_d = refl
untaken reporting [] [] (d ∷ ds) same_p same_d = absurd (omega (arith, same_d))
untaken reporting [] (p ∷ ps) ds same_p same_d = absurd (omega (arith, same_p))
untaken reporting (t ∷ taken) [] ds same_p same_d = absurd (omega (arith, same_p))
untaken reporting (t ∷ taken) (p ∷ ps) [] same_p same_d = absurd (omega (arith, same_d))
untaken reporting (true ∷ taken) (p ∷ ps) (d ∷ ds) same_p same_d = untaken reporting taken ps ds (omega (arith, same_p)) (omega (arith, same_d))
untaken reporting (false ∷ taken) (p ∷ ps) (d ∷ ds) same_p same_d =
    ap (cons_option (told_as reporting p.0 p.1 d (Some Absent))) (untaken reporting taken ps ds (omega (arith, same_p)) (omega (arith, same_d)))

pub untaken_told : (reporting : Reporting) (rs : List Record) (taken : List Bool) (runs : List Data)
    → AllByRecursion IsRun runs → length rs ≡ length (present_results runs) → length taken ≡ length rs
    → length (flat_map present_in runs) ≡ length taken
    → length (drafts_by (λ _ own. own) unapplied rs (present_results runs)) ≡ length taken
    → told_each reporting (not_taken taken (flat_map present_in runs)) (not_taken taken (drafts_by (λ _ own. own) unapplied rs (present_results runs)))
    (map (λ _. Some Absent) (not_taken taken (drafts_by (λ _ own. own) unapplied rs (present_results runs))))
    ≡ flat_map (reported_in reporting) (absent_runs rs taken runs)
untaken_told reporting rs taken runs are same_r same_t long_p long_d =
    untaken reporting taken (flat_map present_in runs) (drafts_by (λ _ own. own) unapplied rs (present_results runs)) long_p long_d
    ∙ left_told reporting rs taken runs are same_r same_t

-- places are cut as their results are
pub not_taken-map : {X Y : Type 0} (f : X → Y) (taken : List Bool) (xs : List X) → map f (not_taken taken xs) ≡ not_taken taken (map f xs)
not_taken-map f [] xs = refl
not_taken-map f (t ∷ taken) [] = refl
not_taken-map f (true ∷ taken) (x ∷ xs) = not_taken-map f taken xs
not_taken-map f (false ∷ taken) (x ∷ xs) = ap (λ ys. f x ∷ ys) (not_taken-map f taken xs)

pub left_within : (P : Spot → Type 0) (taken : List Bool) (spots : List Spot) → All P spots → All P (not_taken taken spots)
left_within P [] spots all = All-nil P
left_within P (t ∷ taken) [] all = All-nil P
left_within P (true ∷ taken) (spot ∷ spots) all = left_within P taken spots (All-drop P 1 (spot ∷ spots) all)
left_within P (false ∷ taken) (spot ∷ spots) all =
    All-cons P spot (not_taken taken spots) (all 0 spot (omega arith)) (left_within P taken spots (All-drop P 1 (spot ∷ spots) all))

-- ---- the places of all results

many : (all : List Placed) (p : Placed) (run a m : ℕ) → placed_at all run ≡ p → a + m ≡ length (results_of p.run)
    → map (pair_at all) (map (λ seq. record { run = run; seq = seq }) (range_with_len a m)) ≡ with_run p.run (drop a (results_of p.run))
many all p run a zero is whole = sym (ap (with_run p.run) (drop_all a (results_of p.run) (omega (arith, whole))))
many all p run a (suc m) is whole =
    ap (λ q. (q.run, result_at q.run a) ∷ map (pair_at all) (map (λ seq. record { run = run; seq = seq }) (range_with_len (a + 1) m))) is
    ∙ ap (λ ps. (p.run, result_at p.run a) ∷ ps) (many all p run (a + 1) m is (omega (arith, whole)))
    ∙ sym (ap (with_run p.run) (drop_more (results_of p.run) a null (omega (arith, whole))))

of_run : (all : List Placed) (p : Placed) (run : ℕ) → placed_at all run ≡ p
    → map (pair_at all) (spots_in run (length (results_of p.run))) ≡ own_results p.run
of_run all p run is = many all p run 0 (length (results_of p.run)) is (omega arith)

from : (done rest : List Placed) (n : ℕ) → n ≡ length done → map (pair_at (done ++ rest)) (spots_from n rest) ≡ flat_map own_results (run_values rest)
from done [] n is = refl
from done (p ∷ rest) n is =
    let all = done ++ p ∷ rest in
    let here : placed_at all n ≡ p = ap (placed_at all) is ∙ get_or-append_seam done p rest no_run in
    let again : (done ++ p ∷ []) ++ rest ≡ all = append_assoc done (p ∷ []) rest in
    let later = spots_from (n + 1) rest in
    map-append (pair_at all) (spots_in n (length (results_of p.run))) later
    ∙ ap (λ ps. ps ++ map (pair_at all) later) (of_run all p n here)
    ∙ ap (λ ps. own_results p.run ++ map (pair_at ps) later) (sym again)
    ∙ ap (λ ps. own_results p.run ++ ps) (from (done ++ p ∷ []) rest (n + 1) (omega (arith, is, length-append done (p ∷ []))))

pub pairs_of_all : (runs : List Placed) → map (pair_at runs) (spots_from 0 runs) ≡ flat_map own_results (run_values runs)
pairs_of_all runs = from [] runs 0 refl
