-- The JSON of runs with their drafts is that of the runs of the merged log.
use Rattle.std.proofs.Common.{◌≡◌, ◌+◌, ℕ, Bool, true, false, not, List, [], ◌∷◌, ◌++◌, Option, Some, None, map, take, drop, length, is_some, option_map, unwrap_or, cond, length-append, codes, refl, sym, ap, ◌∙◌, arith}
use Rattle.std.proofs.lemmas.List.{take-map, drop-map, length-take-le, length-drop}
use Rattle.std.specs.List.{AllByRecursion, flat_map, list_any}
use Rattle.json_parts.specs.Internal.Around.{filled, surrounding}
use Rattle.json_parts.proofs.Filled.{filled_is_put}
use Rattle.serde_json.specs.Data.{Data, null, boolean, number, string, array, object, Items, Members, put}
use Rattle.serde_json.specs.View.{items_of, members_view}
use Rattle.serde_json.specs.Written.{compact_text}
use Rattle.sarif_model.specs.declared.kinds.State.{State}
use Rattle.sarif_model.specs.declared.record.Record.{Record}
use Rattle.sarif_model.specs.Members.{elements}
use Rattle.sarif_model.specs.Run.{elements_or_none, is_absent_result, results_of, results_array, results_total}
use Rattle.sarif_suppress.specs.declared.suppressions.Applied.{Applied}
use Rattle.sarif_log.specs.declared.run_parts.RunParts.{RunParts}
use Rattle.sarif_log.specs.Internal.Texts.{count_in_parts, left_texts, own_count, parts_text, present_count, present_results, run_text, runs_texts, text_if, texts_of, unless_taken, ArePartsOf, joined}
use Rattle.sarif_results.specs.Drafts.{draft_by, drafts_by, members_in, unapplied, IsObject, IsRun}
use Rattle.sarif_results.specs.Drafts.{Listing}
use Rattle.sarif_log.specs.MergedRuns.{absent_runs, annotated_items, bare, if_any, merged_run, merged_runs, own_results, unmatched, with_absent, with_results, written_all}
use Rattle.sarif_model.specs.Run.{present}
use Rattle.sarif_log.proofs.ResultTexts.{joined_items, texts_written, texts_unmatched}

-- ---- one run

run_filled : (bs : Members) (ds : List Data) (ts : List (List ℕ)) → ts ≡ map compact_text ds
    → run_text bs (Some ts) ≡ compact_text (object (put (codes "results") (array (items_of ds)) bs))
run_filled bs ds ts same =
    ap (λ xs. filled (surrounding (codes "results") bs) (91 ∷ (joined false xs ++ 93 ∷ []))) same
    ∙ ap (λ t. filled (surrounding (codes "results") bs) (91 ∷ t)) (joined_items false ds)
    ∙ filled_is_put (codes "results") (array (items_of ds)) bs

run_at : (listed : Listing) (applied : Record → Applied) (rs : List Record) (ss : List State) (bs : Members) (found : Option Items)
    → length rs ≡ length (elements_or_none found) → length ss ≡ length (elements_or_none found) → AllByRecursion IsObject (elements_or_none found)
    → run_text bs
    (option_map (λ _. texts_of (drafts_by listed applied rs (elements_or_none found)) (map Some ss))
    (option_map (λ ds. length (elements ds)) found))
    ≡ compact_text (object (with_results (annotated_items listed rs ss found) bs))
run_at listed applied rs ss bs None same_r same_s objects = refl
run_at listed applied rs ss bs (Some ds) same_r same_s objects =
    run_filled bs (written_all listed rs ss (elements ds)) (texts_of (drafts_by listed applied rs (elements ds)) (map Some ss))
    (texts_written listed applied rs ss (elements ds) same_r same_s objects)

run_written : (listed : Listing) (applied : Record → Applied) (rs : List Record) (ss : List State) (parts : RunParts) (run : Data)
    → IsRun run → members_view parts.members.entries ≡ bare (members_in run) → parts.results ≡ own_count run
    → length rs ≡ length (results_of run) → length ss ≡ length (results_of run)
    → parts_text parts (drafts_by listed applied rs (results_of run)) (map Some ss) ≡ compact_text (merged_run listed rs ss run)
run_written listed applied rs ss parts null is there counted same_r same_s = absurd is.0
run_written listed applied rs ss parts (boolean b) is there counted same_r same_s = absurd is.0
run_written listed applied rs ss parts (number n) is there counted same_r same_s = absurd is.0
run_written listed applied rs ss parts (string s) is there counted same_r same_s = absurd is.0
run_written listed applied rs ss parts (array ds) is there counted same_r same_s = absurd is.0
run_written listed applied rs ss parts (object ms) is there counted same_r same_s =
    let ts = texts_of (drafts_by listed applied rs (results_of (object ms))) (map Some ss) in
    ap (λ bs. run_text bs (option_map (λ _. ts) parts.results)) there
    ∙ ap (λ n. run_text (bare ms) (option_map (λ _. ts) n)) counted
    ∙ run_at listed applied rs ss (bare ms) (own_results ms) same_r same_s is.1

run_left : (rs : List Record) (taken : List Bool) (parts : RunParts) (run : Data) (ds : List Data)
    → IsObject run → AllByRecursion IsObject ds → members_view parts.members.entries ≡ bare (members_in run) → parts.results ≡ Some (length ds)
    → parts_text parts (drafts_by (λ _ own. own) unapplied rs ds) (map unless_taken taken) ≡ compact_text (with_absent (unmatched rs taken ds) run)
run_left rs taken parts null ds is objects there counted = absurd is
run_left rs taken parts (boolean b) ds is objects there counted = absurd is
run_left rs taken parts (number n) ds is objects there counted = absurd is
run_left rs taken parts (string s) ds is objects there counted = absurd is
run_left rs taken parts (array es) ds is objects there counted = absurd is
run_left rs taken parts (object ms) ds is objects there counted =
    let ts = texts_of (drafts_by (λ _ own. own) unapplied rs ds) (map unless_taken taken) in
    ap (λ bs. run_text bs (option_map (λ _. ts) parts.results)) there
    ∙ ap (λ n. run_text (bare ms) (option_map (λ _. ts) n)) counted
    ∙ run_filled (bare ms) (unmatched rs taken ds) ts (texts_unmatched rs taken ds objects)

-- ---- parts of lists

kept_objects : (b : Bool) (d : Data) (ds : List Data) → IsObject d → AllByRecursion IsObject ds → AllByRecursion IsObject (cond b (d ∷ ds) ds)
kept_objects true d ds is more = (is, more)
kept_objects false d ds is more = more

pub present_objects : (ds : List Data) → AllByRecursion IsObject ds → AllByRecursion IsObject (present ds)
present_objects [] objects = tt
present_objects (d ∷ ds) objects = kept_objects (not (is_absent_result d)) d (present ds) objects.0 (present_objects ds objects.1)

pub drafts_front : (listed : Listing) (applied : Record → Applied) (rs : List Record) (xs ys : List Data)
    → take (length xs) (drafts_by listed applied rs (xs ++ ys)) ≡ drafts_by listed applied (take (length xs) rs) xs
drafts_front listed applied [] [] ys = refl
drafts_front listed applied [] (x ∷ xs) ys = refl
drafts_front listed applied (r ∷ rs) [] ys = refl
drafts_front listed applied (r ∷ rs) (x ∷ xs) ys = ap (λ ds. draft_by listed applied r (members_in x) ∷ ds) (drafts_front listed applied rs xs ys)

pub drafts_back : (listed : Listing) (applied : Record → Applied) (rs : List Record) (xs ys : List Data)
    → drop (length xs) (drafts_by listed applied rs (xs ++ ys)) ≡ drafts_by listed applied (drop (length xs) rs) ys
drafts_back listed applied [] [] ys = refl
drafts_back listed applied [] (x ∷ xs) ys = refl
drafts_back listed applied (r ∷ rs) [] ys = refl
drafts_back listed applied (r ∷ rs) (x ∷ xs) ys = drafts_back listed applied rs xs ys

count_found : (found : Option Items) (n : Option ℕ) → n ≡ option_map (λ ds. length (elements ds)) found → unwrap_or n 0 ≡ length (elements_or_none found)
count_found None n is = ap (λ m. unwrap_or m 0) is
count_found (Some ds) n is = ap (λ m. unwrap_or m 0) is

pub run_count : (parts : RunParts) (run : Data) → parts.results ≡ own_count run → count_in_parts parts ≡ length (results_of run)
run_count parts run is = count_found (results_array run) parts.results is

-- ---- all runs

pub runs_written : (listed : Listing) (applied : Record → Applied) (rs : List Record) (ss : List State) (all : List RunParts) (runs : List Data)
    → AllByRecursion IsRun runs → ArePartsOf own_count all runs → length rs ≡ results_total runs → length ss ≡ length rs
    → runs_texts all (drafts_by listed applied rs (flat_map results_of runs)) (map Some ss) ≡ map compact_text (merged_runs listed rs ss runs)
runs_written listed applied rs ss [] [] are parts same_r same_s = refl
runs_written listed applied rs ss [] (run ∷ runs) are parts same_r same_s = absurd parts
runs_written listed applied rs ss (p ∷ all) [] are parts same_r same_s = absurd parts
runs_written listed applied rs ss (p ∷ all) (run ∷ runs) are parts same_r same_s =
    let xs = results_of run in
    let ys = flat_map results_of runs in
    let n = length xs in
    let ds = drafts_by listed applied rs (xs ++ ys) in
    let counted : count_in_parts p ≡ n = run_count p run parts.1 in
    let long_r : length (take n rs) ≡ n = length-take-le n rs (omega (arith, same_r)) in
    let long_s : length (take n ss) ≡ n = length-take-le n ss (omega (arith, same_r, same_s)) in
    let rest_r : length (drop n rs) ≡ results_total runs = omega (arith, length-drop n rs, same_r) in
    let rest_s : length (drop n ss) ≡ length (drop n rs) = omega (arith, length-drop n rs, length-drop n ss, same_s) in
    ap (λ m. parts_text p (take m ds) (take m (map Some ss)) ∷ runs_texts all (drop m ds) (drop m (map Some ss))) counted
    ∙ ap (λ es. parts_text p es (take n (map Some ss)) ∷ runs_texts all (drop n ds) (drop n (map Some ss))) (drafts_front listed applied rs xs ys)
    ∙ ap (λ zs. parts_text p (drafts_by listed applied (take n rs) xs) zs ∷ runs_texts all (drop n ds) (drop n (map Some ss))) (take-map Some n ss)
    ∙ ap (λ t. t ∷ runs_texts all (drop n ds) (drop n (map Some ss)))
    (run_written listed applied (take n rs) (take n ss) p run are.0 parts.0 parts.1 long_r long_s)
    ∙ ap (λ es. compact_text (merged_run listed (take n rs) (take n ss) run) ∷ runs_texts all es (drop n (map Some ss))) (drafts_back listed applied rs xs ys)
    ∙ ap (λ zs. compact_text (merged_run listed (take n rs) (take n ss) run) ∷ runs_texts all (drafts_by listed applied (drop n rs) ys) zs) (drop-map Some n ss)
    ∙ ap (λ ts. compact_text (merged_run listed (take n rs) (take n ss) run) ∷ ts)
    (runs_written listed applied (drop n rs) (drop n ss) all runs are.1 parts.2 rest_r rest_s)

-- whether something is left
any_left : (rs : List Record) (taken : List Bool) (ds : List Data) (t : List ℕ) (run : Data) (ts : List (List ℕ)) (more : List Data)
    → length rs ≡ length ds → length taken ≡ length rs → t ≡ compact_text (with_absent (unmatched rs taken ds) run) → ts ≡ map compact_text more
    → text_if (list_any is_some (map unless_taken taken)) t ts ≡ map compact_text (if_any (unmatched rs taken ds) run more)
any_left [] [] [] t run ts more same_r same_t is rest = rest
any_left [] [] (d ∷ ds) t run ts more same_r same_t is rest = rest
any_left [] (b ∷ taken) ds t run ts more same_r same_t is rest = absurd (omega (arith, same_t))
any_left (r ∷ rs) [] ds t run ts more same_r same_t is rest = absurd (omega (arith, same_t))
any_left (r ∷ rs) (b ∷ taken) [] t run ts more same_r same_t is rest = absurd (omega (arith, same_r))
any_left (r ∷ rs) (true ∷ taken) (d ∷ ds) t run ts more same_r same_t is rest =
    any_left rs taken ds t run ts more (omega (arith, same_r)) (omega (arith, same_t)) is rest
any_left (r ∷ rs) (false ∷ taken) (d ∷ ds) t run ts more same_r same_t is rest =
    ap (λ x. x ∷ ts) is ∙ ap (λ xs. compact_text (with_absent (unmatched (r ∷ rs) (false ∷ taken) (d ∷ ds)) run) ∷ xs) rest

pub runs_left : (rs : List Record) (taken : List Bool) (all : List RunParts) (runs : List Data)
    → AllByRecursion IsRun runs → ArePartsOf present_count all runs → length rs ≡ length (present_results runs) → length taken ≡ length rs
    → left_texts all (drafts_by (λ _ own. own) unapplied rs (present_results runs)) (map unless_taken taken) ≡ map compact_text (absent_runs rs taken runs)
runs_left rs taken [] [] are parts same_r same_t = refl
runs_left rs taken [] (run ∷ runs) are parts same_r same_t = absurd parts
runs_left rs taken (p ∷ all) [] are parts same_r same_t = absurd parts
runs_left rs taken (p ∷ all) (run ∷ runs) are parts same_r same_t =
    let xs = present (results_of run) in
    let ys = present_results runs in
    let n = length xs in
    let listed : Listing = λ _ own. own in
    let ds = drafts_by listed unapplied rs (xs ++ ys) in
    let ss = map unless_taken taken in
    let counted : count_in_parts p ≡ n = ap (λ m. unwrap_or m 0) parts.1 in
    let all_long : length rs ≡ n + length ys = same_r ∙ length-append xs ys in
    let long_r : length (take n rs) ≡ n = length-take-le n rs (omega (arith, all_long)) in
    let long_t : length (take n taken) ≡ n = length-take-le n taken (omega (arith, all_long, same_t)) in
    let rest_r : length (drop n rs) ≡ length ys = omega (arith, length-drop n rs, all_long) in
    let rest_t : length (drop n taken) ≡ length (drop n rs) = omega (arith, length-drop n rs, length-drop n taken, same_t) in
    let text = run_left (take n rs) (take n taken) p run xs are.0.0 (present_objects (results_of run) are.0.1) parts.0 parts.1 in
    ap (λ m. text_if (list_any is_some (take m ss)) (parts_text p (take m ds) (take m ss)) (left_texts all (drop m ds) (drop m ss))) counted
    ∙ ap (λ es. text_if (list_any is_some (take n ss)) (parts_text p es (take n ss)) (left_texts all (drop n ds) (drop n ss)))
    (drafts_front listed unapplied rs xs ys)
    ∙ ap (λ es. text_if (list_any is_some (take n ss)) (parts_text p (drafts_by listed unapplied (take n rs) xs) (take n ss))
    (left_texts all es (drop n ss))) (drafts_back listed unapplied rs xs ys)
    ∙ ap (λ zs. text_if (list_any is_some zs) (parts_text p (drafts_by listed unapplied (take n rs) xs) zs)
    (left_texts all (drafts_by listed unapplied (drop n rs) ys) (drop n ss)))
    (take-map unless_taken n taken)
    ∙ ap (λ zs. text_if (list_any is_some (map unless_taken (take n taken)))
    (parts_text p (drafts_by listed unapplied (take n rs) xs) (map unless_taken (take n taken)))
    (left_texts all (drafts_by listed unapplied (drop n rs) ys) zs))
    (drop-map unless_taken n taken)
    ∙ any_left (take n rs) (take n taken) xs (parts_text p (drafts_by listed unapplied (take n rs) xs) (map unless_taken (take n taken))) run
    (left_texts all (drafts_by listed unapplied (drop n rs) ys) (map unless_taken (drop n taken))) (absent_runs (drop n rs) (drop n taken) runs)
    long_r (long_t ∙ sym long_r) text (runs_left (drop n rs) (drop n taken) all runs are.1 parts.2 rest_r rest_t)
