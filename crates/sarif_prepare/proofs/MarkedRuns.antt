-- The marks of the results of a merged log, from the drafts of its results.
use Rattle.std.proofs.Common.{◌≡◌, ◌+◌, ◌<◌, ◌≤◌, ◌++◌, ℕ, zero, suc, Bool, true, false, ◌&&◌, not, List, [], ◌∷◌, Option, Some, None, map, take, drop, length, get_or, length-append, append_assoc, add-one, codes, refl, sym, ap, ◌∙◌, arith}
use Rattle.std.proofs.Math.Seq.{take-append_seam, drop-append_seam}
use Rattle.std.proofs.lemmas.List.{append-nil, take-map, drop-map, drop_all, drop_more, length-take-le, length-drop}
use Rattle.std.specs.Option.{option_map_or}
use Rattle.std.specs.Prelude.{flat_map, if◌then◌else◌, option_and_then}
use Rattle.std.specs.List.{AllByRecursion, cons_option}
use Rattle.serde_json.specs.Data.{Data, null, boolean, number, string, array, object, Items, Members}
use Rattle.serde_json.specs.Find.{as_array}
use Rattle.serde_json.specs.View.{items_of}
use Rattle.serde_json.proofs.Views.{get_member-put}
use Rattle.sarif_choice.specs.Choice.{is_chosen}
use Rattle.sarif_choice.specs.declared.choice.Choice.{Choice}
use Rattle.sarif_findings.specs.Lookup.{elements_in}
use Rattle.sarif_findings.specs.Reported.{are_shown, finding_of}
use Rattle.sarif_findings.specs.declared.finding.Finding.{Finding}
use Rattle.sarif_findings.specs.declared.reporting.Reporting.{Reporting}
use Rattle.sarif_log.specs.MergedRuns.{annotated_items, bare, merged_run, merged_runs, with_results, written, written_all}
use Rattle.sarif_log.specs.MergedRuns as runs
use Rattle.sarif_log.proofs.RunTexts.{drafts_front, drafts_back}
use Rattle.sarif_model.proofs.Elements.{items_back}
use Rattle.sarif_model.specs.Members.{elements}
use Rattle.sarif_model.specs.Run.{elements_or_none, results_of, results_total}
use Rattle.sarif_model.specs.declared.kinds.State.{State}
use Rattle.sarif_model.specs.declared.record.Record.{Record}
use Rattle.sarif_prepare.specs.Chosen.{is_marked, marks_in}
use Rattle.sarif_prepare.specs.Internal.Marking.{is_told, marked_each, spread_told}
use Rattle.sarif_prepare.specs.Internal.Telling.{own_results, told_as, told_each, with_run}
use Rattle.sarif_prepare.proofs.RunsAlike.{AreAlike}
use Rattle.sarif_prepare.proofs.ToldResults.{draft_told}
use Rattle.sarif_prepare.proofs.ToldRuns.{alike, no_results, with_long}
use Rattle.sarif_results.specs.declared.draft.Draft.{Draft}
use Rattle.sarif_results.specs.Drafts.{drafts_by, IsObject, IsRun, Listing}
use Rattle.sarif_suppress.specs.declared.suppressions.Applied.{Applied}

-- ---- spreading the marks of those that are shown

-- the first of the marks that are left
at_front : (ms : List Bool) (n : ℕ) (m : Bool) (tail : List Bool) → drop n ms ≡ m ∷ tail → (get_or ms n false ≡ m) × (drop (suc n) ms ≡ tail)
at_front [] zero m tail is = let never : ⊥ = cc in absurd never
at_front [] (suc n) m tail is = let never : ⊥ = cc in absurd never
at_front (x ∷ xs) zero m tail is = (cc, cc)
at_front (x ∷ xs) (suc n) m tail is = at_front xs n m tail is

-- one more result
pub spread_next : (reporting : Reporting) (ds : List Draft) (ss : List (Option State)) (ms : List Bool) (n k : ℕ) (d none : Draft) (s missing : Option State)
    (told : Bool) (old new : List Bool) (next : ℕ) (whole : List Bool)
    → n < length ds → n < length ss → d ≡ get_or ds n none → s ≡ get_or ss n missing → told ≡ is_told reporting d s
    → new ≡ old ++ (if told then get_or ms k false else false) ∷ [] → next ≡ (if told then k + 1 else k)
    → old ++ spread_told reporting (drop n ds) (drop n ss) ms k ≡ whole
    → new ++ spread_told reporting (drop (n + 1) ds) (drop (n + 1) ss) ms next ≡ whole
spread_next reporting ds ss ms n k d none s missing told old new next whole in_ds in_ss d_is s_is told_is pushed next_is held =
    let more = drop (n + 1) ds in
    let after = drop (n + 1) ss in
    let opened : spread_told reporting (drop n ds) (drop n ss) ms k
    ≡ (if told then get_or ms k false ∷ spread_told reporting more after ms (k + 1) else false ∷ spread_told reporting more after ms k) =
    ap (λ l. spread_told reporting l (drop n ss) ms k) (drop_more ds n none in_ds ∙ ap (λ x. x ∷ more) (sym d_is))
    ∙ ap (λ l. spread_told reporting (d ∷ more) l ms k) (drop_more ss n missing in_ss ∙ ap (λ x. x ∷ after) (sym s_is))
    ∙ ap (λ b. if b then get_or ms k false ∷ spread_told reporting more after ms (k + 1) else false ∷ spread_told reporting more after ms k) (sym told_is) in
    ap (λ l. l ++ spread_told reporting more after ms next) pushed
    ∙ ap (λ m. (old ++ (if told then get_or ms k false else false) ∷ []) ++ spread_told reporting more after ms m) next_is
    ∙ by_told told
    ∙ ap (λ l. old ++ l) (sym opened)
    ∙ held
  where
    by_told : (b : Bool)
        → (old ++ (if b then get_or ms k false else false) ∷ [])
        ++ spread_told reporting (drop (n + 1) ds) (drop (n + 1) ss) ms (if b then k + 1 else k)
        ≡ old
        ++ (if b then get_or ms k false ∷ spread_told reporting (drop (n + 1) ds) (drop (n + 1) ss) ms (k + 1)
        else false ∷ spread_told reporting (drop (n + 1) ds) (drop (n + 1) ss) ms k)
    by_told true = append_assoc old (get_or ms k false ∷ []) (spread_told reporting (drop (n + 1) ds) (drop (n + 1) ss) ms (k + 1))
    by_told false = append_assoc old (false ∷ []) (spread_told reporting (drop (n + 1) ds) (drop (n + 1) ss) ms k)

-- as many marks as results
pub spread_more : (old new : List Bool) (mark : Bool) (k : ℕ) (told : Bool) (next : ℕ) → new ≡ old ++ mark ∷ [] → next ≡ (if told then k + 1 else k)
    → k ≤ length old → next ≤ length new
spread_more old new mark k told next pushed next_is few =
    let long = ap length pushed ∙ length-append old (mark ∷ []) in
    let step = by_told told in
    omega (arith, long, next_is, step, few)
  where
    by_told : (b : Bool) → (if b then k + 1 else k) ≤ k + 1
    by_told true = omega arith
    by_told false = omega arith

pub spread_end : (reporting : Reporting) (ds : List Draft) (ss : List (Option State)) (ms : List Bool) (n k : ℕ) (all whole : List Bool) → length ds ≤ n
    → all ++ spread_told reporting (drop n ds) (drop n ss) ms k ≡ whole → all ≡ whole
spread_end reporting ds ss ms n k all whole past held =
    sym (append-nil all) ∙ ap (λ l. all ++ spread_told reporting l (drop n ss) ms k) (sym (drop_all n ds past)) ∙ held

module _ (reporting : Reporting) (choice : Choice) where
  abbrev marks_of : List Finding → List Bool
  marks_of hits = map (is_chosen choice) hits

  pub spread_marked : (ps : List (Data × Data)) (ds : List Draft) (ss : List (Option State)) (ms rest : List Bool) (n : ℕ) → length ps ≡ length ds
      → drop n ms ≡ marks_of (told_each reporting ps ds ss) ++ rest → spread_told reporting ds ss ms n ≡ marked_each reporting choice ps ds ss
  spread_marked [] [] ss ms rest n same is = refl
  spread_marked [] (d ∷ ds) ss ms rest n same is = absurd (omega (arith, same))
  spread_marked (p ∷ ps) [] ss ms rest n same is = absurd (omega (arith, same))
  spread_marked (p ∷ ps) (d ∷ ds) [] ms rest n same is = refl
  spread_marked (p ∷ ps) (d ∷ ds) (None ∷ ss) ms rest n same is =
      ap (λ l. false ∷ l) (spread_marked ps ds ss ms rest n (omega (arith, same)) is)
  spread_marked (p ∷ ps) (d ∷ ds) (Some s ∷ ss) ms rest n same is =
      let one = finding_of reporting p.0 p.1 d.level s in
      elim (are_shown reporting s d.level && not d.suppressed) as
      (λ b. drop n ms ≡ marks_of (cons_option (if b then Some one else None) (told_each reporting ps ds ss)) ++ rest
      → (if b then get_or ms n false ∷ spread_told reporting ds ss ms (n + 1) else false ∷ spread_told reporting ds ss ms n)
      ≡ option_map_or (is_chosen choice) (if b then Some one else None) false ∷ marked_each reporting choice ps ds ss) [
        | true ↦ λ front.
            let both = at_front ms n (is_chosen choice one) (marks_of (told_each reporting ps ds ss) ++ rest) front in
            rw (add-one, both.0)
            (ap (λ l. is_chosen choice one ∷ l) (spread_marked ps ds ss ms rest (suc n) (omega (arith, same)) both.1))
        | false ↦ λ front. ap (λ l. false ∷ l) (spread_marked ps ds ss ms rest n (omega (arith, same)) front)
      ] is

  -- ---- the results of a run

  marked_written : (later run : Data) (listed : Listing) (applied : Record → Applied) (rs : List Record) (states : List State) (ds : List Data)
      → AreAlike later run → length rs ≡ length ds → length states ≡ length ds → AllByRecursion IsObject ds
      → marked_each reporting choice (with_run run ds) (drafts_by listed applied rs ds) (map Some states)
      ≡ map (is_marked None reporting choice later) (written_all listed rs states ds)
  marked_written later run listed applied [] states [] same same_r same_s objects = refl
  marked_written later run listed applied [] states (d ∷ ds) same same_r same_s objects = absurd (omega (arith, same_r))
  marked_written later run listed applied (r ∷ rs) states [] same same_r same_s objects = absurd (omega (arith, same_r))
  marked_written later run listed applied (r ∷ rs) [] (d ∷ ds) same same_r same_s objects = absurd (omega (arith, same_s))
  marked_written later run listed applied (r ∷ rs) (state ∷ states) (d ∷ ds) same same_r same_s objects =
      ap (λ o. option_map_or (is_chosen choice) o false
      ∷ marked_each reporting choice (with_run run ds) (drafts_by listed applied rs ds) (map Some states))
      (draft_told reporting later run listed applied r state d same objects.0)
      ∙ ap (λ l. is_marked None reporting choice later (written listed r state d) ∷ l)
      (marked_written later run listed applied rs states ds same (omega (arith, same_r)) (omega (arith, same_s)) objects.1)

  found_marked : (listed : Listing) (applied : Record → Applied) (rs : List Record) (ss : List State) (ms : Members) (found : Option Items)
      → length rs ≡ length (elements_or_none found) → length ss ≡ length (elements_or_none found) → AllByRecursion IsObject (elements_or_none found)
      → marked_each reporting choice (with_run (object ms) (elements_or_none found)) (drafts_by listed applied rs (elements_or_none found)) (map Some ss)
      ≡ map (is_marked None reporting choice (object (with_results (annotated_items listed rs ss found) (bare ms))))
      (elements_in (codes "results") (object (with_results (annotated_items listed rs ss found) (bare ms))))
  found_marked listed applied rs ss ms None same_r same_s objects =
      sym (ap (λ o. map (is_marked None reporting choice (object (bare ms))) (elements_or_none (option_and_then as_array o))) (no_results ms))
  found_marked listed applied rs ss ms (Some ds) same_r same_s objects =
      let xs = written_all listed rs ss (elements ds) in
      let run = object (with_results (Some (items_of xs)) (bare ms)) in
      marked_written run (object ms) listed applied rs ss (elements ds) (alike (Some (items_of xs)) ms) same_r same_s objects
      ∙ ap (map (is_marked None reporting choice run))
      (sym (ap (λ o. elements_or_none (option_and_then as_array o)) (get_member-put (codes "results") (array (items_of xs)) (bare ms)) ∙ items_back xs))

  run_marked : (listed : Listing) (applied : Record → Applied) (rs : List Record) (ss : List State) (run : Data)
      → IsRun run → length rs ≡ length (results_of run) → length ss ≡ length (results_of run)
      → marked_each reporting choice (own_results run) (drafts_by listed applied rs (results_of run)) (map Some ss)
      ≡ map (is_marked None reporting choice (merged_run listed rs ss run)) (elements_in (codes "results") (merged_run listed rs ss run))
  run_marked listed applied rs ss null is same_r same_s = absurd is.0
  run_marked listed applied rs ss (boolean b) is same_r same_s = absurd is.0
  run_marked listed applied rs ss (number n) is same_r same_s = absurd is.0
  run_marked listed applied rs ss (string s) is same_r same_s = absurd is.0
  run_marked listed applied rs ss (array ds) is same_r same_s = absurd is.0
  run_marked listed applied rs ss (object ms) is same_r same_s = found_marked listed applied rs ss ms (runs.own_results ms) same_r same_s is.1

  -- ---- all runs

  none_marked : (ps : List (Data × Data)) (ss : List (Option State)) → [] ≡ marked_each reporting choice ps [] ss
  none_marked [] ss = refl
  none_marked (p ∷ ps) ss = refl

  stateless_marked : (ps : List (Data × Data)) (ds : List Draft) → [] ≡ marked_each reporting choice ps ds []
  stateless_marked [] ds = refl
  stateless_marked (p ∷ ps) [] = refl
  stateless_marked (p ∷ ps) (d ∷ ds) = refl

  -- the marks of the first n results, followed by those of the others
  split : (n : ℕ) (ps : List (Data × Data)) (ds : List Draft) (ss : List (Option State))
      → marked_each reporting choice ps ds ss
      ≡ marked_each reporting choice (take n ps) (take n ds) (take n ss) ++ marked_each reporting choice (drop n ps) (drop n ds) (drop n ss)
  split zero ps ds ss = refl
  split (suc n) [] ds ss = refl
  split (suc n) (p ∷ ps) [] ss = none_marked (drop n ps) (drop (suc n) ss)
  split (suc n) (p ∷ ps) (d ∷ ds) [] = stateless_marked (drop n ps) (drop n ds)
  split (suc n) (p ∷ ps) (d ∷ ds) (s ∷ ss) =
      ap (λ l. option_map_or (is_chosen choice) (told_as reporting p.0 p.1 d s) false ∷ l) (split n ps ds ss)

  -- the marks of two lists of results, the first followed by the second
  seam : (ps qs : List (Data × Data)) (n : ℕ) (ds : List Draft) (ss : List (Option State)) → n ≡ length ps
      → marked_each reporting choice (ps ++ qs) ds ss
      ≡ marked_each reporting choice ps (take n ds) (take n ss) ++ marked_each reporting choice qs (drop n ds) (drop n ss)
  seam ps qs n ds ss same =
      split n (ps ++ qs) ds ss
      ∙ ap (λ xs. marked_each reporting choice xs (take n ds) (take n ss) ++ marked_each reporting choice (drop n (ps ++ qs)) (drop n ds) (drop n ss))
      (ap (λ m. take m (ps ++ qs)) same ∙ take-append_seam ps qs)
      ∙ ap (λ xs. marked_each reporting choice ps (take n ds) (take n ss) ++ marked_each reporting choice xs (drop n ds) (drop n ss))
      (ap (λ m. drop m (ps ++ qs)) same ∙ drop-append_seam ps qs)

  pub runs_marked : (listed : Listing) (applied : Record → Applied) (rs : List Record) (ss : List State) (runs : List Data)
      → AllByRecursion IsRun runs → length rs ≡ results_total runs → length ss ≡ length rs
      → marked_each reporting choice (flat_map own_results runs) (drafts_by listed applied rs (flat_map results_of runs)) (map Some ss)
      ≡ marks_in None reporting choice (merged_runs listed rs ss runs)
  runs_marked listed applied rs ss [] are same_r same_s = refl
  runs_marked listed applied rs ss (run ∷ runs) are same_r same_s =
      let xs = results_of run in
      let ys = flat_map results_of runs in
      let n = length xs in
      let ds = drafts_by listed applied rs (xs ++ ys) in
      let here = own_results run in
      let later = flat_map own_results runs in
      let one = merged_run listed (take n rs) (take n ss) run in
      let own = map (is_marked None reporting choice one) (elements_in (codes "results") one) in
      let long_r : length (take n rs) ≡ n = length-take-le n rs (omega (arith, same_r)) in
      let long_s : length (take n ss) ≡ n = length-take-le n ss (omega (arith, same_r, same_s)) in
      let rest_r : length (drop n rs) ≡ results_total runs = omega (arith, length-drop n rs, same_r) in
      let rest_s : length (drop n ss) ≡ length (drop n rs) = omega (arith, length-drop n rs, length-drop n ss, same_s) in
      seam here later n ds (map Some ss) (with_long run xs)
      ∙ ap (λ es. marked_each reporting choice here es (take n (map Some ss)) ++ marked_each reporting choice later (drop n ds) (drop n (map Some ss)))
      (drafts_front listed applied rs xs ys)
      ∙ ap (λ zs. marked_each reporting choice here (drafts_by listed applied (take n rs) xs) zs
      ++ marked_each reporting choice later (drop n ds) (drop n (map Some ss))) (take-map Some n ss)
      ∙ ap (λ fs. fs ++ marked_each reporting choice later (drop n ds) (drop n (map Some ss)))
      (run_marked listed applied (take n rs) (take n ss) run are.0 long_r long_s)
      ∙ ap (λ es. own ++ marked_each reporting choice later es (drop n (map Some ss))) (drafts_back listed applied rs xs ys)
      ∙ ap (λ zs. own ++ marked_each reporting choice later (drafts_by listed applied (drop n rs) ys) zs) (drop-map Some n ss)
      ∙ ap (λ fs. own ++ fs) (runs_marked listed applied (drop n rs) (drop n ss) runs are.1 rest_r rest_s)

  -- ---- how many there are

  pub marked_long : (ps : List (Data × Data)) (ds : List Draft) (ss : List (Option State)) → length ps ≡ length ds → length ss ≡ length ds
      → length (marked_each reporting choice ps ds ss) ≡ length ds
  marked_long [] [] ss same_p same_s = refl
  marked_long [] (d ∷ ds) ss same_p same_s = absurd (omega (arith, same_p))
  marked_long (p ∷ ps) [] ss same_p same_s = refl
  marked_long (p ∷ ps) (d ∷ ds) [] same_p same_s = absurd (omega (arith, same_s))
  marked_long (p ∷ ps) (d ∷ ds) (s ∷ ss) same_p same_s = ap suc (marked_long ps ds ss (omega (arith, same_p)) (omega (arith, same_s)))
