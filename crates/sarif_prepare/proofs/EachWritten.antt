-- What is made of results from their drafts, in turn, is what is made of them as they are written.
use Rattle.std.proofs.Common.{◌≡◌, ◌++◌, ℕ, zero, suc, List, [], ◌∷◌, Option, Some, None, map, take, drop, length, codes, refl, sym, ap, ◌∙◌, arith}
use Rattle.std.proofs.lemmas.List.{take-map, drop-map, length-take-le, length-drop}
use Rattle.std.specs.Prelude.{flat_map, option_and_then}
use Rattle.std.specs.List.{AllByRecursion}
use Rattle.serde_json.specs.Data.{Data, null, boolean, number, string, array, object, Items, Members}
use Rattle.serde_json.specs.Find.{as_array}
use Rattle.serde_json.specs.View.{items_of}
use Rattle.serde_json.proofs.Views.{get_member-put}
use Rattle.sarif_model.specs.declared.kinds.State.{State}
use Rattle.sarif_model.specs.declared.kinds.State.TheVariants.{Absent}
use Rattle.sarif_model.specs.declared.record.Record.{Record}
use Rattle.sarif_model.specs.Members.{elements}
use Rattle.sarif_model.specs.Run.{elements_or_none, results_of, results_total}
use Rattle.sarif_model.proofs.Elements.{items_back}
use Rattle.sarif_suppress.specs.declared.suppressions.Applied.{Applied}
use Rattle.sarif_results.specs.declared.draft.Draft.{Draft}
use Rattle.sarif_results.specs.Drafts.{draft_by, drafts_by, members_in, IsObject, IsRun, Listing}
use Rattle.sarif_log.specs.MergedRuns.{annotated_items, bare, merged_run, merged_runs, with_results, written, written_all}
use Rattle.sarif_log.specs.MergedRuns as runs
use Rattle.sarif_log.proofs.RunTexts.{drafts_front, drafts_back}
use Rattle.sarif_prepare.specs.Internal.Telling.{own_results, with_run}
use Rattle.sarif_prepare.proofs.RunsAlike.{AreAlike}
use Rattle.sarif_prepare.proofs.ToldRuns.{alike, no_results, with_long}

-- a state that a current result may have
abbrev pub IsThere : State → Type 0
IsThere state = state ≡ Absent → ⊥

there_take : (n : ℕ) (ss : List State) → AllByRecursion IsThere ss → AllByRecursion IsThere (take n ss)
there_take zero ss all = tt
there_take (suc n) [] all = tt
there_take (suc n) (s ∷ ss) all = (all.0, there_take n ss all.1)

there_drop : (n : ℕ) (ss : List State) → AllByRecursion IsThere ss → AllByRecursion IsThere (drop n ss)
there_drop zero ss all = all
there_drop (suc n) [] all = tt
there_drop (suc n) (s ∷ ss) all = there_drop n ss all.1

-- a step is given a run, a result of it, its draft and its state, and what is made of the results after it
abbrev pub Step : Type 0 → Type 0
Step R = Data → Data → Draft → Option State → R → R

-- a step is given a run and a result, both as they are written, and what is made of the results after it
abbrev pub Later : Type 0 → Type 0
Later R = Data → Data → R → R

abbrev pub each_on : (R : Type 0) → Step R → List (Data × Data) → List Draft → List (Option State) → R → R
each_on R one [] drafts states rest = rest
each_on R one (found ∷ more) [] states rest = rest
each_on R one (found ∷ more) (draft ∷ drafts) [] rest = rest
each_on R one (found ∷ more) (draft ∷ drafts) (state ∷ states) rest =
    one found.0 found.1 draft state (each_on R one more drafts states rest)

abbrev pub later_in : (R : Type 0) → Later R → Data → List Data → R → R
later_in R later run [] rest = rest
later_in R later run (d ∷ ds) rest = later run d (later_in R later run ds rest)

abbrev pub later_on : (R : Type 0) → Later R → List Data → R → R
later_on R later [] rest = rest
later_on R later (run ∷ runs) rest = later_in R later run (results_of run) (later_on R later runs rest)

-- both steps return the same value for a result
abbrev pub AreSame : (R : Type 0) → Step R → Later R → Type 0
AreSame R one later =
    (written_in run : Data) (listed : Listing) (applied : Record → Applied) (r : Record) (state : State) (d : Data) (rest : R)
    → AreAlike written_in run → IsObject d → IsThere state
    → one run d (draft_by listed applied r (members_in d)) (Some state) rest ≡ later written_in (written listed r state d) rest

module _ (R : Type 0) (one : Step R) (later : Later R) (same : AreSame R one later) where
  written_on : (written_in run : Data) (listed : Listing) (applied : Record → Applied) (rs : List Record) (states : List State) (ds : List Data) (rest : R)
      → AreAlike written_in run → length rs ≡ length ds → length states ≡ length ds → AllByRecursion IsObject ds → AllByRecursion IsThere states
      → each_on R one (with_run run ds) (drafts_by listed applied rs ds) (map Some states) rest
      ≡ later_in R later written_in (written_all listed rs states ds) rest
  written_on written_in run listed applied [] states [] rest alike same_r same_s objects there = refl
  written_on written_in run listed applied [] states (d ∷ ds) rest alike same_r same_s objects there = absurd (omega (arith, same_r))
  written_on written_in run listed applied (r ∷ rs) states [] rest alike same_r same_s objects there = absurd (omega (arith, same_r))
  written_on written_in run listed applied (r ∷ rs) [] (d ∷ ds) rest alike same_r same_s objects there = absurd (omega (arith, same_s))
  written_on written_in run listed applied (r ∷ rs) (state ∷ states) (d ∷ ds) rest alike same_r same_s objects there =
      ap (one run d (draft_by listed applied r (members_in d)) (Some state))
      (written_on written_in run listed applied rs states ds rest alike (omega (arith, same_r)) (omega (arith, same_s)) objects.1 there.1)
      ∙ same written_in run listed applied r state d (later_in R later written_in (written_all listed rs states ds) rest) alike objects.0 there.0

  found_on : (listed : Listing) (applied : Record → Applied) (rs : List Record) (ss : List State) (ms : Members) (found : Option Items) (rest : R)
      → length rs ≡ length (elements_or_none found) → length ss ≡ length (elements_or_none found) → AllByRecursion IsObject (elements_or_none found)
      → AllByRecursion IsThere ss
      → each_on R one (with_run (object ms) (elements_or_none found)) (drafts_by listed applied rs (elements_or_none found)) (map Some ss) rest
      ≡ later_in R later (object (with_results (annotated_items listed rs ss found) (bare ms)))
      (results_of (object (with_results (annotated_items listed rs ss found) (bare ms)))) rest
  found_on listed applied rs ss ms None rest same_r same_s objects there =
      sym (ap (λ o. later_in R later (object (bare ms)) (elements_or_none (option_and_then as_array o)) rest) (no_results ms))
  found_on listed applied rs ss ms (Some ds) rest same_r same_s objects there =
      let xs = written_all listed rs ss (elements ds) in
      let run = object (with_results (Some (items_of xs)) (bare ms)) in
      written_on run (object ms) listed applied rs ss (elements ds) rest (alike (Some (items_of xs)) ms) same_r same_s objects there
      ∙ ap (λ l. later_in R later run l rest)
      (sym (ap (λ o. elements_or_none (option_and_then as_array o)) (get_member-put (codes "results") (array (items_of xs)) (bare ms)) ∙ items_back xs))

  run_on : (listed : Listing) (applied : Record → Applied) (rs : List Record) (ss : List State) (run : Data) (rest : R)
      → IsRun run → length rs ≡ length (results_of run) → length ss ≡ length (results_of run) → AllByRecursion IsThere ss
      → each_on R one (own_results run) (drafts_by listed applied rs (results_of run)) (map Some ss) rest
      ≡ later_in R later (merged_run listed rs ss run) (results_of (merged_run listed rs ss run)) rest
  run_on listed applied rs ss null rest is same_r same_s there = absurd is.0
  run_on listed applied rs ss (boolean b) rest is same_r same_s there = absurd is.0
  run_on listed applied rs ss (number n) rest is same_r same_s there = absurd is.0
  run_on listed applied rs ss (string s) rest is same_r same_s there = absurd is.0
  run_on listed applied rs ss (array ds) rest is same_r same_s there = absurd is.0
  run_on listed applied rs ss (object ms) rest is same_r same_s there =
      found_on listed applied rs ss ms (runs.own_results ms) rest same_r same_s is.1 there

  none_on : (ps : List (Data × Data)) (ss : List (Option State)) (rest : R) → rest ≡ each_on R one ps [] ss rest
  none_on [] ss rest = refl
  none_on (p ∷ ps) ss rest = refl

  stateless_on : (ps : List (Data × Data)) (ds : List Draft) (rest : R) → rest ≡ each_on R one ps ds [] rest
  stateless_on [] ds rest = refl
  stateless_on (p ∷ ps) [] rest = refl
  stateless_on (p ∷ ps) (d ∷ ds) rest = refl

  -- two lists of results, the first followed by the second
  seam : (ps qs : List (Data × Data)) (ds : List Draft) (ss : List (Option State)) (rest : R)
      → each_on R one (ps ++ qs) ds ss rest
      ≡ each_on R one ps (take (length ps) ds) (take (length ps) ss) (each_on R one qs (drop (length ps) ds) (drop (length ps) ss) rest)
  seam [] qs ds ss rest = refl
  seam (p ∷ ps) qs [] ss rest = none_on qs (drop (length (p ∷ ps)) ss) rest
  seam (p ∷ ps) qs (d ∷ ds) [] rest = stateless_on qs (drop (length ps) ds) rest
  seam (p ∷ ps) qs (d ∷ ds) (s ∷ ss) rest = ap (one p.0 p.1 d s) (seam ps qs ds ss rest)

  seam_at : (ps qs : List (Data × Data)) (n : ℕ) (ds : List Draft) (ss : List (Option State)) (rest : R) → n ≡ length ps
      → each_on R one (ps ++ qs) ds ss rest
      ≡ each_on R one ps (take n ds) (take n ss) (each_on R one qs (drop n ds) (drop n ss) rest)
  seam_at ps qs n ds ss rest long =
      seam ps qs ds ss rest
      ∙ ap (λ m. each_on R one ps (take m ds) (take m ss) (each_on R one qs (drop m ds) (drop m ss) rest)) (sym long)

  pub runs_on : (listed : Listing) (applied : Record → Applied) (rs : List Record) (ss : List State) (runs : List Data) (rest : R)
      → AllByRecursion IsRun runs → length rs ≡ results_total runs → length ss ≡ length rs → AllByRecursion IsThere ss
      → each_on R one (flat_map own_results runs) (drafts_by listed applied rs (flat_map results_of runs)) (map Some ss) rest
      ≡ later_on R later (merged_runs listed rs ss runs) rest
  runs_on listed applied rs ss [] rest are same_r same_s there = refl
  runs_on listed applied rs ss (run ∷ runs) rest are same_r same_s there =
      let xs = results_of run in
      let ys = flat_map results_of runs in
      let n = length xs in
      let ds = drafts_by listed applied rs (xs ++ ys) in
      let here = own_results run in
      let others = flat_map own_results runs in
      let made = merged_run listed (take n rs) (take n ss) run in
      let long_r : length (take n rs) ≡ n = length-take-le n rs (omega (arith, same_r)) in
      let long_s : length (take n ss) ≡ n = length-take-le n ss (omega (arith, same_r, same_s)) in
      let rest_r : length (drop n rs) ≡ results_total runs = omega (arith, length-drop n rs, same_r) in
      let rest_s : length (drop n ss) ≡ length (drop n rs) = omega (arith, length-drop n rs, length-drop n ss, same_s) in
      seam_at here others n ds (map Some ss) rest (with_long run xs)
      ∙ ap (λ es. each_on R one here es (take n (map Some ss)) (each_on R one others (drop n ds) (drop n (map Some ss)) rest))
      (drafts_front listed applied rs xs ys)
      ∙ ap (λ zs. each_on R one here (drafts_by listed applied (take n rs) xs) zs (each_on R one others (drop n ds) (drop n (map Some ss)) rest))
      (take-map Some n ss)
      ∙ run_on listed applied (take n rs) (take n ss) run (each_on R one others (drop n ds) (drop n (map Some ss)) rest) are.0 long_r long_s
      (there_take n ss there)
      ∙ ap (λ es. later_in R later made (results_of made) (each_on R one others es (drop n (map Some ss)) rest))
      (drafts_back listed applied rs xs ys)
      ∙ ap (λ zs. later_in R later made (results_of made) (each_on R one others (drafts_by listed applied (drop n rs) ys) zs rest))
      (drop-map Some n ss)
      ∙ ap (later_in R later made (results_of made))
      (runs_on listed applied (drop n rs) (drop n ss) runs rest are.1 rest_r rest_s (there_drop n ss there))
