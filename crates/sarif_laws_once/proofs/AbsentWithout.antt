-- The absent results of a merged log without the copies among them.
use Rattle.std.proofs.Common.{◌≡◌, ◌+◌, ◌≤◌, ℕ, suc, Bool, true, false, not, cond, List, [], ◌∷◌, take, drop, length, refl, sym, ap, ap₂, ◌∙◌, arith}
use Rattle.std.specs.List.{AllByRecursion, AllZip}
use Rattle.std.proofs.lemmas.List.{length-append, length-drop, length-take-le}
use Rattle.serde_json.specs.Data.{Data, null, boolean, number, string, array, object}
use Rattle.sarif_model.specs.declared.kinds.State.TheVariants.{Absent}
use Rattle.sarif_model.specs.declared.record.Record.{Record}
use Rattle.sarif_model.specs.Run.{present, results_of}
use Rattle.sarif_entries.specs.Matching.{is_empty}
use Rattle.sarif_read.specs.Unmarked.{unmarked, without_marked}
use Rattle.sarif_results.specs.Drafts.{IsObject, IsRun}
use Rattle.sarif_log.specs.Copies.{if_any as if_any_marks}
use Rattle.sarif_log.specs.Internal.Texts.{present_results}
use Rattle.sarif_log.specs.MergedRuns.{absent_runs, bare, if_any, unmatched, with_absent, written}
use Rattle.sarif_prepare.specs.Once.{marks_of_absent}
use Rattle.sarif_laws_once.specs.Places.{with_any}
use Rattle.sarif_laws_once.proofs.InputsWithout.{as_many_left, drop_left, take_left, with_left}
use Rattle.sarif_laws_once.proofs.Places.{IsMarked, each_without}
use Rattle.sarif_laws_once.proofs.Written.{put_long}

-- ---- results

unmatched_left : (ms : List Bool) (rs : List Record) (taken : List Bool) (ds : List Data)
    → length ms ≡ length ds → length rs ≡ length ds → length taken ≡ length ds
    → unmatched (unmarked ms rs) (unmarked ms taken) (unmarked ms ds) ≡ unmarked (unmarked taken ms) (unmatched rs taken ds)
unmatched_left [] [] [] [] same_m same_r same_t = refl
unmatched_left [] rs taken (d ∷ ds) same_m same_r same_t = absurd (omega (arith, same_m))
unmatched_left [] (r ∷ rs) taken [] same_m same_r same_t = absurd (omega (arith, same_r))
unmatched_left [] [] (t ∷ taken) [] same_m same_r same_t = absurd (omega (arith, same_t))
unmatched_left (m ∷ ms) rs taken [] same_m same_r same_t = absurd (omega (arith, same_m))
unmatched_left (m ∷ ms) [] taken (d ∷ ds) same_m same_r same_t = absurd (omega (arith, same_r))
unmatched_left (m ∷ ms) (r ∷ rs) [] (d ∷ ds) same_m same_r same_t = absurd (omega (arith, same_t))
unmatched_left (true ∷ ms) (r ∷ rs) (true ∷ taken) (d ∷ ds) same_m same_r same_t =
    unmatched_left ms rs taken ds (omega (arith, same_m)) (omega (arith, same_r)) (omega (arith, same_t))
unmatched_left (true ∷ ms) (r ∷ rs) (false ∷ taken) (d ∷ ds) same_m same_r same_t =
    unmatched_left ms rs taken ds (omega (arith, same_m)) (omega (arith, same_r)) (omega (arith, same_t))
unmatched_left (false ∷ ms) (r ∷ rs) (true ∷ taken) (d ∷ ds) same_m same_r same_t =
    unmatched_left ms rs taken ds (omega (arith, same_m)) (omega (arith, same_r)) (omega (arith, same_t))
unmatched_left (false ∷ ms) (r ∷ rs) (false ∷ taken) (d ∷ ds) same_m same_r same_t =
    ap (λ es. written (λ _ own. own) r Absent d ∷ es)
    (unmatched_left ms rs taken ds (omega (arith, same_m)) (omega (arith, same_r)) (omega (arith, same_t)))

-- there is a mark for each unmatched result
marked_unmatched : (ms : List Bool) (rs : List Record) (taken : List Bool) (ds : List Data)
    → length ms ≡ length ds → length rs ≡ length ds → length taken ≡ length ds
    → length (unmarked taken ms) ≡ length (unmatched rs taken ds)
marked_unmatched ms [] [] [] same_m same_r same_t = refl
marked_unmatched ms [] (t ∷ taken) [] same_m same_r same_t = absurd (omega (arith, same_t))
marked_unmatched ms [] taken (d ∷ ds) same_m same_r same_t = absurd (omega (arith, same_r))
marked_unmatched ms (r ∷ rs) taken [] same_m same_r same_t = absurd (omega (arith, same_r))
marked_unmatched ms (r ∷ rs) [] (d ∷ ds) same_m same_r same_t = absurd (omega (arith, same_t))
marked_unmatched [] (r ∷ rs) (t ∷ taken) (d ∷ ds) same_m same_r same_t = absurd (omega (arith, same_m))
marked_unmatched (m ∷ ms) (r ∷ rs) (true ∷ taken) (d ∷ ds) same_m same_r same_t =
    marked_unmatched ms rs taken ds (omega (arith, same_m)) (omega (arith, same_r)) (omega (arith, same_t))
marked_unmatched (m ∷ ms) (r ∷ rs) (false ∷ taken) (d ∷ ds) same_m same_r same_t =
    ap suc (marked_unmatched ms rs taken ds (omega (arith, same_m)) (omega (arith, same_r)) (omega (arith, same_t)))

-- ---- a run

absent_found : (ds : List Data) (run : Data) → IsObject run → length (results_of (with_absent ds run)) ≡ length ds
absent_found ds null is = absurd is
absent_found ds (boolean b) is = absurd is
absent_found ds (number n) is = absurd is
absent_found ds (string s) is = absurd is
absent_found ds (array es) is = absurd is
absent_found ds (object members) is = put_long ds (bare members)

absent_left : (ms : List Bool) (ds : List Data) (run : Data) → IsObject run
    → without_marked ms (with_absent ds run) ≡ with_absent (unmarked ms ds) run
absent_left ms ds null is = absurd is
absent_left ms ds (boolean b) is = absurd is
absent_left ms ds (number n) is = absurd is
absent_left ms ds (string s) is = absurd is
absent_left ms ds (array es) is = absurd is
absent_left ms ds (object members) is = with_left ms ds (bare members)

-- a run is there if it has results
kept_if : (ds : List Data) (run : Data) (more : List Data) → IsObject run
    → with_any (with_absent ds run ∷ more) ≡ if_any ds run (with_any more)
kept_if ds run more is = by_results ds (results_of (with_absent ds run)) (absent_found ds run is) where
  by_results : (ds found : List Data) → length found ≡ length ds
      → cond (not (is_empty found)) (with_absent ds run ∷ with_any more) (with_any more) ≡ if_any ds run (with_any more)
  by_results [] [] same = refl
  by_results [] (e ∷ found) same = absurd (omega (arith, same))
  by_results (d ∷ ds) [] same = absurd (omega (arith, same))
  by_results (d ∷ ds) (e ∷ found) same = refl

one_left : (ms : List Bool) (ds : List Data) (run : Data) (all : List (List Bool)) (more : List Data) → length ms ≡ length ds → IsObject run
    → with_any (each_without (if_any_marks ms all) (if_any ds run more)) ≡ if_any (unmarked ms ds) run (with_any (each_without all more))
one_left [] [] run all more same is = refl
one_left [] (d ∷ ds) run all more same is = absurd (omega (arith, same))
one_left (m ∷ ms) [] run all more same is = absurd (omega (arith, same))
one_left (m ∷ ms) (d ∷ ds) run all more same is =
    ap (λ r. with_any (r ∷ each_without all more)) (absent_left (m ∷ ms) (d ∷ ds) run is)
    ∙ kept_if (unmarked (m ∷ ms) (d ∷ ds)) run (each_without all more) is

one_marked : (ms : List Bool) (ds : List Data) (run : Data) (all : List (List Bool)) (more : List Data) → length ms ≡ length ds → IsObject run
    → AllZip IsMarked all more → AllZip IsMarked (if_any_marks ms all) (if_any ds run more)
one_marked [] [] run all more same is rest = rest
one_marked [] (d ∷ ds) run all more same is rest = absurd (omega (arith, same))
one_marked (m ∷ ms) [] run all more same is rest = absurd (omega (arith, same))
one_marked (m ∷ ms) (d ∷ ds) run all more same is rest = (same ∙ sym (absent_found (d ∷ ds) run is), rest)

-- ---- runs without some of their results

-- these runs are those, without their marked results, where results that are absent already have no marks
abbrev pub ArePresentLeft : List Bool → List Data → List Data → Type 0
ArePresentLeft ms [] [] = Unit {0}
ArePresentLeft ms [] (new ∷ news) = ⊥
ArePresentLeft ms (run ∷ runs) [] = ⊥
ArePresentLeft ms (run ∷ runs) (new ∷ news) =
    let n = length (present (results_of run)) in
    (present (results_of new) ≡ unmarked (take n ms) (present (results_of run)))
    × ((ds : List Data) → with_absent ds new ≡ with_absent ds run)
    × ArePresentLeft (drop n ms) runs news

any_same : (ds es : List Data) (run new : Data) (more rest : List Data) → ds ≡ es → ((xs : List Data) → with_absent xs new ≡ with_absent xs run)
    → more ≡ rest → if_any ds new more ≡ if_any es run rest
any_same ds es run new more rest same beside later = ap₂ (λ xs ys. if_any xs new ys) same later ∙ by_list es where
  by_list : (es : List Data) → if_any es new rest ≡ if_any es run rest
  by_list [] = refl
  by_list (e ∷ es) = ap (λ d. d ∷ rest) (beside (e ∷ es))

module _ (run : Data) (runs : List Data) (ms : List Bool) (taken : List Bool) (rs : List Record)
    (same_m : length ms ≡ length (present_results (run ∷ runs))) (same_t : length taken ≡ length ms) (same_r : length rs ≡ length ms) where
  abbrev ds : List Data
  ds = present (results_of run)

  abbrev n : ℕ
  n = length ds

  all : length ms ≡ n + length (present_results runs)
  all = same_m ∙ length-append ds (present_results runs)

  few : n ≤ length ms
  few = omega (arith, all)

  first_m : length (take n ms) ≡ n
  first_m = length-take-le n ms few

  first_t : length (take n taken) ≡ n
  first_t = length-take-le n taken (omega (arith, few, same_t))

  first_r : length (take n rs) ≡ n
  first_r = length-take-le n rs (omega (arith, few, same_r))

  later_m : length (drop n ms) ≡ length (present_results runs)
  later_m = omega (arith, length-drop n ms, all)

  later_t : length (drop n taken) ≡ length (drop n ms)
  later_t = omega (arith, length-drop n ms, length-drop n taken, same_t)

  later_r : length (drop n rs) ≡ length (drop n ms)
  later_r = omega (arith, length-drop n ms, length-drop n rs, same_r)

  here_marked : length (unmarked (take n taken) (take n ms)) ≡ length (unmatched (take n rs) (take n taken) ds)
  here_marked = marked_unmatched (take n ms) (take n rs) (take n taken) ds first_m first_r first_t

pub absent_marked : (ms taken : List Bool) (rs : List Record) (runs : List Data) → AllByRecursion IsRun runs
    → length ms ≡ length (present_results runs) → length taken ≡ length ms → length rs ≡ length ms
    → AllZip IsMarked (marks_of_absent taken ms runs) (absent_runs rs taken runs)
absent_marked ms taken rs [] are same_m same_t same_r = tt
absent_marked ms taken rs (run ∷ runs) are same_m same_t same_r =
    let k = length (present (results_of run)) in
    one_marked (unmarked (take k taken) (take k ms)) (unmatched (take k rs) (take k taken) (present (results_of run))) run
    (marks_of_absent (drop k taken) (drop k ms) runs) (absent_runs (drop k rs) (drop k taken) runs)
    (here_marked run runs ms taken rs same_m same_t same_r) are.0.0
    (absent_marked (drop k ms) (drop k taken) (drop k rs) runs are.1 (later_m run runs ms taken rs same_m same_t same_r)
    (later_t run runs ms taken rs same_m same_t same_r) (later_r run runs ms taken rs same_m same_t same_r))

pub all_absent_left : (ms taken : List Bool) (rs : List Record) (runs news : List Data) → AllByRecursion IsRun runs
    → length ms ≡ length (present_results runs) → length taken ≡ length ms → length rs ≡ length ms → ArePresentLeft ms runs news
    → with_any (each_without (marks_of_absent taken ms runs) (absent_runs rs taken runs))
    ≡ absent_runs (unmarked ms rs) (unmarked ms taken) news
all_absent_left ms taken rs [] [] are same_m same_t same_r left = refl
all_absent_left ms taken rs [] (new ∷ news) are same_m same_t same_r left = absurd left
all_absent_left ms taken rs (run ∷ runs) [] are same_m same_t same_r left = absurd left
all_absent_left ms taken rs (run ∷ runs) (new ∷ news) are same_m same_t same_r left =
    let ds = present (results_of run) in
    let n = length ds in
    let k = length (present (results_of new)) in
    let le = few run runs ms taken rs same_m same_t same_r in
    let found : k ≡ length (unmarked (take n ms) ds) = ap length left.0 in
    let of_rs : k ≡ length (unmarked (take n ms) (take n rs)) = found ∙ as_many_left n ms rs ds refl le (sym same_r) in
    let of_ts : k ≡ length (unmarked (take n ms) (take n taken)) = found ∙ as_many_left n ms taken ds refl le (sym same_t) in
    let rest =
    all_absent_left (drop n ms) (drop n taken) (drop n rs) runs news are.1 (later_m run runs ms taken rs same_m same_t same_r)
    (later_t run runs ms taken rs same_m same_t same_r) (later_r run runs ms taken rs same_m same_t same_r) left.2 in
    one_left (unmarked (take n taken) (take n ms)) (unmatched (take n rs) (take n taken) ds) run
    (marks_of_absent (drop n taken) (drop n ms) runs) (absent_runs (drop n rs) (drop n taken) runs)
    (here_marked run runs ms taken rs same_m same_t same_r) are.0.0
    ∙ sym (any_same (unmatched (take k (unmarked ms rs)) (take k (unmarked ms taken)) (present (results_of new)))
    (unmarked (unmarked (take n taken) (take n ms)) (unmatched (take n rs) (take n taken) ds)) run new
    (absent_runs (drop k (unmarked ms rs)) (drop k (unmarked ms taken)) news)
    (with_any (each_without (marks_of_absent (drop n taken) (drop n ms) runs) (absent_runs (drop n rs) (drop n taken) runs)))
    (ap₂ (λ qs ts. unmatched qs ts (present (results_of new))) (take_left n k ms rs (sym same_r) of_rs) (take_left n k ms taken (sym same_t) of_ts)
    ∙ ap (unmatched (unmarked (take n ms) (take n rs)) (unmarked (take n ms) (take n taken))) left.0
    ∙ unmatched_left (take n ms) (take n rs) (take n taken) ds (first_m run runs ms taken rs same_m same_t same_r)
    (first_r run runs ms taken rs same_m same_t same_r) (first_t run runs ms taken rs same_m same_t same_r))
    left.1
    (ap₂ (λ qs ts. absent_runs qs ts news) (drop_left n k ms rs (sym same_r) of_rs) (drop_left n k ms taken (sym same_t) of_ts) ∙ sym rest))
