-- How many places of copies there are.
use Rattle.std.proofs.Common.{◌≡◌, ◌+◌, ℕ, Bool, true, false, List, [], ◌∷◌, take, drop, length, refl, ◌∙◌, arith}
use Rattle.std.proofs.lemmas.List.{length-append, length-drop}
use Rattle.serde_json.specs.Data.{Data}
use Rattle.sarif_model.specs.Run.{present, results_of, results_total}
use Rattle.sarif_read.specs.Unmarked.{unmarked}
use Rattle.sarif_log.specs.Copies.{if_any, places_from, places_in}
use Rattle.sarif_log.specs.Internal.Texts.{present_results}
use Rattle.sarif_prepare.specs.Once.{marks_of_absent, marks_of_runs}
use Rattle.sarif_laws_once.proofs.Apart.{left_split, set_in, set_split}

-- how many marks of these lists are set
abbrev all_set : List (List Bool) → ℕ
all_set [] = 0
all_set (marks ∷ more) = set_in marks + all_set more

-- a place for each copy of a run
in_run : (run n : ℕ) (marks : List Bool) → length (places_in run n marks) ≡ set_in marks
in_run run n [] = refl
in_run run n (true ∷ marks) = let rest = in_run run (n + 1) marks in omega (arith, rest)
in_run run n (false ∷ marks) = in_run run (n + 1) marks

in_runs : (run : ℕ) (all : List (List Bool)) → length (places_from run all) ≡ all_set all
in_runs run [] = refl
in_runs run (marks ∷ more) =
    let both = length-append (places_in run 0 marks) (places_from (run + 1) more) in
    let here = in_run run 0 marks in
    let rest = in_runs (run + 1) more in
    omega (arith, both, here, rest)

-- ---- runs of logs

set_now : (marks : List Bool) (runs : List Data) → length marks ≡ results_total runs → all_set (marks_of_runs marks runs) ≡ set_in marks
set_now [] [] same = refl
set_now (m ∷ marks) [] same = absurd (omega (arith, same))
set_now marks (run ∷ runs) same =
    let n = length (results_of run) in
    let rest = set_now (drop n marks) runs (omega (arith, length-drop n marks, same)) in
    let all = set_split n marks in
    omega (arith, rest, all)

pub places_now : (run : ℕ) (marks : List Bool) (runs : List Data) → length marks ≡ results_total runs
    → length (places_from run (marks_of_runs marks runs)) ≡ set_in marks
places_now run marks runs same = in_runs run (marks_of_runs marks runs) ∙ set_now marks runs same

-- ---- runs of baselines

set_if_any : (marks : List Bool) (more : List (List Bool)) → all_set (if_any marks more) ≡ set_in marks + all_set more
set_if_any [] more = omega arith
set_if_any (m ∷ marks) more = refl

set_before : (taken marks : List Bool) (runs : List Data) → length taken ≡ length marks → length taken ≡ length (present_results runs)
    → all_set (marks_of_absent taken marks runs) ≡ set_in (unmarked taken marks)
set_before [] [] [] same total = refl
set_before [] (m ∷ marks) [] same total = absurd (omega (arith, same))
set_before (t ∷ taken) marks [] same total = absurd (omega (arith, total))
set_before taken marks (run ∷ runs) same total =
    let n = length (present (results_of run)) in
    let long = length-append (present (results_of run)) (present_results runs) in
    let here = set_if_any (unmarked (take n taken) (take n marks)) (marks_of_absent (drop n taken) (drop n marks) runs) in
    let rest =
    set_before (drop n taken) (drop n marks) runs (omega (arith, length-drop n taken, length-drop n marks, same))
    (omega (arith, length-drop n taken, long, total)) in
    let all = left_split n taken marks same in
    omega (arith, here, rest, all)

pub places_before : (run : ℕ) (taken marks : List Bool) (runs : List Data) → length taken ≡ length marks → length taken ≡ length (present_results runs)
    → length (places_from run (marks_of_absent taken marks runs)) ≡ set_in (unmarked taken marks)
places_before run taken marks runs same total = in_runs run (marks_of_absent taken marks runs) ∙ set_before taken marks runs same total
