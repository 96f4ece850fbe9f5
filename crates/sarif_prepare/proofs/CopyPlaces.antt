-- The places of copies are those in the runs that are written, and copies aren't counted.
use Rattle.std.proofs.Common.{◌≡◌, ◌+◌, Bool, true, false, List, [], ◌∷◌, ◌++◌, take, drop, length, Option, unwrap_or, refl, sym, ap, ap₂, ◌∙◌, arith}
use Rattle.std.proofs.Math.Seq.{take-append_seam, drop-append_seam}
use Rattle.std.proofs.lemmas.List.{length-append, length-drop, length-take-le}
use Rattle.serde_json.specs.Data.{Data}
use Rattle.sarif_model.specs.declared.kinds.Level.{Level}
use Rattle.sarif_model.specs.declared.kinds.State.{State}
use Rattle.sarif_model.specs.Run.{present, results_of}
use Rattle.sarif_log.specs.Copies.{if_any}
use Rattle.sarif_log.specs.Internal.Copied.{marks_of_left, marks_of_parts, masked}
use Rattle.sarif_log.specs.Internal.Texts.{count_in_parts, counts_as, own_count, present_results, tallied, ArePartsOf}
use Rattle.sarif_log.specs.declared.run_parts.RunParts.{RunParts}
use Rattle.sarif_log.proofs.RunTexts.{run_count}
use Rattle.sarif_read.specs.Unmarked.{unmarked}
use Rattle.sarif_results.specs.declared.draft.Draft.{Draft}
use Rattle.sarif_prepare.specs.Internal.LeftParts.{AreLeftParts}
use Rattle.sarif_prepare.specs.Internal.Leftover.{not_taken}
use Rattle.sarif_prepare.specs.Once.{marks_of_absent, marks_of_runs}
use Rattle.sarif_prepare.proofs.LeftTexts.{long, seam}
use Rattle.sarif_prepare.proofs.Untaken.{untaken_is}

pub places_now : (all : List RunParts) (runs : List Data) (marks : List Bool) → ArePartsOf own_count all runs
    → marks_of_parts all marks ≡ marks_of_runs marks runs
places_now [] [] marks parts = refl
places_now [] (run ∷ runs) marks parts = absurd parts
places_now (p ∷ all) [] marks parts = absurd parts
places_now (p ∷ all) (run ∷ runs) marks parts =
    ap (λ n. take n marks ∷ marks_of_parts all (drop n marks)) (run_count p run parts.1)
    ∙ ap (λ ms. take (length (results_of run)) marks ∷ ms) (places_now all runs (drop (length (results_of run)) marks) parts.2)

pub places_before : (all : List RunParts) (taken marks : List Bool) (runs : List Data) → AreLeftParts all taken runs
    → length marks ≡ length taken → length taken ≡ length (present_results runs)
    → marks_of_left all (not_taken taken marks) ≡ marks_of_absent taken marks runs
places_before [] taken marks [] parts same total = refl
places_before [] taken marks (run ∷ runs) parts same total = absurd parts
places_before (p ∷ all) taken marks [] parts same total = absurd parts
places_before (p ∷ all) taken marks (run ∷ runs) parts same total =
    let n = length (present (results_of run)) in
    let these = not_taken (take n taken) (take n marks) in
    let later = not_taken (drop n taken) (drop n marks) in
    let all_long : length taken ≡ n + length (present_results runs) = total ∙ length-append (present (results_of run)) (present_results runs) in
    let taken_long : length (take n taken) ≡ n = length-take-le n taken (omega (arith, all_long)) in
    let marks_long : length (take n marks) ≡ n = length-take-le n marks (omega (arith, all_long, same)) in
    let counted : count_in_parts p ≡ length these =
    ap (λ m. unwrap_or m 0) parts.1 ∙ long (take n taken) (take n taken) (take n marks) refl (marks_long ∙ sym taken_long) in
    let rest = places_before all (drop n taken) (drop n marks) runs parts.2
    (omega (arith, length-drop n marks, length-drop n taken, same)) (omega (arith, length-drop n taken, all_long)) in
    ap (λ ms. if_any (take (count_in_parts p) ms) (marks_of_left all (drop (count_in_parts p) ms))) (seam n taken marks same)
    ∙ ap (λ m. if_any (take m (these ++ later)) (marks_of_left all (drop m (these ++ later)))) counted
    ∙ ap₂ (λ xs ys. if_any xs (marks_of_left all ys)) (take-append_seam these later) (drop-append_seam these later)
    ∙ ap₂ (λ xs ys. if_any xs ys) (untaken_is (take n taken) (take n marks)) rest

-- what is counted of results whose copies are marked is what is counted of the others
pub counted_found : (marks : List Bool) (ds : List Draft) (ss : List (Option State)) (s : State) (l : Level) (b : Bool)
    → length marks ≡ length ds → length ss ≡ length ds
    → tallied ds (masked marks ss) s l b ≡ tallied (unmarked marks ds) (unmarked marks ss) s l b
counted_found [] [] ss s l b same_m same_s = refl
counted_found [] (d ∷ ds) ss s l b same_m same_s = absurd (omega (arith, same_m))
counted_found (m ∷ marks) [] ss s l b same_m same_s = absurd (omega (arith, same_m))
counted_found (m ∷ marks) (d ∷ ds) [] s l b same_m same_s = absurd (omega (arith, same_s))
counted_found (true ∷ marks) (d ∷ ds) (st ∷ ss) s l b same_m same_s =
    let rest = counted_found marks ds ss s l b (omega (arith, same_m)) (omega (arith, same_s)) in omega (arith, rest)
counted_found (false ∷ marks) (d ∷ ds) (st ∷ ss) s l b same_m same_s =
    ap (λ n. counts_as st d s l b + n) (counted_found marks ds ss s l b (omega (arith, same_m)) (omega (arith, same_s)))
