-- The first error of runs whose results were judged.
use Rattle.std.proofs.Common.{◌≡◌, List, [], ◌∷◌, ◌++◌, Option, refl}
use Rattle.std.specs.Prelude.{is_some, true, false}
use Rattle.sarif_model.specs.declared.merge_fault.MergeFault.{MergeFault}
use Rattle.sarif_runs.specs.Judging.{faults_of_runs, run_faults}
use Rattle.sarif_runs.specs.Placed.{Placed}
use Rattle.sarif_model.specs.FirstFault.{first}

nothing_first : (xs ys : List MergeFault) (found : Option MergeFault) → found ≡ first xs → is_some found ≡ false → xs ++ ys ≡ ys
nothing_first [] ys found is none = refl
nothing_first (x ∷ xs) ys found is none = cc

-- a run without errors
pub goes_on : (p : Placed) (ps : List Placed) (found : Option MergeFault) → found ≡ first (run_faults p) → is_some found ≡ false
    → faults_of_runs (p ∷ ps) ≡ faults_of_runs ps
goes_on p ps found is none = nothing_first (run_faults p) (faults_of_runs ps) found is none

found_first : (xs ys : List MergeFault) (found : Option MergeFault) → found ≡ first xs → is_some found ≡ true → found ≡ first (xs ++ ys)
found_first [] ys found is some = cc
found_first (x ∷ xs) ys found is some = is

-- a run with an error
pub ends : (p : Placed) (ps : List Placed) (found : Option MergeFault) → found ≡ first (run_faults p) → is_some found ≡ true
    → found ≡ first (faults_of_runs (p ∷ ps))
ends p ps found is some = found_first (run_faults p) (faults_of_runs ps) found is some
