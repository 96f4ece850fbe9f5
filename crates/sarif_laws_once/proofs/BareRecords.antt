-- All runs, read without regions and snippets.
use Rattle.std.proofs.Common.{◌≡◌, List, [], ◌∷◌, ◌++◌, map, refl, sym, ap, ap₂, ◌∙◌}
use Rattle.std.proofs.lemmas.List.{map-append}
use Rattle.sarif_runs.specs.Judging.{faults_of_runs, items_of, records_in, records_of, run_values}
use Rattle.sarif_runs.specs.Placed.{Placed}
use Rattle.sarif_known_laws.proofs.BareRecords.{bare, faults_bare, placed_bare, run_bare}

pub all_bare : (ps : List Placed) → records_of (map placed_bare ps) ≡ map bare (records_of ps)
all_bare [] = refl
all_bare (p ∷ ps) =
    ap₂ (λ rs qs. rs ++ qs) (run_bare p) (all_bare ps) ∙ sym (map-append bare (records_in (items_of p)) (records_of ps))

pub values_bare : (ps : List Placed) → run_values (map placed_bare ps) ≡ run_values ps
values_bare [] = refl
values_bare (p ∷ ps) = ap (λ l. p.run ∷ l) (values_bare ps)

pub all_faults_bare : (ps : List Placed) → faults_of_runs (map placed_bare ps) ≡ faults_of_runs ps
all_faults_bare [] = refl
all_faults_bare (p ∷ ps) = ap₂ (λ xs ys. xs ++ ys) (faults_bare p) (all_faults_bare ps)
