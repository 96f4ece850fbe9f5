-- The places of all results, and what is made of them.
use Rattle.std.proofs.Common.{◌≡◌, ◌+◌, ℕ, zero, suc, List, [], ◌∷◌, ◌++◌, map, length, append_assoc, refl, sym, ap, ◌∙◌, arith}
use Rattle.std.proofs.lemmas.List.{map-append, length-append}
use Rattle.std.proofs.Math.Seq.{get_or-append_seam}
use Rattle.std.specs.List.{range_with_len}
use Rattle.sarif_model.specs.Run.{results_of}
use Rattle.sarif_entries.specs.File.{File}
use Rattle.sarif_results.specs.Internal.Outcomes.{all_outcomes, outcome_of, outcomes_of}
use Rattle.sarif_runs.specs.Placed.{Placed}
use Rattle.sarif_runs.specs.Internal.Spots.{no_run, placed_at, spots_in, spots_from}
use Rattle.sarif_results.specs.Internal.OutcomesAt.{outcome_at}

-- the run after the others
at_seam : (done : List Placed) (p : Placed) (rest : List Placed) → placed_at (done ++ p ∷ rest) (length done) ≡ p
at_seam done p rest = get_or-append_seam done p rest no_run

of_run : (file : File) (all : List Placed) (p : Placed) (n a k : ℕ) → placed_at all n ≡ p
    → map (outcome_at file all) (map (λ seq. record { run = n; seq = seq }) (range_with_len a k)) ≡ map (outcome_of file p) (range_with_len a k)
of_run file all p n a zero is = refl
of_run file all p n a (suc k) is =
    ap (λ q. outcome_of file q a ∷ map (outcome_at file all) (map (λ seq. record { run = n; seq = seq }) (range_with_len (a + 1) k))) is
    ∙ ap (λ os. outcome_of file p a ∷ os) (of_run file all p n (a + 1) k is)

from : (file : File) (done rest : List Placed) (n : ℕ) → n ≡ length done
    → map (outcome_at file (done ++ rest)) (spots_from n rest) ≡ all_outcomes file rest
from file done [] n is = refl
from file done (p ∷ rest) n is =
    let all = done ++ p ∷ rest in
    let count = length (results_of p.run) in
    let here : placed_at all n ≡ p = ap (placed_at all) is ∙ at_seam done p rest in
    let again : (done ++ p ∷ []) ++ rest ≡ all = append_assoc done (p ∷ []) rest in
    map-append (outcome_at file all) (spots_in n count) (spots_from (n + 1) rest)
    ∙ ap (λ os. os ++ map (outcome_at file all) (spots_from (n + 1) rest)) (of_run file all p n 0 count here)
    ∙ ap (λ ps. outcomes_of file p ++ map (outcome_at file ps) (spots_from (n + 1) rest)) (sym again)
    ∙ ap (λ os. outcomes_of file p ++ os) (from file (done ++ p ∷ []) rest (n + 1) (omega (arith, is, length-append done (p ∷ []))))

pub outcomes_at_spots : (file : File) (runs : List Placed) → map (outcome_at file runs) (spots_from 0 runs) ≡ all_outcomes file runs
outcomes_at_spots file runs = from file [] runs 0 refl
