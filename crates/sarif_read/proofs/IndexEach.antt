-- The loop over the runs of an indexed log.
use Rattle.std.proofs.Common.{◌≡◌, ℕ, Some, ◌<◌, ◌+◌, List, [], ◌∷◌, ◌++◌, map, length, take, drop, get_or, refl, arith, add-one, drop-cons}
use Rattle.std.proofs.lemmas.Grind.{common_steps}
use Rattle.json.specs.Token.{Token}
use Rattle.sarif_model.specs.declared.fault.Fault.{Fault}
use Rattle.sarif_model.specs.declared.refusal.Refusal.{Refusal}
use Rattle.sarif_model.specs.declared.refusal.Refusal.TheVariants as refusal
use Rattle.sarif_read.specs.declared.read_fault.ReadFault.{ReadFault}
use Rattle.sarif_read.specs.Internal.ReadRefusal.{refusal_at}
use Rattle.sarif_read.specs.declared.indexed_run.IndexedRun.{IndexedRun}
use Rattle.sarif_model.specs.Run.{results_of, results_total}
use Rattle.sarif_read.specs.Internal.Listed.{value_at}
use Rattle.sarif_read.specs.Internal.Indexed.{run_of}

pub front : (nodes : List (List Token)) (i : ℕ) (node : List Token) → i < length nodes → node ≡ get_or nodes i node → drop i nodes ≡ node ∷ drop (i + 1) nodes
front nodes i node below is = rw (add-one, drop-cons nodes i node, ← is) refl

pub total_push : (runs : List IndexedRun) (run : IndexedRun)
    → results_total (map run_of (runs ++ run ∷ [])) ≡ results_total (map run_of runs) + length (results_of (run_of run))
total_push [] run = omega arith
total_push (r ∷ runs) run =
    let rest : results_total (map run_of (runs ++ run ∷ [])) ≡ results_total (map run_of runs) + length (results_of (run_of run)) =
    total_push runs run in omega (arith, rest)

pub made_push : (runs : List IndexedRun) (run : IndexedRun) (nodes : List (List Token)) (i : ℕ) (node : List Token)
    → map run_of runs ≡ map value_at (take i nodes) → run_of run ≡ value_at node → i < length nodes → node ≡ get_or nodes i node
    → map run_of (runs ++ run ∷ []) ≡ map value_at (take (i + 1) nodes)
made_push runs run nodes i node so_far made below is = grind (arith, common_steps)

-- an error of a run names its number
pub refused : (n : ℕ) (r : Refusal Fault) (e : ReadFault) → refusal_at n r ≡ refusal.Fault e
    → (fault : Fault) × (r ≡ refusal.Fault fault) × (record { run = Some n; fault = fault } ≡ e)
refused n (refusal.Fault fault) e h = (fault, refl, cc)
refused n refusal.OutOfMemory e h = absurd cc
