-- The errors of the inputs of a merge, in the order of the checks, and the meaning of a rejection.
use Rattle.std.specs.Prelude.{◌≡◌, List, [], ◌∷◌, ◌⊎◌, Option, Some, None, Result, Ok, Err}
use Rattle.sarif_model.specs.declared.merge_fault.At.TheVariants.{Nowhere}
use Rattle.sarif_model.specs.declared.merge_fault.Cause.TheVariants.{NoWorker}
use Rattle.sarif_model.specs.declared.merge_fault.MergeFault.{MergeFault}
use Rattle.sarif_model.specs.MergeFault.{out_of_memory}

abbrev pub first : List MergeFault → Option MergeFault
first [] = None
first (fault ∷ faults) = Some fault

-- the rejection if a thread could not be started
abbrev pub no_worker : MergeFault
no_worker = record { at = Nowhere; cause = NoWorker }

-- memory ran out, or a thread could not be started
abbrev pub IsOutOfResources : MergeFault → Type 0
IsOutOfResources fault = (fault ≡ out_of_memory) ⊎ (fault ≡ no_worker)

-- a result if these are the errors: Ok only if there is none, and a rejection is the first of them, or means that
-- memory ran out or that a thread could not be started
abbrev pub Answers : {T : Type 0} → List MergeFault → Result T MergeFault → Type 0
Answers faults (Ok v) = faults ≡ []
Answers faults (Err fault) = IsOutOfResources fault ⊎ (first faults ≡ Some fault)
