-- The meaning of a rejection if more errors are searched for after these.
use Rattle.std.proofs.Common.{◌≡◌, List, [], ◌∷◌, ◌++◌, ◌⊎◌, inl, inr, Some}
use Rattle.sarif_model.specs.declared.merge_fault.MergeFault.{MergeFault}
use Rattle.sarif_model.specs.FirstFault.{first, IsOutOfResources}

first_stays : (xs ys : List MergeFault) (e : MergeFault) → first xs ≡ Some e → first (xs ++ ys) ≡ Some e
first_stays [] ys e h = absurd (cc)
first_stays (x ∷ xs) ys e h = h

-- a rejection by these errors is a rejection by these and more
pub still_first : (xs ys : List MergeFault) (e : MergeFault) → IsOutOfResources e ⊎ (first xs ≡ Some e) → IsOutOfResources e ⊎ (first (xs ++ ys) ≡ Some e)
still_first xs ys e (inl wanting) = inl wanting
still_first xs ys e (inr found) = inr (first_stays xs ys e found)
