-- The errors of a policy file, and where they are.
use Rattle.std.specs.Prelude.{ℕ, ⊤, Bool, true, false, List, Result, Ok, Err, codes}
use Rattle.sarif_policy.specs.declared.fault.PolicyFault.{PolicyFault}
use Rattle.sarif_policy.specs.declared.fault.PolicyCause.{PolicyCause}
use Rattle.sarif_policy.specs.declared.fault.PolicyPlace.TheVariants.{Whole, Condition, Filter}
use Rattle.sarif_policy.specs.declared.fault.FilterList.{FilterList}
use Rattle.sarif_policy.specs.declared.fault.FilterList.TheVariants.{Only, Except}

-- the member of a condition that has the list
abbrev pub list_name : FilterList → List ℕ
list_name Only = codes "only"
list_name Except = codes "except"

-- an error of the whole file
abbrev pub whole : PolicyCause → PolicyFault
whole cause = record { at = Whole; cause = cause }

-- an error of condition n
abbrev pub in_condition : ℕ → PolicyCause → PolicyFault
in_condition n cause = record { at = Condition n; cause = cause }

-- an error of filter k in a list of condition n
abbrev pub in_filter : ℕ → FilterList → ℕ → PolicyCause → PolicyFault
in_filter n list k cause = record { at = Filter n list k; cause = cause }

-- passes if the test holds, otherwise returns the error
abbrev pub unless_fault : Bool → PolicyFault → Result ⊤ PolicyFault
unless_fault true fault = Ok tt
unless_fault false fault = Err fault
