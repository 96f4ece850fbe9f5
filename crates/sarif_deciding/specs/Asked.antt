-- What the conditions of a policy require besides the records, states and drafts of results.
use Rattle.std.specs.Prelude.{Bool, true, false, List, Option, Some, None, is_some}
use Rattle.std.specs.List.{list_any}
use Rattle.sarif_change.specs.declared.spots.Scope.{Scope}
use Rattle.sarif_change.specs.declared.spots.Scope.TheVariants.{Lines, Files}
use Rattle.sarif_policy.specs.declared.condition.GateCondition.{GateCondition}

-- a condition has a minimum security severity
abbrev pub rates : List GateCondition → Bool
rates cs = list_any (λ c. is_some c.minimum) cs

abbrev pub is_scope : Scope → Scope → Bool
is_scope Lines Lines = true
is_scope Lines Files = false
is_scope Files Lines = false
is_scope Files Files = true

abbrev pub is_in_scope : Scope → Option Scope → Bool
is_in_scope scope None = false
is_in_scope scope (Some own) = is_scope scope own

-- a condition has `diff` in this scope
abbrev pub asks_scope : Scope → List GateCondition → Bool
asks_scope scope cs = list_any (λ c. is_in_scope scope c.diff) cs

-- a condition has a ratchet
abbrev pub ratchets : List GateCondition → Bool
ratchets cs = list_any (λ c. c.ratchet) cs
