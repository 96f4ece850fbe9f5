-- Why a call that allocates fails.
use Rattle.std.specs.Prelude.{◌≡◌, Result, IfErr}
use Rattle.sarif_model.specs.declared.refusal.Refusal.{Refusal}
use Rattle.sarif_model.specs.declared.refusal.Refusal.TheVariants as refusal

-- this holds for the error in what was read, if the call returned one
abbrev pub IfFault : {X F : Type 0} → Result X (Refusal F) → (F → Type 0) → Type 0
IfFault {F = F} result P = IfErr result (λ e. (fault : F) → e ≡ refusal.Fault fault → P fault)
