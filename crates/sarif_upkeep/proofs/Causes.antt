-- Why there is no new suppression file.
use Rattle.std.proofs.Common.{◌≡◌, ℕ, Bool, true, false, List, [], ◌∷◌, Option, Some, None, length, refl, ap, if◌then◌else◌}
use Rattle.std.specs.Prelude.{nat_lt}
use Rattle.sarif_model.specs.Limits.{most_bytes, most_entries}
use Rattle.sarif_model.specs.declared.fault.Fault.TheVariants.{TooMany}
use Rattle.sarif_model.specs.declared.merge_fault.At.TheVariants.{Whole}
use Rattle.sarif_model.specs.declared.merge_fault.Cause.{Cause}
use Rattle.sarif_model.specs.declared.merge_fault.Cause.TheVariants.{Of, TooLong}
use Rattle.sarif_model.specs.declared.merge_fault.MergeFault.{MergeFault}
use Rattle.sarif_model.specs.declared.merge_fault.Source.TheVariants.{Suppress}
use Rattle.sarif_model.specs.declared.record.Record.{Record}
use Rattle.sarif_model.specs.FirstFault.{first}
use Rattle.sarif_model.specs.MergeFault.{cause_of, fault_at}
use Rattle.sarif_options.specs.declared.upkeep.Renewal.{Renewal}
use Rattle.sarif_accept.specs.NewFile.{file_text}
use Rattle.sarif_accept.specs.Renewed.{renewal_cause, renewed_entries, renewed_file}
use Rattle.sarif_upkeep.specs.Renewed.{text_faults}

none_by : (a b : Bool) → ◌≡◌ {A = Option Cause} (if a then Some (Of TooMany) else (if b then Some TooLong else None)) None
    → ◌≡◌ {A = List MergeFault} (if a then fault_at (Whole Suppress) (cause_of TooMany) ∷ [] else (if b then fault_at (Whole Suppress) TooLong ∷ [] else [])) []
none_by true b is = let never : ⊥ = cc in absurd never
none_by false true is = let never : ⊥ = cc in absurd never
none_by false false is = refl

some_by : (a b : Bool) (cause : Cause) → ◌≡◌ {A = Option Cause} (if a then Some (Of TooMany) else (if b then Some TooLong else None)) (Some cause)
    → first (if a then fault_at (Whole Suppress) (cause_of TooMany) ∷ [] else (if b then fault_at (Whole Suppress) TooLong ∷ [] else []))
    ≡ Some (fault_at (Whole Suppress) cause)
some_by true b cause is = let same : Of TooMany ≡ cause = cc in ap (λ c. Some (fault_at (Whole Suppress) c)) same
some_by false true cause is = let same : TooLong ≡ cause = cc in ap (λ c. Some (fault_at (Whole Suppress) c)) same
some_by false false cause is = let never : ⊥ = cc in absurd never

pub no_faults : (given : Option (List ℕ)) (kept : List Bool) (added : List Record) (renewal : Renewal) → renewal_cause given kept added renewal ≡ None
    → text_faults (length (renewed_entries given kept added renewal)) (renewed_file given kept added renewal) ≡ []
no_faults given kept added renewal is =
    none_by (nat_lt most_entries (length (renewed_entries given kept added renewal)))
    (nat_lt most_bytes (length (file_text (renewed_file given kept added renewal)))) is

pub some_fault : (given : Option (List ℕ)) (kept : List Bool) (added : List Record) (renewal : Renewal) (cause : Cause)
    → renewal_cause given kept added renewal ≡ Some cause
    → first (text_faults (length (renewed_entries given kept added renewal)) (renewed_file given kept added renewal)) ≡ Some (fault_at (Whole Suppress) cause)
some_fault given kept added renewal cause is =
    some_by (nat_lt most_entries (length (renewed_entries given kept added renewal)))
    (nat_lt most_bytes (length (file_text (renewed_file given kept added renewal)))) cause is
