-- A reader or a writer together with the number of its failed calls.
use Rattle.std.specs.Prelude.{◌≡◌, ℕ, ◌+◌, Bool, Result, is_err, if◌then◌else◌}
use Rattle.sarif_streams.specs.declared.counted.Counted.{Counted}

abbrev pub inner_of : {D : Type 0} → Counted D → D
inner_of counted = counted.inner

abbrev pub failed_calls : {D : Type 0} → Counted D → ℕ
failed_calls counted = counted.faults

abbrev pub has_failed : {T E : Type 0} → Result T E → Bool
has_failed r = is_err r

-- the number is one higher if the call failed, and otherwise unchanged
abbrev pub RisesIf : Bool → ℕ → ℕ → Type 0
RisesIf failed old new = new ≡ old + (if failed then 1 else 0)
