-- A rejection that is neither a failed read nor a failed write has exit status 2.
use Rattle.std.proofs.Common.{◌≡◌, ◌<◌, ℕ, ◌+◌, Bool, true, false, nat_eq, arith, refl}
use Rattle.sarif_model.specs.declared.merge_fault.Cause.{Cause}
use Rattle.sarif_model.specs.declared.merge_fault.Cause.TheVariants.{ReadFailed, WriteFailed}
use Rattle.sarif_streams.specs.Counted.{RisesIf}
use Rattle.sarif_model.specs.MergeFault.{is_read_failed, is_write_failed}
use Rattle.sarif_model.specs.MergeFault.{exit_status}

pub quiet_status : (cause : Cause) → is_read_failed cause ≡ false → is_write_failed cause ≡ false → exit_status cause ≡ 2
quiet_status ReadFailed read written = cc
quiet_status WriteFailed read written = cc
quiet_status _ read written = refl

-- if the number of failed reads is unchanged, no read failed
pub no_rise : (failed : Bool) (old new : ℕ) → RisesIf failed old new → new ≡ old → failed ≡ false
no_rise true old new rise same = absurd (omega (arith, rise, same))
no_rise false old new rise same = refl

-- a rejection that is not a failed write has exit status 3 if and only if a read failed
pub refused_rise : (cause : Cause) (old new written : ℕ) → is_write_failed cause ≡ false → RisesIf (is_read_failed cause) old new
    → RisesIf (nat_eq (exit_status cause) 3) (old + written) (new + written)
refused_rise ReadFailed old new written quiet rise = omega (arith, rise)
refused_rise WriteFailed old new written quiet rise = cc
refused_rise _ old new written quiet rise = omega (arith, rise)

-- no rejection has a status below 2
pub low_status : (cause : Cause) (status : ℕ) → status ≡ exit_status cause → status < 2 → ⊥
low_status ReadFailed status is low = omega (arith, is, low)
low_status WriteFailed status is low = omega (arith, is, low)
low_status _ status is low = omega (arith, is, low)
