-- Which rejections say that a read or a write failed: none for an error in what was read. Internal: no public
-- contract refers to these.
use Rattle.std.proofs.Common.{◌≡◌, Err, false, refl}
use Rattle.sarif_model.specs.declared.refusal.Refusal.{Refusal}
use Rattle.sarif_model.specs.declared.refusal.Refusal.TheVariants as refusal
use Rattle.sarif_model.specs.MergeFault.{is_read_failed, is_write_failed}
use Rattle.sarif_streams.specs.declared.readers.ReadersFault.{ReadersFault}
use Rattle.sarif_streams.specs.declared.source.SourceFault.{SourceFault}
use Rattle.sarif_streams.specs.declared.source.SourceFault.TheVariants as source
use Rattle.sarif_streams.specs.Failing.{reading_has_failed}
use Rattle.sarif_streams.specs.ReadersFault.{cause_of_source, fault_of_readers}
use Rattle.sarif_streams.specs.Source.{is_failed_read}

same_source : (fault : SourceFault) → is_failed_read fault ≡ is_read_failed (cause_of_source fault)
same_source source.ReadFailed = refl
same_source source.TooLong = refl

no_write_of : (fault : SourceFault) → is_write_failed (cause_of_source fault) ≡ false
no_write_of source.ReadFailed = refl
no_write_of source.TooLong = refl

-- if not all sources were read, the rejection says that a read failed if and only if one failed, and never that a
-- write failed
pub same_failure : (T : Type 0) (fault : Refusal ReadersFault) → reading_has_failed {T = T} (Err fault) ≡ is_read_failed (fault_of_readers fault).cause
same_failure T (refusal.Fault found) = same_source found.fault
same_failure T refusal.OutOfMemory = refl

pub no_write : (fault : Refusal ReadersFault) → is_write_failed (fault_of_readers fault).cause ≡ false
no_write (refusal.Fault found) = no_write_of found.fault
no_write refusal.OutOfMemory = refl
