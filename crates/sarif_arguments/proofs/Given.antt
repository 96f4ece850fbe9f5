-- What reading a file gave, by the clauses of that call.
use Rattle.std.proofs.Common.{◌≡◌, List, ℕ, arith, refl}
use Rattle.std.specs.Prelude.{IfOk, IfSome, OnOk, Result, Ok, Err, Vec}
use Rattle.std.specs.Io.KnownBytes.{Consumes, IsAtEnd}
use Rattle.std.specs.Io.Take.{take_inner}
use Rattle.sarif_model.specs.declared.refusal.Refusal.{Refusal}
use Rattle.sarif_model.specs.declared.refusal.Refusal.TheVariants as refusal
use Rattle.sarif_streams.specs.Counted.{RisesIf, failed_calls, inner_of}
use Rattle.sarif_streams.specs.Source.{IsPastLimit, IsWithinLimit, read_has_failed}
use Rattle.sarif_streams.specs.declared.counted.Counted.{Counted}
use Rattle.sarif_streams.specs.declared.source.SourceFault.{SourceFault}
use Rattle.sarif_streams.specs.declared.source.SourceFault.TheVariants.{ReadFailed, TooLong}
use Rattle.sarif_arguments.specs.Reading.{IfRead}
use Rattle.sarif_arguments.specs.System.{ArgumentFile, HasGiven, left}

pub given : {A : Type 0} (name : List ℕ) (before after : Counted ArgumentFile) (r : Result (Vec ℕ A) (Refusal SourceFault))
    → (take_inner (inner_of before)).name.now ≡ name → failed_calls before ≡ 0
    → IfOk r (λ v. Consumes (left (inner_of before)) (left (inner_of after)) v.items)
    → OnOk r (IsAtEnd (left (inner_of after))) → IfOk r (λ v. IsWithinLimit v.items)
    → (r ≡ Err (refusal.Fault TooLong) → IfSome (left (inner_of before)) IsPastLimit)
    → RisesIf (read_has_failed r) (failed_calls before) (failed_calls after)
    → IfRead (HasGiven name) r
given name before after (Ok v) named unread bytes end within long counted = record {
  before = before;
  after = after;
  name = named;
  unread = unread;
  read = (bytes, end, within, omega (arith, counted));
}
given name before after (Err (refusal.Fault ReadFailed)) named unread bytes end within long counted = record {
  before = before;
  after = after;
  name = named;
  unread = unread;
  read = counted;
}
given name before after (Err (refusal.Fault TooLong)) named unread bytes end within long counted = record {
  before = before;
  after = after;
  name = named;
  unread = unread;
  read = (omega (arith, counted), long refl);
}
given name before after (Err refusal.OutOfMemory) named unread bytes end within long counted = tt
