-- The number that a string represents.
use Rattle.std.proofs.Common.{◌≡◌, ℕ, Option, refl}
use Rattle.std.specs.Prelude.{Some, None, Result, Ok, Err}
use Rattle.std.specs.Str.Parse.{ParsesUnsigned}
use Rattle.clap.specs.Words.{Text, ReadsOne}
use Rattle.sarif_request.specs.Words.{IsReadNumber}

pub reads : (E : Type 0) (G : Text → Result ℕ E → Type 0) (o : Option Text) (r : Option ℕ)
    → ((t : Text) (x : Result ℕ E) → G t x → ParsesUnsigned 32 10 t x)
    → (o ≡ None → r ≡ None) → ((t : Text) → o ≡ Some t → ReadsOne G t r) → IsReadNumber o r
reads E G None r only none value = none refl
reads E G (Some t) None only none value = let h = value t refl in only t (Err h.0) h.1
reads E G (Some t) (Some n) only none value = only t (Ok n) (value t refl)
