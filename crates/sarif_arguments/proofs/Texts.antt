-- Whether bytes are text.
use Rattle.std.proofs.Common.{◌≡◌, ◌==◌, List, ℕ, Bool, true, false, not, refl, subst, if◌then◌else◌}
use Rattle.std.specs.Prelude.{IsUtf8, Result, Ok, Err}
use Rattle.std.specs.List.{list_any}
use Rattle.std.specs.Str.{is_utf8}
use Rattle.std.proofs.lemmas.Str.{IsUtf8-from_is_utf8, is_utf8-from_IsUtf8}
use Rattle.sarif_arguments.specs.File.{text_in}
use Rattle.sarif_arguments.specs.declared.file_fault.ArgumentFileFault.{ArgumentFileFault}
use Rattle.sarif_arguments.specs.declared.file_fault.ArgumentFileFault.TheVariants.{NotUtf8, HasNul}

abbrev chosen : List ℕ → Bool → Bool → Result (List ℕ) ArgumentFileFault
chosen bytes is has = if not is then Err NotUtf8 else (if has then Err HasNul else Ok bytes)

is_none : (bytes : List ℕ) → ¬ (IsUtf8 bytes) → (b : Bool) → is_utf8 bytes ≡ b → b ≡ false
is_none bytes other true e = absurd (other (IsUtf8-from_is_utf8 bytes e))
is_none bytes other false e = refl

at : (bytes : List ℕ) (is has : Bool) → is_utf8 bytes ≡ is → list_any (λ byte. byte == 0) bytes ≡ has → text_in bytes ≡ chosen bytes is has
at bytes is has e f =
    subst (λ h. text_in bytes ≡ chosen bytes is h) f
    (subst (λ i. text_in bytes ≡ chosen bytes i (list_any (λ byte. byte == 0) bytes)) e refl)

pub no_text : (bytes : List ℕ) → ¬ (IsUtf8 bytes) → text_in bytes ≡ Err NotUtf8
no_text bytes other = at bytes false (list_any (λ byte. byte == 0) bytes) (is_none bytes other (is_utf8 bytes) refl) refl

pub nul_text : (bytes : List ℕ) → IsUtf8 bytes → list_any (λ byte. byte == 0) bytes ≡ true → text_in bytes ≡ Err HasNul
nul_text bytes is has = at bytes true true (is_utf8-from_IsUtf8 bytes is) has

pub whole_text : (bytes : List ℕ) → IsUtf8 bytes → list_any (λ byte. byte == 0) bytes ≡ false → text_in bytes ≡ Ok bytes
whole_text bytes is has = at bytes true false (is_utf8-from_IsUtf8 bytes is) has
