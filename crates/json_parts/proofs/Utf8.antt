-- The JSON value of bytes, by the parser's two clauses: what it read, and why it rejected them.
use Rattle.std.proofs.Common.{◌≡◌, ℕ, true, false, List, Option, Some, None, if◌then◌else◌, refl}
use Rattle.std.specs.Str.{is_utf8, IsUtf8}
use Rattle.std.proofs.lemmas.Str.{IsUtf8-from_is_utf8, is_utf8-from_IsUtf8}
use Rattle.serde_json.specs.Data.{Data}
use Rattle.serde_json.specs.Read.{read}
use Rattle.json_parts.specs.Indexed.{json_of}

pub json_of_read : (bytes : List ℕ) (d : Data) → IsUtf8 bytes → read bytes ≡ Some d → json_of bytes ≡ Some d
json_of_read bytes d utf8 is = rw (is_utf8-from_IsUtf8 bytes utf8) is

pub json_of_refused : (bytes : List ℕ) → (IsUtf8 bytes → read bytes ≡ None) → json_of bytes ≡ None
json_of_refused bytes refused =
    elim (is_utf8 bytes) as (λ b. is_utf8 bytes ≡ b → ◌≡◌ {A = Option Data} (if b then read bytes else None) None)
    [ true ↦ λ e. refused (IsUtf8-from_is_utf8 bytes e) | false ↦ λ e. refl ] refl
