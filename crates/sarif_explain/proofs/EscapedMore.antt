-- A name that is escaped, character by character.
use Rattle.std.proofs.Common.{◌≡◌, ℕ, List, [], ◌++◌, length, encode_utf8, IsUtf8, ap, flat_map}
use Rattle.std.proofs.lemmas.Str.{chars_past_char}
use Rattle.std.proofs.StrCases.{chars_of_empty}
use Rattle.sarif_explain.specs.Internal.Pointer.{escaped, name_char}

pub escaped_step : (name rest : List ℕ) (c : ℕ) → IsUtf8 name → name ≡ encode_utf8 c ++ rest
    → escaped name ≡ name_char c ++ escaped rest
unfolding escaped
escaped_step name rest c utf8 parts = ap (flat_map name_char) (chars_past_char name rest c utf8 parts)

pub escaped_empty : (name : List ℕ) → length name ≡ 0 → escaped name ≡ []
unfolding escaped
escaped_empty name none = ap (flat_map name_char) (chars_of_empty name none)
