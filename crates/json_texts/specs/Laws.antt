-- Laws of what is written.
use Rattle.std.specs.Prelude.{◌≡◌, ◌≤◌, Bool, true, false, Some}
use Rattle.json.specs.Json.{Json, document}
use Rattle.json.specs.Tree.{HasNumbers, depth}
use Rattle.serde_json.specs.Data.{Data}
use Rattle.serde_json.specs.Read.{of_json, max_depth}
use Rattle.serde_json.specs.Written.{compact_text}
use Rattle.json_parts.specs.Stripping as values
use Rattle.json_texts.specs.Whole.{whole, stripped, written, text_of}

-- the stripped text of a value that `serde_json` reads is the compact text of that value, stripped
abbrev pub StripsAsValues : Type 0
StripsAsValues =
    (j : Json) (d : Data) → HasNumbers j → of_json j ≡ Some d → values.is_fractional d ≡ false
    → text_of (written false j) ≡ compact_text (values.stripped d)

-- what is written is read again as the value that was written
abbrev pub IsReadAgain : Type 0
IsReadAgain =
    (keeps : Bool) (j : Json) → HasNumbers j → depth j ≤ max_depth
    → document (text_of (written keeps j)) ≡ Some (written keeps j)

-- stripping the text with all numbers gives the text without fractions
abbrev pub StrippingLater : Type 0
StrippingLater =
    (j again : Json) → HasNumbers j → depth j ≤ max_depth
    → document (text_of (written true j)) ≡ Some again
    → text_of (stripped (whole again)) ≡ text_of (written false j)
