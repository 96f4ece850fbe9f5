-- The fingerprints of a result (SARIF 2.1.0, result object, "fingerprints property",
-- "partialFingerprints property").
use Rattle.std.specs.Prelude.{ℕ, List, [], ◌∷◌, Option, Some, None, Result, Ok, Err}
use Rattle.serde_json.specs.Data.{Data, null, boolean, number, string, array, object, Members, no_members, member}
use Rattle.serde_json.specs.Find.{as_object}
use Rattle.sarif_model.specs.declared.fault.Fault.{Fault}
use Rattle.sarif_model.specs.declared.fault.Fault.TheVariants.{BadFingerprint}
use Rattle.sarif_model.specs.Members.{◌>>=◌, result_map, of_kind, member_at}

-- a name and its text
abbrev pub Pair : Type 0
Pair = List ℕ × List ℕ

-- a value of a map of strings: a string, or null, which is treated as missing
abbrev pub text_or_null : Data → Result (Option (List ℕ)) Fault
text_or_null null = Ok None
text_or_null (boolean b) = Err BadFingerprint
text_or_null (number n) = Err BadFingerprint
text_or_null (string s) = Ok (Some s)
text_or_null (array ds) = Err BadFingerprint
text_or_null (object ms) = Err BadFingerprint

-- the pairs with that name and value before them, where there is a value
abbrev pub with_pair : List ℕ → Option (List ℕ) → List Pair → List Pair
with_pair name None pairs = pairs
with_pair name (Some value) pairs = (name, value) ∷ pairs

-- the names with their strings, in order
abbrev pub pairs_among : Members → Result (List Pair) Fault
pairs_among no_members = Ok []
pairs_among (member name d ms) =
    text_or_null d >>= λ value. result_map (with_pair name value) (pairs_among ms)

abbrev pub pairs_of : Option Members → Result (List Pair) Fault
pairs_of None = Ok []
pairs_of (Some ms) = pairs_among ms

-- the map of strings with that name; empty if it is missing
abbrev pub pairs_at : List ℕ → Data → Result (List Pair) Fault
pairs_at name result = of_kind BadFingerprint as_object (member_at name result) >>= pairs_of
