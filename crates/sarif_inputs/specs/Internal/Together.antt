-- The result of indexing several strings.
use Rattle.std.specs.Prelude.{◌≡◌, ℕ, List, [], ◌∷◌, Some, None, Result, Ok, Err, ⊤}
use Rattle.json.specs.Token.{Token}
use Rattle.json_parts.specs.declared.indexing.IndexFault.{IndexFault}
use Rattle.json_parts.specs.declared.indexing.IndexFault.TheVariants.{NotJson}
use Rattle.json_parts.specs.Indexed.{json_of, data_of}
use Rattle.json_parts.specs.Internal.Ordered.{IsOrdered}

-- the index of a string, or why it has none
abbrev pub IsIndexed : List ℕ → Result (List Token) IndexFault → Type 0
IsIndexed bytes (Ok found) = (json_of bytes ≡ Some (data_of found)) × IsOrdered (data_of found)
IsIndexed bytes (Err fault) = fault ≡ NotJson → json_of bytes ≡ None

abbrev pub AreIndexed : List (List ℕ) → List (Result (List Token) IndexFault) → Type 0
AreIndexed [] [] = ⊤
AreIndexed [] (one ∷ found) = ⊥
AreIndexed (bytes ∷ texts) [] = ⊥
AreIndexed (bytes ∷ texts) (one ∷ found) = IsIndexed bytes one × AreIndexed texts found
