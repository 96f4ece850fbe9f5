-- Reported results.
use Rattle.std.proofs.Common.{◌≡◌, Option, Some, None, refl}
use Rattle.std.specs.Prelude.{option_and_then}
use Rattle.sarif_model.proofs.Elements.{items_or_none}
use Rattle.serde_json.specs.Data.{Data, null, boolean, number, string, array, object}
use Rattle.serde_json.specs.Find.{as_array}
use Rattle.sarif_counts.specs.CountOf.{items_in}

-- a value that is not an array has no items
pub items_in_array : (o : Option Data) → items_in o ≡ items_or_none (option_and_then as_array o)
items_in_array None = refl
items_in_array (Some null) = refl
items_in_array (Some (boolean b)) = refl
items_in_array (Some (number n)) = refl
items_in_array (Some (string s)) = refl
items_in_array (Some (array ds)) = refl
items_in_array (Some (object ms)) = refl
