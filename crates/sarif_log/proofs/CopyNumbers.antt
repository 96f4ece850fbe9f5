-- Naming copies brings in only integers.
use Rattle.std.proofs.Common.{◌≡◌, false, List, [], ◌∷◌, map, codes, refl, Vec, Global}
use Rattle.json_parts.proofs.Keeping.{put_whole}
use Rattle.serde_json.proofs.Views.{view-Array}
use Rattle.serde_json.specs.Data.{Data, null, boolean, number, string, array, object}
use Rattle.serde_json.specs.declared.value.Value.{Value}
use Rattle.serde_json.specs.declared.value.Value.TheVariants.{Array as json_array}
use Rattle.serde_json.specs.View.{items_of, view}
use Rattle.serde_json.specs.Written.{has_float, items_have_float}
use Rattle.sarif_log.specs.Copies.{place_data, places_data, with_copies}
use Rattle.sarif_log.specs.declared.copies.CopyPlace.{CopyPlace}

pub array_is : (values : Vec Value Global) → view (json_array values) ≡ array (items_of (map view values.items))
array_is values = view-Array values

places_whole : (places : List CopyPlace) → items_have_float (items_of (map place_data places)) ≡ false
places_whole [] = refl
places_whole (place ∷ places) = rw (places_whole places) refl

pub copies_whole : (places : List CopyPlace) (gate : Data) → has_float gate ≡ false → has_float (with_copies places gate) ≡ false
copies_whole places null whole = refl
copies_whole places (boolean b) whole = refl
copies_whole places (number n) whole = whole
copies_whole places (string s) whole = refl
copies_whole places (array ds) whole = whole
copies_whole places (object ms) whole = put_whole (codes "copies") (places_data places) ms (places_whole places) whole
