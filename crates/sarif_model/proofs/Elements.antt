-- The values of the elements of an array and of the members of an object.
use Rattle.std.proofs.Common.{◌≡◌, suc, List, [], ◌∷◌, map, length, Option, Some, None, refl, ap}
use Rattle.serde_json.specs.declared.value.Value.{Value}
use Rattle.serde_json.specs.Data.{Data, Items, no_items}
use Rattle.serde_json.specs.View.{view, items_view, items_of}
use Rattle.sarif_model.specs.Members.{elements}

pub elements_items_view : (vs : List Value) → elements (items_view vs) ≡ map view vs
elements_items_view [] = refl
elements_items_view (v ∷ vs) = ap (λ ds. view v ∷ ds) (elements_items_view vs)

pub length_elements : (vs : List Value) → length (elements (items_view vs)) ≡ length vs
length_elements [] = refl
length_elements (v ∷ vs) = ap (λ n. suc n) (length_elements vs)

pub items_back : (ds : List Data) → elements (items_of ds) ≡ ds
items_back [] = refl
items_back (d ∷ ds) = ap (λ l. d ∷ l) (items_back ds)

abbrev pub items_or_none : Option Items → Items
items_or_none None = no_items
items_or_none (Some ds) = ds
