-- The values of the elements of an array and of the members of an object.
use Rattle.std.proofs.Common.{◌≡◌, ◌↔◌, Bool, true, false, IsTrue, List, [], ◌∷◌, length, refl, arith}
use Rattle.serde_json.specs.View.{items_view, members_view}
use Rattle.serde_json.specs.declared.value.Value.{Value}
use Rattle.serde_json.proofs.Views.{Entry}
use Rattle.sarif_read.specs.Reading.{has_no_items, has_no_members}

-- a test that says whether a map has no entries
pub has_no_members-entries : (es : List Entry) (b : Bool) → (IsTrue b ↔ (length es ≡ 0)) → b ≡ has_no_members (members_view es)
has_no_members-entries [] true h = refl
has_no_members-entries [] false h = h.1 refl
has_no_members-entries (e ∷ es) true h = absurd (omega (arith, h.0 refl))
has_no_members-entries (e ∷ es) false h = refl

-- a test that says whether an array has no elements
pub has_no_items-elements : (vs : List Value) (b : Bool) → (IsTrue b ↔ (length vs ≡ 0)) → b ≡ has_no_items (items_view vs)
has_no_items-elements [] true h = refl
has_no_items-elements [] false h = h.1 refl
has_no_items-elements (v ∷ vs) true h = absurd (omega (arith, h.0 refl))
has_no_items-elements (v ∷ vs) false h = refl
