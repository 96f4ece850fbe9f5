-- Laws of stripping and of leaving a member out.
use Rattle.std.specs.Prelude.{◌≡◌, ◌≢◌, ℕ, List, Some, None, option_and_then, if◌then◌else◌}
use Rattle.serde_json.specs.Data.{Data}
use Rattle.serde_json.specs.Find.{get}
use Rattle.json_parts.specs.Internal.Ordered.{IsOrdered}
use Rattle.json_parts.specs.Stripping.{is_fractional, stripped}
use Rattle.json_parts.specs.Without.{without_member}

abbrev pub MembersStrip : Type 0
MembersStrip =
    (name : List ℕ) (d : Data) → IsOrdered d
    → get name (stripped d)
    ≡ option_and_then (λ e. if is_fractional e then None else Some (stripped e)) (get name d)

abbrev pub MembersStay : Type 0
MembersStay =
    (name left_out : List ℕ) (d : Data) → name ≢ left_out
    → get name (without_member left_out d) ≡ get name d

abbrev pub MembersGo : Type 0
MembersGo = (name : List ℕ) (d : Data) → get name (without_member name d) ≡ None

abbrev pub BothOrders : Type 0
BothOrders =
    (name : List ℕ) (d : Data)
    → stripped (without_member name d) ≡ without_member name (stripped d)
