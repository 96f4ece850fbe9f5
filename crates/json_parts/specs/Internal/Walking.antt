-- How a pass over an array or an object continues. Only private clauses of the crate cite it.
use Rattle.std.specs.Prelude.{◌≡◌, ℕ, suc, ◌≤◌, Bool, ◌||◌, if◌then◌else◌, bytes_eq, List, Option, Some, None, MatchOption, option_map, option_and_then, unwrap_or}
use Rattle.json.specs.Token.{Token}
use Rattle.json.specs.Json as json
use Rattle.json.specs.Json.{value}
use Rattle.json.specs.Find.{InItems, InMembers}
use Rattle.json.specs.Tree.{depth, items_depth, members_depth, ItemsHaveNumbers, MembersHaveNumbers}
use Rattle.serde_json.specs.Data.{Data, array, object, Items, no_items, item, Members, no_members, member, put}
use Rattle.serde_json.specs.Read.{of_json, of_items, max_depth}
use Rattle.serde_json.specs.Find.{as_array, as_object}
use Rattle.json_parts.specs.Indexed.{data_of}
use Rattle.json_parts.specs.Stripping.{is_fractional, stripped}

-- how deep the value nests that the tokens begin with
unfoldable pub depth_of : List Token → ℕ
depth_of ts = unwrap_or (option_map (λ p. depth p.0) (value max_depth ts)) 0

-- the members in the order of the text; a name may come twice
abbrev pub named_of : json.Members → Option Members
named_of json.no_members = Some no_members
named_of (json.member k j ms) =
    option_and_then (λ d. option_map (member k d) (named_of ms)) (of_json j)

-- the last value of a name stays
abbrev pub put_all : Members → Members → Members
put_all no_members found = found
put_all (member k d ms) found = put_all ms (put k d found)

-- the tokens begin with these items, each nested at most n deep, and the closing bracket
abbrev pub ElementsAre : ℕ → List Token → Items → Type 0
ElementsAre n ts ds =
    (js : json.Items) × InItems ts js
    × (of_items js ≡ Some ds)
    × (items_depth js ≤ n)
    × (n ≤ max_depth)
    × ItemsHaveNumbers js

abbrev pub MembersAre : ℕ → List Token → Members → Type 0
MembersAre n ts ms =
    (js : json.Members) × InMembers ts js
    × (named_of js ≡ Some ms)
    × (members_depth js ≤ n)
    × (n ≤ max_depth)
    × MembersHaveNumbers js

-- ---- a pass over the content of an array or an object, which may be of data or of JSON values

-- `Are n ts c`: the tokens begin with the content c, nested at most n deep. `inner` is where the content of the value
-- begins, if it is an array or an object: `Has` says which content that is
abbrev pub Opens : {C : Type 0} → Type 0 → (C → Type 0) → (ℕ → List Token → C → Type 0) → List Token
    → Option (List Token) → Type 0
Opens {C} No Has Are ts inner =
    MatchOption inner No
    (λ new. (n : ℕ) × (c : C) × (depth_of ts ≡ suc n) × Has c × Are n new c)

-- `first` is the first of the content, if it has one, and `new` is at the content after it
abbrev pub Continues : {C F : Type 0} → (ℕ → List Token → C → Type 0) → C → (F → C → C) → (F → List Token) → List Token
    → Option F → List Token → Type 0
Continues {C} Are none with value_of old first new =
    (n : ℕ) (c : C) → Are n old c
    → MatchOption first (c ≡ none)
    (λ f. (rest : C)
    × (c ≡ with f rest)
    × (depth_of (value_of f) ≤ n)
    × Are n new rest)

-- the content of an array
abbrev pub OpensArray : List Token → Option (List Token) → Type 0
OpensArray ts inner =
    Opens (as_array (data_of ts) ≡ None) (λ ds. data_of ts ≡ array ds) ElementsAre ts inner

abbrev pub OpensObject : List Token → Option (List Token) → Type 0
OpensObject ts inner =
    Opens (as_object (data_of ts) ≡ None) (λ ms. data_of ts ≡ object (put_all ms no_members))
    MembersAre ts inner

abbrev pub NextElement : List Token → Option (List Token) → List Token → Type 0
NextElement old first new =
    Continues ElementsAre no_items (λ ts ds. item (data_of ts) ds) (λ ts. ts) old first new

abbrev pub NextMember : List Token → Option (List ℕ × List Token) → List Token → Type 0
NextMember old first new =
    Continues MembersAre no_members (λ m ms. member m.0 (data_of m.1) ms) (λ m. m.1) old first new

-- ---- a stripped object, without the member of a name where one is given

-- the member has that name, or its value is fractional
abbrev pub is_left_out : Option (List ℕ) → List ℕ → Data → Bool
is_left_out None k d = is_fractional d
is_left_out (Some name) k d = bytes_eq name k || is_fractional d

abbrev pub kept_members : Option (List ℕ) → Members → Members
kept_members name no_members = no_members
kept_members name (member k d ms) =
    if is_left_out name k d then kept_members name ms
    else member k (stripped d) (kept_members name ms)
