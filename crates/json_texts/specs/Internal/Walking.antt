-- Tokens that are a value, and members in the order of their names. Only private clauses cite it.
use Rattle.std.specs.Prelude.{◌≡◌, ◌≤◌, ◌&&◌, ◌+◌, ℕ, suc, Bool, true, false, not, List, [], ◌∷◌, Option, None, MatchOption, Some, max, if◌then◌else◌, ⊤}
use Rattle.std.specs.Ordering.{nat_cmp, match_ordering}
use Rattle.std.specs.Cmp.Lexicographic.{slice_cmp}
use Rattle.json.specs.Token.{Token}
use Rattle.json.specs.Json.{Json, array, object, Items, no_items, item, Members, no_members, member, value}
use Rattle.json.specs.Tree.{HasNumbers, ItemsHaveNumbers, MembersHaveNumbers, items_depth, members_depth}
use Rattle.json.specs.Find.{InItems, InMembers, as_array, as_object}
use Rattle.serde_json.specs.Read.{max_depth}
use Rattle.json_parts.specs.Indexed.{json_at}
use Rattle.json_parts.specs.Internal.Walking.{depth_of, Opens, Continues}
use Rattle.json_texts.specs.Whole.{put, is_fractional, written}
use Rattle.json_texts.specs.declared.sorting.Member.{Member}

-- the tokens begin with a value that can be written, nested at most `max_depth` deep
abbrev pub IsWritable : List Token → Type 0
IsWritable ts = (j : Json) × (rest : List Token) × (value max_depth ts ≡ Some (j, rest)) × HasNumbers j

-- the tokens begin with these items, each nested at most n deep, and the closing bracket
abbrev pub ItemsStand : ℕ → List Token → Items → Type 0
ItemsStand n ts js = InItems ts js × (items_depth js ≤ n) × (n ≤ max_depth) × ItemsHaveNumbers js

abbrev pub MembersStand : ℕ → List Token → Members → Type 0
MembersStand n ts ms = InMembers ts ms × (members_depth ms ≤ n) × (n ≤ max_depth) × MembersHaveNumbers ms

-- the content of an array
abbrev pub OpensArray : List Token → Option (List Token) → Type 0
OpensArray ts inner =
    Opens (as_array (json_at ts) ≡ None) (λ js. json_at ts ≡ array js) ItemsStand ts inner

abbrev pub OpensObject : List Token → Option (List Token) → Type 0
OpensObject ts inner =
    Opens (as_object (json_at ts) ≡ None) (λ ms. json_at ts ≡ object ms) MembersStand ts inner

abbrev pub NextItem : List Token → Option (List Token) → List Token → Type 0
NextItem old first new =
    Continues ItemsStand no_items (λ ts js. item (json_at ts) js) (λ ts. ts) old first new

abbrev pub NextMember : List Token → Option (List ℕ × List Token) → List Token → Type 0
NextMember old first new =
    Continues MembersStand no_members (λ m ms. member m.0 (json_at m.1) ms) (λ m. m.1) old first new

-- the members in the order of their names, each as it is in the source
abbrev pub in_order : Members → Members → Members
in_order no_members found = found
in_order (member k j ms) found = in_order ms (put k j found)

abbrev pub members_at : List Member → Members
members_at [] = no_members
members_at (m ∷ ms) = member m.name.now (json_at m.value) (members_at ms)

-- how deep their values nest
abbrev pub nesting : List Member → ℕ
nesting [] = 0
nesting (m ∷ ms) = max (depth_of m.value) (nesting ms)

abbrev pub AreWritable : List Member → Type 0
AreWritable [] = ⊤
AreWritable (m ∷ ms) = IsWritable m.value × AreWritable ms

-- the number of the first member whose name is not below this one
abbrev pub place : List ℕ → List Member → ℕ
place name [] = 0
place name (m ∷ ms) = match_ordering (slice_cmp nat_cmp name m.name.now) 0 0 (suc (place name ms))

-- whether the member there has that name
abbrev pub is_there : List ℕ → List Member → Bool
is_there name [] = false
is_there name (m ∷ ms) = match_ordering (slice_cmp nat_cmp name m.name.now) false true (is_there name ms)

-- what is written for items, and for members in order
abbrev pub written_items : Bool → Items → Items
written_items keeps no_items = no_items
written_items keeps (item j js) = item (written keeps j) (written_items keeps js)

abbrev pub written_members : Bool → Members → Members
written_members keeps no_members = no_members
written_members keeps (member k j ms) =
    if not keeps && is_fractional j then written_members keeps ms
    else member k (written keeps j) (written_members keeps ms)

-- the members of an object, in order
abbrev pub Sorts : List Token → Option (List Member) → Type 0
Sorts ts r =
    MatchOption r (as_object (json_at ts) ≡ None)
    (λ list. (ms : Members)
    × (json_at ts ≡ object ms)
    × (members_at list ≡ in_order ms no_members)
    × AreWritable list
    × (nesting list + 1 ≤ depth_of ts))
