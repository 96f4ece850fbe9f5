-- A pass over an array or an object, from the tokens to the data.
use Rattle.std.proofs.Common.{◌≡◌, ℕ, suc, ◌≤◌, max, List, [], ◌∷◌, ◌++◌, map, Option, Some, None, option_map, is_some, Bool, refl, sym, ap, ◌∙◌, subst, arith}
use Rattle.std.specs.Prelude.{MatchOption, option_and_then}
use Rattle.json.specs.Token.{Token}
use Rattle.json.specs.Json as json
use Rattle.json.specs.Json.{Json}
use Rattle.json.specs.Find as look
use Rattle.json.specs.Find.{BeginsWith, InItems, InMembers, NextItem, Finds}
use Rattle.json.specs.Tree.{depth, items_depth, members_depth, HasNumbers, ItemsHaveNumbers, MembersHaveNumbers}
use Rattle.json.proofs.Numbered.{HasNumbers-get}
use Rattle.serde_json.specs.Data.{Data, Items, no_items, item, Members, no_members, member, array}
use Rattle.serde_json.specs.Find.{get, as_null, as_array, as_object}
use Rattle.serde_json.specs.Read.{max_depth, of_json, of_items}
use Rattle.serde_json.specs.View.{items_of}
use Rattle.json_parts.specs.Indexed.{data_of, IsReadable, first_element}
use Rattle.json_parts.specs.Internal.Walking.{depth_of, named_of, ElementsAre, MembersAre, OpensArray, OpensObject, NextElement, NextMember}
use Rattle.json_parts.proofs.Readings.{not_found, Some_inj, mapped_some, and_then_some, known, found, Kind, kind, Found, get_found}

no_array : (j : Json) (d : Data) → Kind j d → look.as_array j ≡ None → as_array d ≡ None
no_array json.null d k e = ap as_array (sym k)
no_array (json.boolean b) d k e = ap as_array (sym k)
no_array (json.number s) d k e = ap as_array (sym k.2)
no_array (json.string s) d k e = ap as_array (sym k)
no_array (json.array js) d k e = not_found js (sym e)
no_array (json.object ms) d k e = ap as_array (sym k.2)

no_object : (j : Json) (d : Data) → Kind j d → look.as_object j ≡ None → as_object d ≡ None
no_object json.null d k e = ap as_object (sym k)
no_object (json.boolean b) d k e = ap as_object (sym k)
no_object (json.number s) d k e = ap as_object (sym k.2)
no_object (json.string s) d k e = ap as_object (sym k)
no_object (json.array js) d k e = ap as_object (sym k.2)
no_object (json.object ms) d k e = not_found ms (sym e)

null_is : (j : Json) (d : Data) → Kind j d → look.is_null j ≡ is_some (as_null d)
null_is json.null d k = ap (λ x. is_some (as_null x)) k
null_is (json.boolean b) d k = ap (λ x. is_some (as_null x)) k
null_is (json.number s) d k = ap (λ x. is_some (as_null x)) k.2
null_is (json.string s) d k = ap (λ x. is_some (as_null x)) k
null_is (json.array js) d k = ap (λ x. is_some (as_null x)) k.2
null_is (json.object ms) d k = ap (λ x. is_some (as_null x)) k.2

pub is_null_at : (ts : List Token) (b : Bool) → IsReadable ts → ((j : Json) → BeginsWith ts j → b ≡ look.is_null j) → b ≡ is_some (as_null (data_of ts))
is_null_at ts b r h = let k = known ts r in h k.0 k.1 ∙ null_is k.0 (data_of ts) (kind k.0 (data_of ts) k.3)

pub opens_array : (ts : List Token) → IsReadable ts → (r : Option (List Token))
    → ((j : Json) → BeginsWith ts j
    → MatchOption r (look.as_array j ≡ None) (λ rest. (js : json.Items) × (j ≡ json.array js) × InItems rest js)) → OpensArray ts r
opens_array ts read None h = let k = known ts read in no_array k.0 (data_of ts) (kind k.0 (data_of ts) k.3) (h k.0 k.1)
opens_array ts read (Some inner) h =
    let k = known ts read in
    let o = h k.0 k.1 in
    let shape : Kind (json.array o.0) (data_of ts) = subst (λ j. Kind j (data_of ts)) o.1 (kind k.0 (data_of ts) k.3) in
    let deep : depth_of ts ≡ suc (items_depth o.0) = k.4 ∙ ap depth o.1 in
    (items_depth o.0, shape.0, deep, sym shape.2, (o.0, o.2, shape.1, omega arith, omega (arith, k.2, k.4, deep), subst HasNumbers o.1 k.5))

pub opens_object : (ts : List Token) → IsReadable ts → (r : Option (List Token))
    → ((j : Json) → BeginsWith ts j
    → MatchOption r (look.as_object j ≡ None) (λ rest. (ms : json.Members) × (j ≡ json.object ms) × InMembers rest ms)) → OpensObject ts r
opens_object ts read None h = let k = known ts read in no_object k.0 (data_of ts) (kind k.0 (data_of ts) k.3) (h k.0 k.1)
opens_object ts read (Some inner) h =
    let k = known ts read in
    let o = h k.0 k.1 in
    let shape : Kind (json.object o.0) (data_of ts) = subst (λ j. Kind j (data_of ts)) o.1 (kind k.0 (data_of ts) k.3) in
    let deep : depth_of ts ≡ suc (members_depth o.0) = k.4 ∙ ap depth o.1 in
    (members_depth o.0, shape.0, deep, sym shape.2, (o.0, o.2, shape.1, omega arith, omega (arith, k.2, k.4, deep), subst HasNumbers o.1 k.5))

-- ---- a member by name

abbrev pub Gets : List ℕ → Data → Option (List Token) → Type 0
Gets name d None = get name d ≡ None
Gets name d (Some ts) = IsReadable ts × (get name d ≡ Some (data_of ts))

pub gets_at : (name : List ℕ) (ts : List Token) → IsReadable ts → (r : Option (List Token))
    → ((j : Json) → BeginsWith ts j → Finds r (look.get name j)) → Gets name (data_of ts) r
gets_at name ts read None h =
    let k = known ts read in subst (λ o. Found max_depth o None (get name (data_of ts))) (h k.0 k.1)
    (get_found name max_depth k.0 (data_of ts) (kind k.0 (data_of ts) k.3) k.2)
gets_at name ts read (Some e) h =
    let k = known ts read in
    let o = h k.0 k.1 in
    let f = subst (λ x. Found max_depth x None (get name (data_of ts))) o.1 (get_found name max_depth k.0 (data_of ts) (kind k.0 (data_of ts) k.3) k.2) in
    let r = found e o.0 f.0 o.2 f.3 f.1 (HasNumbers-get name k.0 o.0 k.5 (sym o.1)) in
    (r.0, f.2 ∙ ap Some (sym r.1))

-- ---- the next element

abbrev pub Stands : ℕ → Items → Option (List Token) → List Token → Type 0
Stands n ds None new = ds ≡ no_items
Stands n ds (Some ts) new = IsReadable ts × ((rest : Items) × (ds ≡ item (data_of ts) rest) × (depth_of ts ≤ n) × ElementsAre n new rest)

pub element_at : (n : ℕ) (old new : List Token) (ds : Items) (r : Option (List Token)) → ElementsAre n old ds → NextItem old r new → Stands n ds r new
element_at n old new ds None (js, within, of, le, most, numbers) h = Some_inj ds no_items (sym of ∙ ap of_items (h js within))
element_at n old new ds (Some ts) (js, within, of, le, most, numbers) h =
    let f = h js within in
    let first = and_then_some (λ d. option_map (item d) (of_items f.1)) (of_json f.0) ds (ap of_items (sym f.2) ∙ of) in
    let more = mapped_some (item first.0) (of_items f.1) ds first.2 in
    let deep : items_depth js ≡ max (depth f.0) (items_depth f.1) = ap items_depth f.2 in
    let each = subst ItemsHaveNumbers f.2 numbers in
    let r = found ts f.0 first.0 f.3 (omega (arith, deep, le, most)) first.1 each.0 in
    (r.0, (more.0, sym more.2 ∙ ap (λ x. item x more.0) (sym r.1), omega (arith, deep, le, r.2), (f.1, f.4, more.1, omega (arith, deep, le), most, each.1)))

pub next_element_is : (old new : List Token) (r : Option (List Token)) → NextItem old r new → NextElement old r new
next_element_is old new None h n ds are = element_at n old new ds None are h
next_element_is old new (Some ts) h n ds are = (element_at n old new ds (Some ts) are h).1

abbrev pub StandsNamed : ℕ → Members → Option (List ℕ × List Token) → List Token → Type 0
StandsNamed n ms None new = ms ≡ no_members
StandsNamed n ms (Some m) new = IsReadable m.1 × ((rest : Members) × (ms ≡ member m.0 (data_of m.1) rest) × (depth_of m.1 ≤ n) × MembersAre n new rest)

pub member_at : (n : ℕ) (old new : List Token) (ms : Members) (r : Option (List ℕ × List Token)) → MembersAre n old ms
    → look.NextMember old r new → StandsNamed n ms r new
member_at n old new ms None (js, within, of, le, most, numbers) h = Some_inj ms no_members (sym of ∙ ap named_of (h js within))
member_at n old new ms (Some m) (js, within, of, le, most, numbers) h =
    let f = h js within in
    let first = and_then_some (λ d. option_map (member m.0 d) (named_of f.1)) (of_json f.0) ms (ap named_of (sym f.2) ∙ of) in
    let more = mapped_some (member m.0 first.0) (named_of f.1) ms first.2 in
    let deep : members_depth js ≡ max (depth f.0) (members_depth f.1) = ap members_depth f.2 in
    let each = subst MembersHaveNumbers f.2 numbers in
    let r = found m.1 f.0 first.0 f.3 (omega (arith, deep, le, most)) first.1 each.0 in (
      r.0,
      (
        more.0,
        sym more.2 ∙ ap (λ x. member m.0 x more.0) (sym r.1),
        omega (arith, deep, le, r.2),
        (f.1, f.4, more.1, omega (arith, deep, le), most, each.1),
      ),
    )

pub next_member_is : (old new : List Token) (r : Option (List ℕ × List Token)) → look.NextMember old r new → NextMember old r new
next_member_is old new None h n ms are = member_at n old new ms None are h
next_member_is old new (Some m) h n ms are = (member_at n old new ms (Some m) are h).1

-- ---- the first element

pub first_found : (n : ℕ) (d : Data) (ds : Items) (r : Option (List Token)) (new : List Token) → d ≡ array ds
    → MatchOption r (ds ≡ no_items)
    (λ ts. (rest : Items) × (ds ≡ item (data_of ts) rest) × (depth_of ts ≤ n) × ElementsAre n new rest)
    → option_map data_of r ≡ option_and_then first_element (as_array d)
first_found n d ds None new is none = sym (ap (λ x. option_and_then first_element (as_array x)) is ∙ ap first_element none)
first_found n d ds (Some ts) new is found =
    sym (ap (λ x. option_and_then first_element (as_array x)) is ∙ ap first_element found.1)

-- ---- elements that were found, before the others

abbrev pub before : List (List Token) → Items → Items
before [] rest = rest
before (ts ∷ more) rest = item (data_of ts) (before more rest)

pub before_one : (found : List (List Token)) (ts : List Token) (rest : Items) → before (found ++ ts ∷ []) rest ≡ before found (item (data_of ts) rest)
before_one [] ts rest = refl
before_one (t ∷ more) ts rest = ap (item (data_of t)) (before_one more ts rest)

pub before_none : (found : List (List Token)) → before found no_items ≡ items_of (map data_of found)
before_none [] = refl
before_none (t ∷ more) = ap (item (data_of t)) (before_none more)
