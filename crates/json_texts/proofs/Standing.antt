-- The value that tokens begin with, and passes over its items and members.
use Rattle.std.proofs.Common.{◌≡◌, ℕ, suc, ◌≤◌, max, Bool, false, List, Option, Some, None, option_map, option_and_then, unwrap_or, refl, sym, ap, ◌∙◌, subst, arith}
use Rattle.std.specs.Borrow.{Bor}
use Rattle.std.specs.Prelude.{IfSome, MatchOption}
use Rattle.json.specs.Token.{Token}
use Rattle.json.specs.Json.{Json, null, boolean, number, string, array, object, Items, no_items, item, Members, no_members, member, value}
use Rattle.json.specs.Find.{BeginsWith, InItems, InMembers, as_str, as_number, as_bool, as_array, as_object}
use Rattle.json.specs.Find as look
use Rattle.json.specs.Tree.{depth, items_depth, members_depth, HasNumbers, ItemsHaveNumbers, MembersHaveNumbers}
use Rattle.json.proofs.Nesting.{value-depth}
use Rattle.serde_json.specs.Data.{null as nothing}
use Rattle.serde_json.specs.Read.{max_depth, of_json}
use Rattle.json_parts.specs.Indexed.{IsReadable, data_of, json_at}
use Rattle.json_parts.specs.Internal.Walking.{depth_of}
use Rattle.json_parts.proofs.Deeper.{value_at}
use Rattle.json_parts.proofs.Readings.{not_found, Some_inj}
use Rattle.json_texts.specs.Whole.{is_fractional}
use Rattle.json_texts.specs.Internal.Walking.{IsWritable, ItemsStand, MembersStand, OpensArray, OpensObject, NextItem, NextMember}

json_is : (ts r : List Token) (j : Json) → value max_depth ts ≡ Some (j, r) → json_at ts ≡ j
unfolding json_at
json_is ts r j is = ap (λ o. unwrap_or (option_map (λ p. p.0) o) null) is

depth_is : (ts r : List Token) (j : Json) → value max_depth ts ≡ Some (j, r) → depth_of ts ≡ depth j
unfolding depth_of
depth_is ts r j is = ap (λ o. unwrap_or (option_map (λ p. depth p.0) o) 0) is

-- what is known about tokens that can be written
pub record IsKnown (ts : List Token) : Type 0 where
  pub begins : BeginsWith ts (json_at ts)
  pub shallow : depth (json_at ts) ≤ max_depth
  pub numbers : HasNumbers (json_at ts)
  pub nested : depth_of ts ≡ depth (json_at ts)

pub known : (ts : List Token) → IsWritable ts → IsKnown ts
known ts (j, r, is, numbers) =
    let same = sym (json_is ts r j is) in
    record {
      begins = subst (BeginsWith ts) same (max_depth, r, is);
      shallow = subst (λ i. depth i ≤ max_depth) same (value-depth max_depth ts r j is);
      numbers = subst HasNumbers same numbers;
      nested = depth_is ts r j is ∙ ap depth same;
    }

-- the value of tokens
pub record Stands (ts : List Token) (j : Json) : Type 0 where
  pub writable : IsWritable ts
  pub is : json_at ts ≡ j
  pub nested : depth_of ts ≡ depth j

pub stands : (ts : List Token) (j : Json) → BeginsWith ts j → depth j ≤ max_depth → HasNumbers j → Stands ts j
stands ts j (n, r, is) le numbers =
    let here = value_at n max_depth ts r j is le in
    record { writable = (j, r, here, numbers); is = json_is ts r j here; nested = depth_is ts r j here }

-- tokens that are read can be written
pub readable : (ts : List Token) → IsReadable ts → IsWritable ts
readable ts (j, r, d, is, of, numbers) = (j, r, is, numbers)

-- the data of the value
pub data_is : (ts : List Token) → IsReadable ts → of_json (json_at ts) ≡ Some (data_of ts)
unfolding data_of
data_is ts (j, r, d, is, of, numbers) =
    ap of_json (json_is ts r j is)
    ∙ of ∙ ap Some (sym (ap (λ o. unwrap_or (option_and_then (λ p. of_json p.0) o) nothing) is ∙ ap (λ o. unwrap_or o nothing) of))

-- ---- an array or an object opens

pub opens_array : (ts : List Token) → IsWritable ts → (r : Option (List Token))
    → ((j : Json) → BeginsWith ts j → MatchOption r (as_array j ≡ None) (λ inner. (js : Items) × (j ≡ array js) × InItems inner js)) → OpensArray ts r
opens_array ts can None h = h (json_at ts) (known ts can).begins
opens_array ts can (Some inner) h =
    let k = known ts can in
    let o = h (json_at ts) k.begins in
    let deep : depth_of ts ≡ suc (items_depth o.0) = k.nested ∙ ap depth o.1 in
    (items_depth o.0, o.0, deep, o.1, (o.2, omega arith, omega (arith, k.shallow, k.nested, deep), subst HasNumbers o.1 k.numbers))

pub opens_object : (ts : List Token) → IsWritable ts → (r : Option (List Token))
    → ((j : Json) → BeginsWith ts j → MatchOption r (as_object j ≡ None) (λ inner. (ms : Members) × (j ≡ object ms) × InMembers inner ms)) → OpensObject ts r
opens_object ts can None h = h (json_at ts) (known ts can).begins
opens_object ts can (Some inner) h =
    let k = known ts can in
    let o = h (json_at ts) k.begins in
    let deep : depth_of ts ≡ suc (members_depth o.0) = k.nested ∙ ap depth o.1 in
    (members_depth o.0, o.0, deep, o.1, (o.2, omega arith, omega (arith, k.shallow, k.nested, deep), subst HasNumbers o.1 k.numbers))

-- ---- the next item or member

abbrev ItemNext : ℕ → Items → Option (List Token) → List Token → Type 0
ItemNext n js None new = js ≡ no_items
ItemNext n js (Some ts) new = IsWritable ts × ((rest : Items) × (js ≡ item (json_at ts) rest) × (depth_of ts ≤ n) × ItemsStand n new rest)

pub item_at : (n : ℕ) (js : Items) (old new : List Token) (r : Option (List Token)) → ItemsStand n old js → look.NextItem old r new → ItemNext n js r new
item_at n js old new None (within, le, most, numbers) h = h js within
item_at n js old new (Some ts) (within, le, most, numbers) h =
    let f = h js within in
    let deep : items_depth js ≡ max (depth f.0) (items_depth f.1) = ap items_depth f.2 in
    let each = subst ItemsHaveNumbers f.2 numbers in
    let s = stands ts f.0 f.3 (omega (arith, deep, le, most)) each.0 in
    (s.writable, (f.1, f.2 ∙ ap (λ j. item j f.1) (sym s.is), omega (arith, deep, le, s.nested), (f.4, omega (arith, deep, le), most, each.1)))

pub next_item_is : (old new : List Token) (r : Option (List Token)) → look.NextItem old r new → NextItem old r new
next_item_is old new None h n js s = item_at n js old new None s h
next_item_is old new (Some ts) h n js s = (item_at n js old new (Some ts) s h).1

pub item_writable : (n : ℕ) (js : Items) (old new : List Token) (r : Option (List Token)) → ItemsStand n old js → look.NextItem old r new → IfSome r IsWritable
item_writable n js old new None s h = tt
item_writable n js old new (Some ts) s h = (item_at n js old new (Some ts) s h).0

abbrev MemberNext : ℕ → Members → Option (List ℕ × List Token) → List Token → Type 0
MemberNext n ms None new = ms ≡ no_members
MemberNext n ms (Some m) new = IsWritable m.1 × ((rest : Members) × (ms ≡ member m.0 (json_at m.1) rest) × (depth_of m.1 ≤ n) × MembersStand n new rest)

pub member_at : (n : ℕ) (ms : Members) (old new : List Token) (r : Option (List ℕ × List Token)) → MembersStand n old ms
    → look.NextMember old r new → MemberNext n ms r new
member_at n ms old new None (within, le, most, numbers) h = h ms within
member_at n ms old new (Some m) (within, le, most, numbers) h =
    let f = h ms within in
    let deep : members_depth ms ≡ max (depth f.0) (members_depth f.1) = ap members_depth f.2 in
    let each = subst MembersHaveNumbers f.2 numbers in
    let s = stands m.1 f.0 f.3 (omega (arith, deep, le, most)) each.0 in
    (s.writable, (f.1, f.2 ∙ ap (λ j. member m.0 j f.1) (sym s.is), omega (arith, deep, le, s.nested), (f.4, omega (arith, deep, le), most, each.1)))

pub next_member_is : (old new : List Token) (r : Option (List ℕ × List Token)) → look.NextMember old r new → NextMember old r new
next_member_is old new None h n ms s = member_at n ms old new None s h
next_member_is old new (Some m) h n ms s = (member_at n ms old new (Some m) s h).1

pub member_writable : (n : ℕ) (ms : Members) (old new : List Token) (r : Option (List ℕ × List Token)) → MembersStand n old ms
    → look.NextMember old r new → IfSome r (λ m. IsWritable m.1)
member_writable n ms old new None s h = tt
member_writable n ms old new (Some m) s h = (member_at n ms old new (Some m) s h).0

pub member_writable_view : (r : Option (Bor (List ℕ) × List Token))
    → IfSome {T = List ℕ × List Token} (option_map (λ m. (m.0.now, m.1)) r) (λ m. IsWritable m.1) → IfSome r (λ m. IsWritable m.1)
member_writable_view None h = tt
member_writable_view (Some m) h = h

-- ---- the kind of a value

pub a_string : (j : Json) (s : List ℕ) → Some s ≡ as_str j → j ≡ string s
a_string null s e = not_found s (sym e)
a_string (boolean b) s e = not_found s (sym e)
a_string (number t) s e = not_found s (sym e)
a_string (string t) s e = ap string (sym (Some_inj s t e))
a_string (array js) s e = not_found s (sym e)
a_string (object ms) s e = not_found s (sym e)

pub a_number : (j : Json) (s : List ℕ) → Some s ≡ as_number j → j ≡ number s
a_number null s e = not_found s (sym e)
a_number (boolean b) s e = not_found s (sym e)
a_number (number t) s e = ap number (sym (Some_inj s t e))
a_number (string t) s e = not_found s (sym e)
a_number (array js) s e = not_found s (sym e)
a_number (object ms) s e = not_found s (sym e)

pub a_boolean : (j : Json) (b : Bool) → Some b ≡ as_bool j → j ≡ boolean b
a_boolean null b e = not_found b (sym e)
a_boolean (boolean c) b e = ap boolean (sym (Some_inj b c e))
a_boolean (number t) b e = not_found b (sym e)
a_boolean (string t) b e = not_found b (sym e)
a_boolean (array js) b e = not_found b (sym e)
a_boolean (object ms) b e = not_found b (sym e)

pub a_null : (j : Json) → None ≡ as_str j → None ≡ as_number j → None ≡ as_bool j → as_array j ≡ None → as_object j ≡ None → j ≡ null
a_null null s n b a o = refl
a_null (boolean c) s n b a o = not_found c b
a_null (number t) s n b a o = not_found t n
a_null (string t) s n b a o = not_found t s
a_null (array js) s n b a o = not_found js (sym a)
a_null (object ms) s n b a o = not_found ms (sym o)

pub not_fractional : (j : Json) → None ≡ as_number j → as_array j ≡ None → false ≡ is_fractional j
not_fractional null n a = refl
not_fractional (boolean b) n a = refl
not_fractional (number s) n a = not_found s n
not_fractional (string s) n a = refl
not_fractional (array js) n a = not_found js (sym a)
not_fractional (object ms) n a = refl
