-- Members in order, and what is written for them.
use Rattle.std.proofs.Common.{◌≡◌, ℕ, zero, suc, ◌≤◌, max, Bool, true, false, ◌||◌, if◌then◌else◌, List, [], ◌∷◌, ◌++◌, take, drop, set, Ordering, Less, Equal, Greater, nat_cmp, is_eq, true≢false, refl, sym, ap, ap₂, ◌∙◌, arith}
use Rattle.std.specs.Borrow.{Bor}
use Rattle.std.specs.BTreeMap.{insert_entry}
use Rattle.std.proofs.lemmas.Map.Text.{is_eq-slice_cmp}
use Rattle.std.proofs.lemmas.Slice.Eq.{bytes_eq-Decides}
use Rattle.std.specs.Cmp.Lexicographic.{slice_cmp}
use Rattle.std.specs.Ordering.{match_ordering}
use Rattle.json.specs.Token.{Token}
use Rattle.json.specs.Json.{Json, null, boolean, number, string, array, object, Items, no_items, item, Members, no_members, member}
use Rattle.json_parts.specs.Indexed.{json_at}
use Rattle.json_parts.specs.Internal.Walking.{depth_of}
use Rattle.json_texts.specs.Whole.{put, whole, whole_items, whole_members, is_fractional, any_fractional, stripped, stripped_items, stripped_members, written}
use Rattle.json_texts.specs.Internal.Walking.{IsWritable, AreWritable, in_order, members_at, nesting, place, is_there, written_items, written_members}
use Rattle.json_texts.specs.declared.sorting.Member.{Member}

abbrev cmp : List ℕ → List ℕ → Ordering
cmp = slice_cmp nat_cmp

pub same_name : (k l : List ℕ) → cmp k l ≡ Equal → k ≡ l
same_name k l is = (bytes_eq-Decides k l).0 (sym (is_eq-slice_cmp k l) ∙ ap is_eq is)

-- ---- a list with one more member

put_turn : (o : Ordering) (m l : Member) (ls : List Member) → match_ordering o false true (is_there m.name.now ls) ≡ false
    → (is_there m.name.now ls ≡ false
    → members_at (take (place m.name.now ls) ls ++ m ∷ drop (place m.name.now ls) ls) ≡ put m.name.now (json_at m.value) (members_at ls))
    → members_at (take (match_ordering o 0 0 (suc (place m.name.now ls))) (l ∷ ls) ++ m ∷ drop (match_ordering o 0 0 (suc (place m.name.now ls))) (l ∷ ls))
    ≡ match_ordering o (member m.name.now (json_at m.value) (member l.name.now (json_at l.value) (members_at ls)))
    (member l.name.now (json_at m.value) (members_at ls))
    (member l.name.now (json_at l.value) (put m.name.now (json_at m.value) (members_at ls)))
put_turn Less m l ls away later = refl
put_turn Equal m l ls away later = absurd (true≢false away)
put_turn Greater m l ls away later = ap (member l.name.now (json_at l.value)) (later away)

pub members_inserted : (m : Member) (ls : List Member) → is_there m.name.now ls ≡ false
    → members_at (take (place m.name.now ls) ls ++ m ∷ drop (place m.name.now ls) ls) ≡ put m.name.now (json_at m.value) (members_at ls)
members_inserted m [] away = refl
members_inserted m (l ∷ ls) away = put_turn (cmp m.name.now l.name.now) m l ls away (members_inserted m ls)

set_turn : (o : Ordering) (m l : Member) (ls : List Member) → cmp m.name.now l.name.now ≡ o → match_ordering o false true (is_there m.name.now ls) ≡ true
    → (is_there m.name.now ls ≡ true → members_at (set ls (place m.name.now ls) m) ≡ put m.name.now (json_at m.value) (members_at ls))
    → members_at (set (l ∷ ls) (match_ordering o 0 0 (suc (place m.name.now ls))) m)
    ≡ match_ordering o (member m.name.now (json_at m.value) (member l.name.now (json_at l.value) (members_at ls)))
    (member l.name.now (json_at m.value) (members_at ls))
    (member l.name.now (json_at l.value) (put m.name.now (json_at m.value) (members_at ls)))
set_turn Less m l ls is there later = absurd (true≢false (sym there))
set_turn Equal m l ls is there later = ap (λ name. member name (json_at m.value) (members_at ls)) (same_name m.name.now l.name.now is)
set_turn Greater m l ls is there later = ap (member l.name.now (json_at l.value)) (later there)

pub members_set : (m : Member) (ls : List Member) → is_there m.name.now ls ≡ true
    → members_at (set ls (place m.name.now ls) m) ≡ put m.name.now (json_at m.value) (members_at ls)
members_set m [] there = absurd (true≢false (sym there))
members_set m (l ∷ ls) there = set_turn (cmp m.name.now l.name.now) m l ls refl there (members_set m ls)

pub writable_inserted : (i : ℕ) (m : Member) (ls : List Member) → IsWritable m.value → AreWritable ls → AreWritable (take i ls ++ m ∷ drop i ls)
writable_inserted zero m ls x each = (x, each)
writable_inserted (suc i) m [] x each = (x, tt)
writable_inserted (suc i) m (l ∷ ls) x each = (each.0, writable_inserted i m ls x each.1)

pub writable_set : (i : ℕ) (m : Member) (ls : List Member) → IsWritable m.value → AreWritable ls → AreWritable (set ls i m)
writable_set i m [] x each = tt
writable_set zero m (l ∷ ls) x each = (x, each.1)
writable_set (suc i) m (l ∷ ls) x each = (each.0, writable_set i m ls x each.1)

pub nesting_inserted : (i : ℕ) (m : Member) (ls : List Member) → nesting (take i ls ++ m ∷ drop i ls) ≤ max (depth_of m.value) (nesting ls)
nesting_inserted zero m ls = omega arith
nesting_inserted (suc i) m [] = omega arith
nesting_inserted (suc i) m (l ∷ ls) = omega (arith, nesting_inserted i m ls)

pub nesting_set : (i : ℕ) (m : Member) (ls : List Member) → nesting (set ls i m) ≤ max (depth_of m.value) (nesting ls)
nesting_set i m [] = omega arith
nesting_set zero m (l ∷ ls) = omega arith
nesting_set (suc i) m (l ∷ ls) = omega (arith, nesting_set i m ls)

-- one more at the end
pub members_pushed : (ls : List Member) (m : Member) → (more : List Member) → members_at ((ls ++ m ∷ []) ++ more) ≡ members_at (ls ++ m ∷ more)
members_pushed [] m more = refl
members_pushed (l ∷ ls) m more = ap (member l.name.now (json_at l.value)) (members_pushed ls m more)

pub writable_pushed : (ls : List Member) (m : Member) → AreWritable ls → IsWritable m.value → AreWritable (ls ++ m ∷ [])
writable_pushed [] m each x = (x, tt)
writable_pushed (l ∷ ls) m each x = (each.0, writable_pushed ls m each.1 x)

pub nesting_pushed : (ls : List Member) (m : Member) → nesting (ls ++ m ∷ []) ≤ max (depth_of m.value) (nesting ls)
nesting_pushed [] m = omega arith
nesting_pushed (l ∷ ls) m = omega (arith, nesting_pushed ls m)

-- ---- the entries of a map

abbrev Entry : Type 0
Entry = Bor (List ℕ) × List Token

abbrev pub listed : List Entry → List Member
listed [] = []
listed (e ∷ es) = record { name = e.0; value = e.1 } ∷ listed es

-- the order of the map's keys
abbrev key_cmp : Bor (List ℕ) → Bor (List ℕ) → Ordering
key_cmp a b = slice_cmp nat_cmp a.now b.now

listed_turn : (o : Ordering) (k : Bor (List ℕ)) (v : List Token) (e : Entry) (es more : List Entry)
    → members_at (listed more) ≡ put k.now (json_at v) (members_at (listed es))
    → members_at (listed (match_ordering o ((k, v) ∷ e ∷ es) ((e.0, v) ∷ es) (e ∷ more)))
    ≡ match_ordering o (member k.now (json_at v) (member e.0.now (json_at e.1) (members_at (listed es)))) (member e.0.now (json_at v) (members_at (listed es)))
    (member e.0.now (json_at e.1) (put k.now (json_at v) (members_at (listed es))))
listed_turn Less k v e es more later = refl
listed_turn Equal k v e es more later = refl
listed_turn Greater k v e es more later = ap (member e.0.now (json_at e.1)) later

pub listed_put : (es : List Entry) (k : Bor (List ℕ)) (v : List Token)
    → members_at (listed (insert_entry key_cmp es k v)) ≡ put k.now (json_at v) (members_at (listed es))
listed_put [] k v = refl
listed_put (e ∷ es) k v = listed_turn (key_cmp k e.0) k v e es (insert_entry key_cmp es k v) (listed_put es k v)

writable_at : (o : Ordering) (k : Bor (List ℕ)) (v : List Token) (e : Entry) (es more : List Entry) → IsWritable v
    → AreWritable (listed (e ∷ es)) → AreWritable (listed more)
    → AreWritable (listed (match_ordering o ((k, v) ∷ e ∷ es) ((e.0, v) ∷ es) (e ∷ more)))
writable_at Less k v e es more x each later = (x, each)
writable_at Equal k v e es more x each later = (x, each.1)
writable_at Greater k v e es more x each later = (each.0, later)

pub listed_writable : (es : List Entry) (k : Bor (List ℕ)) (v : List Token) → IsWritable v → AreWritable (listed es)
    → AreWritable (listed (insert_entry key_cmp es k v))
listed_writable [] k v x each = (x, tt)
listed_writable (e ∷ es) k v x each = writable_at (key_cmp k e.0) k v e es (insert_entry key_cmp es k v) x each (listed_writable es k v x each.1)

nesting_at : (o : Ordering) (k : Bor (List ℕ)) (v : List Token) (e : Entry) (es more : List Entry)
    → nesting (listed more) ≤ max (depth_of v) (nesting (listed es))
    → nesting (listed (match_ordering o ((k, v) ∷ e ∷ es) ((e.0, v) ∷ es) (e ∷ more))) ≤ max (depth_of v) (nesting (listed (e ∷ es)))
nesting_at Less k v e es more later = omega arith
nesting_at Equal k v e es more later = omega arith
nesting_at Greater k v e es more later = omega (arith, later)

pub listed_nesting : (es : List Entry) (k : Bor (List ℕ)) (v : List Token)
    → nesting (listed (insert_entry key_cmp es k v)) ≤ max (depth_of v) (nesting (listed es))
listed_nesting [] k v = omega arith
listed_nesting (e ∷ es) k v = nesting_at (key_cmp k e.0) k v e es (insert_entry key_cmp es k v) (listed_nesting es k v)

-- ---- the whole value, from members in order

abbrev each_whole : Members → Members
each_whole no_members = no_members
each_whole (member k j ms) = member k (whole j) (each_whole ms)

whole_turn : (o : Ordering) (k l : List ℕ) (j i : Json) (ms : Members) → put k (whole j) (each_whole ms) ≡ each_whole (put k j ms)
    → match_ordering o (member k (whole j) (member l (whole i) (each_whole ms))) (member l (whole j) (each_whole ms))
    (member l (whole i) (put k (whole j) (each_whole ms)))
    ≡ each_whole (match_ordering o (member k j (member l i ms)) (member l j ms) (member l i (put k j ms)))
whole_turn Less k l j i ms later = refl
whole_turn Equal k l j i ms later = refl
whole_turn Greater k l j i ms later = ap (member l (whole i)) later

put_whole : (k : List ℕ) (j : Json) (ms : Members) → put k (whole j) (each_whole ms) ≡ each_whole (put k j ms)
put_whole k j no_members = refl
put_whole k j (member l i ms) = whole_turn (cmp k l) k l j i ms (put_whole k j ms)

whole_in_order : (ms found : Members) → whole_members ms (each_whole found) ≡ each_whole (in_order ms found)
whole_in_order no_members found = refl
whole_in_order (member k j ms) found = ap (whole_members ms) (put_whole k j found) ∙ whole_in_order ms (put k j found)

-- what is fractional, is so as a whole value
mutual
  fractional_whole : (j : Json) → is_fractional (whole j) ≡ is_fractional j
  fractional_whole null = refl
  fractional_whole (boolean b) = refl
  fractional_whole (number s) = refl
  fractional_whole (string s) = refl
  fractional_whole (array js) = any_fractional_whole js
  fractional_whole (object ms) = refl

  any_fractional_whole : (js : Items) → any_fractional (whole_items js) ≡ any_fractional js
  any_fractional_whole no_items = refl
  any_fractional_whole (item j js) = ap₂ (λ a b. a || b) (fractional_whole j) (any_fractional_whole js)

kept_whole : (ms : Members) → written_members true ms ≡ each_whole ms
kept_whole no_members = refl
kept_whole (member k j ms) = ap (member k (whole j)) (kept_whole ms)

kept_stripped : (ms : Members) → written_members false ms ≡ stripped_members (each_whole ms)
kept_stripped no_members = refl
kept_stripped (member k j ms) = ap₂ (λ b rest. if b then rest else member k (stripped (whole j)) rest) (sym (fractional_whole j)) (kept_stripped ms)

-- what is written for an object
pub written_object : (keeps : Bool) (ms : Members) → written keeps (object ms) ≡ object (written_members keeps (in_order ms no_members))
written_object true ms = ap object (whole_in_order ms no_members ∙ sym (kept_whole (in_order ms no_members)))
written_object false ms = ap object (ap stripped_members (whole_in_order ms no_members) ∙ sym (kept_stripped (in_order ms no_members)))

items_kept : (js : Items) → written_items true js ≡ whole_items js
items_kept no_items = refl
items_kept (item j js) = ap (item (whole j)) (items_kept js)

items_stripped : (js : Items) → written_items false js ≡ stripped_items (whole_items js)
items_stripped no_items = refl
items_stripped (item j js) = ap (item (stripped (whole j))) (items_stripped js)

-- and of an array
pub written_array : (keeps : Bool) (js : Items) → written keeps (array js) ≡ array (written_items keeps js)
written_array true js = ap array (sym (items_kept js))
written_array false js = ap array (sym (items_stripped js))

pub written_null : (keeps : Bool) → written keeps null ≡ null
written_null true = refl
written_null false = refl

pub written_boolean : (keeps b : Bool) → written keeps (boolean b) ≡ boolean b
written_boolean true b = refl
written_boolean false b = refl

pub written_string : (keeps : Bool) (s : List ℕ) → written keeps (string s) ≡ string s
written_string true s = refl
written_string false s = refl

pub written_number : (keeps : Bool) (s : List ℕ) → written keeps (number s) ≡ number s
written_number true s = refl
written_number false s = refl
