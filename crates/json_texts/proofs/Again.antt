-- What is written is read again, and the whole value is its own whole value.
use Rattle.std.proofs.Common.{◌≡◌, ℕ, ◌≤◌, max, Bool, true, false, if◌then◌else◌, List, Some, Ordering, Less, Equal, Greater, nat_cmp, refl, sym, ap, ap₂, ◌∙◌, arith}
use Rattle.std.specs.Prelude.{⊤}
use Rattle.std.proofs.lemmas.Cmp.{nat_list_cmp_total}
use Rattle.std.specs.Cmp.Lexicographic.{slice_cmp}
use Rattle.std.specs.Ordering.{match_ordering, ordering_reverse}
use Rattle.json.specs.Json.{Json, null, boolean, number, string, array, object, Items, no_items, item, Members, no_members, member, document}
use Rattle.json.specs.Tree.{HasNumbers, ItemsHaveNumbers, MembersHaveNumbers, depth, items_depth, members_depth}
use Rattle.json.proofs.Printed.Trees.{document-print}
use Rattle.serde_json.specs.Read.{max_depth}
use Rattle.json_parts.proofs.Readings.{Some_inj}
use Rattle.json_texts.specs.Whole.{put, whole, whole_items, whole_members, is_fractional, stripped, stripped_items, stripped_members, written, text_of}

abbrev cmp : List ℕ → List ℕ → Ordering
cmp = slice_cmp nat_cmp

-- ---- numbers stay numbers

numbers_at : (o : Ordering) (k l : List ℕ) (j i : Json) (ms more : Members) → HasNumbers j → HasNumbers i → MembersHaveNumbers ms → MembersHaveNumbers more
    → MembersHaveNumbers (match_ordering o (member k j (member l i ms)) (member l j ms) (member l i more))
numbers_at Less k l j i ms more x y rest later = (x, (y, rest))
numbers_at Equal k l j i ms more x y rest later = (x, rest)
numbers_at Greater k l j i ms more x y rest later = (y, later)

numbers_put : (k : List ℕ) (j : Json) (ms : Members) → HasNumbers j → MembersHaveNumbers ms → MembersHaveNumbers (put k j ms)
numbers_put k j no_members x rest = (x, tt)
numbers_put k j (member l i ms) x rest = numbers_at (cmp k l) k l j i ms (put k j ms) x rest.0 rest.1 (numbers_put k j ms x rest.1)

mutual
  numbers_whole : (j : Json) → HasNumbers j → HasNumbers (whole j)
  numbers_whole null h = tt
  numbers_whole (boolean b) h = tt
  numbers_whole (number s) h = h
  numbers_whole (string s) h = tt
  numbers_whole (array js) h = items_numbers_whole js h
  numbers_whole (object ms) h = members_numbers_whole ms no_members h tt

  items_numbers_whole : (js : Items) → ItemsHaveNumbers js → ItemsHaveNumbers (whole_items js)
  items_numbers_whole no_items h = tt
  items_numbers_whole (item j js) h = (numbers_whole j h.0, items_numbers_whole js h.1)

  members_numbers_whole : (ms found : Members) → MembersHaveNumbers ms → MembersHaveNumbers found → MembersHaveNumbers (whole_members ms found)
  members_numbers_whole no_members found h known = known
  members_numbers_whole (member k j ms) found h known =
      members_numbers_whole ms (put k (whole j) found) h.1 (numbers_put k (whole j) found (numbers_whole j h.0) known)

numbers_unless : (b : Bool) (k : List ℕ) (j : Json) (ms : Members) → HasNumbers j → MembersHaveNumbers ms → MembersHaveNumbers (if b then ms else member k j ms)
numbers_unless true k j ms x rest = rest
numbers_unless false k j ms x rest = (x, rest)

mutual
  numbers_stripped : (j : Json) → HasNumbers j → HasNumbers (stripped j)
  numbers_stripped null h = tt
  numbers_stripped (boolean b) h = tt
  numbers_stripped (number s) h = h
  numbers_stripped (string s) h = tt
  numbers_stripped (array js) h = items_numbers_stripped js h
  numbers_stripped (object ms) h = members_numbers_stripped ms h

  items_numbers_stripped : (js : Items) → ItemsHaveNumbers js → ItemsHaveNumbers (stripped_items js)
  items_numbers_stripped no_items h = tt
  items_numbers_stripped (item j js) h = (numbers_stripped j h.0, items_numbers_stripped js h.1)

  members_numbers_stripped : (ms : Members) → MembersHaveNumbers ms → MembersHaveNumbers (stripped_members ms)
  members_numbers_stripped no_members h = tt
  members_numbers_stripped (member k j ms) h =
      numbers_unless (is_fractional j) k (stripped j) (stripped_members ms) (numbers_stripped j h.0) (members_numbers_stripped ms h.1)

-- ---- nothing nests deeper

depth_at : (o : Ordering) (k l : List ℕ) (j i : Json) (ms more : Members) → members_depth more ≤ max (depth j) (members_depth ms)
    → members_depth (match_ordering o (member k j (member l i ms)) (member l j ms) (member l i more)) ≤ max (depth j) (max (depth i) (members_depth ms))
depth_at Less k l j i ms more later = omega arith
depth_at Equal k l j i ms more later = omega arith
depth_at Greater k l j i ms more later = omega (arith, later)

depth_put : (k : List ℕ) (j : Json) (ms : Members) → members_depth (put k j ms) ≤ max (depth j) (members_depth ms)
depth_put k j no_members = omega arith
depth_put k j (member l i ms) = depth_at (cmp k l) k l j i ms (put k j ms) (depth_put k j ms)

mutual
  depth_whole : (j : Json) → depth (whole j) ≤ depth j
  depth_whole null = omega arith
  depth_whole (boolean b) = omega arith
  depth_whole (number s) = omega arith
  depth_whole (string s) = omega arith
  depth_whole (array js) = omega (arith, items_depth_whole js)
  depth_whole (object ms) = omega (arith, members_depth_whole ms no_members)

  items_depth_whole : (js : Items) → items_depth (whole_items js) ≤ items_depth js
  items_depth_whole no_items = omega arith
  items_depth_whole (item j js) = omega (arith, depth_whole j, items_depth_whole js)

  members_depth_whole : (ms found : Members) → members_depth (whole_members ms found) ≤ max (members_depth ms) (members_depth found)
  members_depth_whole no_members found = omega arith
  members_depth_whole (member k j ms) found = omega (arith, members_depth_whole ms (put k (whole j) found), depth_put k (whole j) found, depth_whole j)

depth_unless : (b : Bool) (k : List ℕ) (j : Json) (ms : Members) → members_depth (if b then ms else member k j ms) ≤ max (depth j) (members_depth ms)
depth_unless true k j ms = omega arith
depth_unless false k j ms = omega arith

mutual
  depth_stripped : (j : Json) → depth (stripped j) ≤ depth j
  depth_stripped null = omega arith
  depth_stripped (boolean b) = omega arith
  depth_stripped (number s) = omega arith
  depth_stripped (string s) = omega arith
  depth_stripped (array js) = omega (arith, items_depth_stripped js)
  depth_stripped (object ms) = omega (arith, members_depth_stripped ms)

  items_depth_stripped : (js : Items) → items_depth (stripped_items js) ≤ items_depth js
  items_depth_stripped no_items = omega arith
  items_depth_stripped (item j js) = omega (arith, depth_stripped j, items_depth_stripped js)

  members_depth_stripped : (ms : Members) → members_depth (stripped_members ms) ≤ members_depth ms
  members_depth_stripped no_members = omega arith
  members_depth_stripped (member k j ms) =
      omega (arith, depth_unless (is_fractional j) k (stripped j) (stripped_members ms), depth_stripped j, members_depth_stripped ms)

-- ---- what is written is read again

pub read_again : (keeps : Bool) (j : Json) → HasNumbers j → depth j ≤ max_depth → document (text_of (written keeps j)) ≡ Some (written keeps j)
read_again true j numbers shallow = document-print (whole j) (numbers_whole j numbers) (omega (arith, shallow, depth_whole j))
read_again false j numbers shallow =
    document-print (stripped (whole j)) (numbers_stripped (whole j) (numbers_whole j numbers)) (omega (arith, shallow, depth_whole j, depth_stripped (whole j)))

-- ---- the whole value of a whole value

abbrev IsBelow : List ℕ → Members → Type 0
IsBelow name no_members = ⊤
IsBelow name (member own j ms) = (cmp name own ≡ Less) × IsBelow name ms

-- names rise, and each value is its own whole value
abbrev AreSettled : Members → Type 0
AreSettled no_members = ⊤
AreSettled (member own j ms) = IsBelow own ms × (whole j ≡ j) × AreSettled ms

below_put_at : (o : Ordering) (l k e : List ℕ) (j i : Json) (ms more : Members) → cmp l k ≡ Less → cmp l e ≡ Less → IsBelow l ms → IsBelow l more
    → IsBelow l (match_ordering o (member k j (member e i ms)) (member e j ms) (member e i more))
below_put_at Less l k e j i ms more a b r q = (a, (b, r))
below_put_at Equal l k e j i ms more a b r q = (b, r)
below_put_at Greater l k e j i ms more a b r q = (b, q)

below_put : (l k : List ℕ) (j : Json) (ms : Members) → cmp l k ≡ Less → IsBelow l ms → IsBelow l (put k j ms)
below_put l k j no_members a r = (a, tt)
below_put l k j (member e i ms) a r = below_put_at (cmp k e) l k e j i ms (put k j ms) a r.0 r.1 (below_put l k j ms a r.1)

below_all : (k l : List ℕ) (ms : Members) → cmp k l ≡ Less → IsBelow l ms → IsBelow k ms
below_all k l no_members a r = tt
below_all k l (member e i ms) a r = (nat_list_cmp_total.trans k l e a r.0, below_all k l ms a r.1)

settled_put_at : (o : Ordering) (k e : List ℕ) (j i : Json) (ms more : Members) → cmp k e ≡ o → whole j ≡ j → AreSettled (member e i ms)
    → (cmp e k ≡ Less → IsBelow e more) → AreSettled more
    → AreSettled (match_ordering o (member k j (member e i ms)) (member e j ms) (member e i more))
settled_put_at Less k e j i ms more is x h below q = ((is, below_all k e ms is h.0), x, h)
settled_put_at Equal k e j i ms more is x h below q = (h.0, x, h.2)
settled_put_at Greater k e j i ms more is x h below q = (below (nat_list_cmp_total.antisymm e k ∙ ap ordering_reverse is), h.1, q)

settled_put : (k : List ℕ) (j : Json) (ms : Members) → whole j ≡ j → AreSettled ms → AreSettled (put k j ms)
settled_put k j no_members x h = (tt, x, tt)
settled_put k j (member e i ms) x h = settled_put_at (cmp k e) k e j i ms (put k j ms) refl x h (λ a. below_put e k j ms a h.0) (settled_put k j ms x h.2)

-- members before others
abbrev join : Members → Members → Members
join no_members more = more
join (member k j ms) more = member k j (join ms more)

abbrev AreBelow : Members → Members → Type 0
AreBelow no_members ms = ⊤
AreBelow (member l i found) ms = IsBelow l ms × AreBelow found ms

put_last : (k : List ℕ) (j : Json) (ms found : Members) → AreBelow found (member k j ms) → put k j found ≡ join found (member k j no_members)
put_last k j ms no_members h = refl
put_last k j ms (member l i found) h =
    let above : cmp k l ≡ Greater = nat_list_cmp_total.antisymm k l ∙ ap ordering_reverse h.0.0 in
    rw above (ap (member l i) (put_last k j ms found h.1))

join_one : (found : Members) (k : List ℕ) (j : Json) (ms : Members) → join (join found (member k j no_members)) ms ≡ join found (member k j ms)
join_one no_members k j ms = refl
join_one (member l i found) k j ms = ap (member l i) (join_one found k j ms)

join_none : (found : Members) → join found no_members ≡ found
join_none no_members = refl
join_none (member l i found) = ap (member l i) (join_none found)

below_one : (found : Members) (k : List ℕ) (j : Json) (ms : Members) → AreBelow found (member k j ms) → IsBelow k ms
    → AreBelow (join found (member k j no_members)) ms
below_one no_members k j ms h own = (own, tt)
below_one (member l i found) k j ms h own = (h.0.1, below_one found k j ms h.1 own)

settle : (ms found : Members) → AreSettled ms → AreBelow found ms → whole_members ms found ≡ join found ms
settle no_members found s below = sym (join_none found)
settle (member k j ms) found s below =
    ap (λ i. whole_members ms (put k i found)) s.1 ∙ ap (whole_members ms) (put_last k j ms found below)
    ∙ settle ms (join found (member k j no_members)) s.2 (below_one found k j ms below s.0)
    ∙ join_one found k j ms

mutual
  whole_twice : (j : Json) → whole (whole j) ≡ whole j
  whole_twice null = refl
  whole_twice (boolean b) = refl
  whole_twice (number s) = refl
  whole_twice (string s) = refl
  whole_twice (array js) = ap array (items_whole_twice js)
  whole_twice (object ms) = ap object (settle (whole_members ms no_members) no_members (members_settled ms no_members tt) tt)

  items_whole_twice : (js : Items) → whole_items (whole_items js) ≡ whole_items js
  items_whole_twice no_items = refl
  items_whole_twice (item j js) = ap₂ item (whole_twice j) (items_whole_twice js)

  members_settled : (ms found : Members) → AreSettled found → AreSettled (whole_members ms found)
  members_settled no_members found h = h
  members_settled (member k j ms) found h = members_settled ms (put k (whole j) found) (settled_put k (whole j) found (whole_twice j) h)

-- stripped later, or at once
pub stripped_again : (j again : Json) → HasNumbers j → depth j ≤ max_depth → document (text_of (written true j)) ≡ Some again
    → text_of (stripped (whole again)) ≡ text_of (written false j)
stripped_again j again numbers shallow e =
    let same : again ≡ whole j = Some_inj again (whole j) (sym e ∙ read_again true j numbers shallow) in
    ap (λ i. text_of (stripped (whole i))) same ∙ ap (λ i. text_of (stripped i)) (whole_twice j)
