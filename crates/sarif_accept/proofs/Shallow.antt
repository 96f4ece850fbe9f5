-- How deep a new suppression file nests: at most as deep as a value that is read.
use Rattle.std.proofs.Common.{ℕ, suc, ◌≤◌, Bool, true, false, List, [], ◌∷◌, ◌++◌, map, Option, Some, None, Ordering, Less, Equal, Greater, nat_cmp, bytes_eq, codes, arith, if◌then◌else◌}
use Rattle.std.specs.Prelude.{option_and_then, ⊤}
use Rattle.std.specs.Cmp.Lexicographic.{slice_cmp}
use Rattle.std.specs.Ordering.{match_ordering}
use Rattle.serde_json.specs.Data.{Data, null, boolean, number, unsigned, string, array, object, Items, no_items, item, Members, no_members, member, put, depth, items_depth, members_depth}
use Rattle.serde_json.specs.Find.{get, get_member, as_array}
use Rattle.serde_json.specs.Read.{max_depth}
use Rattle.serde_json.specs.View.{items_of}
use Rattle.json_parts.specs.Stripping.{is_fractional, stripped, stripped_items, stripped_members}
use Rattle.json_parts.specs.Without.{without, without_member}
use Rattle.json_parts.proofs.Keeping.{If}
use Rattle.sarif_model.specs.Members.{elements}
use Rattle.sarif_model.specs.declared.record.Record.{Record}
use Rattle.sarif_model.specs.Run.{elements_or_none}
use Rattle.sarif_accept.specs.Entry.{members_from, texts_put, entry_rows, entry_for, asked_of}
use Rattle.sarif_accept.specs.Keeping.{chosen}
use Rattle.sarif_entries.specs.declared.version.Version.{Version}
use Rattle.sarif_entries.specs.File.{number_of}
use Rattle.sarif_accept.specs.NewFile.{stripped_in, entry_in, entries_in, others_in, file_with, new_file, version_after}
use Rattle.sarif_accept.proofs.EveryRow.{IsKept, IsOfEach, entry_keeps, texts_keep}

-- ---- stripping and leaving out

mutual
  stripped_depth : (d : Data) → depth (stripped d) ≤ depth d
  stripped_depth null = omega arith
  stripped_depth (boolean b) = omega arith
  stripped_depth (number n) = omega arith
  stripped_depth (string s) = omega arith
  stripped_depth (array ds) = let h = items_stripped ds in omega (arith, h)
  stripped_depth (object ms) = let h = members_stripped ms in omega (arith, h)

  items_stripped : (ds : Items) → items_depth (stripped_items ds) ≤ items_depth ds
  items_stripped no_items = omega arith
  items_stripped (item d ds) = let h = stripped_depth d in let more = items_stripped ds in omega (arith, h, more)

  members_stripped : (ms : Members) → members_depth (stripped_members ms) ≤ members_depth ms
  members_stripped no_members = omega arith
  members_stripped (member k d ms) =
      let h = stripped_depth d in
      let more = members_stripped ms in
      elim (is_fractional d) as
      (λ b. members_depth (if b then stripped_members ms else member k (stripped d) (stripped_members ms)) ≤ members_depth (member k d ms)) [
        | true ↦ omega (arith, more)
        | false ↦ omega (arith, h, more)
      ]

without_depth : (name : List ℕ) (ms : Members) → members_depth (without name ms) ≤ members_depth ms
without_depth name no_members = omega arith
without_depth name (member k d ms) =
    let more = without_depth name ms in
    elim (bytes_eq name k) as (λ b. members_depth (if b then without name ms else member k d (without name ms)) ≤ members_depth (member k d ms)) [
      | true ↦ omega (arith, more)
      | false ↦ omega (arith, more)
    ]

-- the members of a value, stripped
in_depth : (d : Data) (n : ℕ) → depth d ≤ suc n → members_depth (stripped_in d) ≤ n
in_depth null n h = omega arith
in_depth (boolean b) n h = omega arith
in_depth (number x) n h = omega arith
in_depth (string s) n h = omega arith
in_depth (array ds) n h = omega arith
in_depth (object ms) n h = let more = members_stripped ms in omega (arith, more, h)

without_member_depth : (name : List ℕ) (d : Data) → depth (without_member name d) ≤ depth d
without_member_depth name null = omega arith
without_member_depth name (boolean b) = omega arith
without_member_depth name (number n) = omega arith
without_member_depth name (string s) = omega arith
without_member_depth name (array ds) = omega arith
without_member_depth name (object ms) = let h = without_depth name ms in omega (arith, h)

-- ---- what is put

depth_on : (o : Ordering) (a b c : Members) (n : ℕ) → members_depth a ≤ n → members_depth b ≤ n → members_depth c ≤ n
    → members_depth (match_ordering o a b c) ≤ n
depth_on Less a b c n p q r = p
depth_on Equal a b c n p q r = q
depth_on Greater a b c n p q r = r

put_depth : (k : List ℕ) (d : Data) (ms : Members) (n : ℕ) → depth d ≤ n → members_depth ms ≤ n → members_depth (put k d ms) ≤ n
put_depth k d no_members n p q = omega arith
put_depth k d (member l e ms) n p q =
    depth_on (slice_cmp nat_cmp k l) (member k d (member l e ms)) (member l d ms) (member l e (put k d ms)) n (omega (arith, p, q))
    (omega (arith, p, q)) (let more = put_depth k d ms n p (omega (arith, q)) in omega (arith, q, more))

-- ---- lists

-- each of them nests at most so deep
abbrev AreWithin : ℕ → List Data → Type 0
AreWithin n ds = items_depth (items_of ds) ≤ n

chosen_within : (n : ℕ) (marks : List Bool) (ds : List Data) → AreWithin n ds → AreWithin n (chosen marks ds)
chosen_within n [] ds h = omega arith
chosen_within n (mark ∷ marks) [] h = omega arith
chosen_within n (true ∷ marks) (d ∷ ds) h = let more : items_depth (items_of (chosen marks ds)) ≤ n =
    chosen_within n marks ds (omega (arith, h)) in omega (arith, h, more)
chosen_within n (false ∷ marks) (d ∷ ds) h = chosen_within n marks ds (omega (arith, h))

both_within : (n : ℕ) (xs ys : List Data) → AreWithin n xs → AreWithin n ys → AreWithin n (xs ++ ys)
both_within n [] ys hx hy = hy
both_within n (x ∷ xs) ys hx hy = let more : items_depth (items_of (xs ++ ys)) ≤ n = both_within n xs ys (omega (arith, hx)) hy in omega (arith, hx, more)

-- the elements of an array, each as an object that is stripped
objects_within : (n : ℕ) (ds : Items) → items_depth ds ≤ suc n → AreWithin (suc n) (map entry_in (elements ds))
objects_within n no_items h = omega arith
objects_within n (item d ds) h =
    let one : members_depth (stripped_in d) ≤ n = in_depth d n (omega (arith, h)) in
    let more : items_depth (items_of (map entry_in (elements ds))) ≤ suc n = objects_within n ds (omega (arith, h)) in
    omega (arith, one, more)

-- ---- what is found

abbrev FoundWithin : ℕ → Option Data → Type 0
FoundWithin n None = ⊤
FoundWithin n (Some d) = depth d ≤ n

found_on : (o : Ordering) (d : Data) (found : Option Data) (n : ℕ) → depth d ≤ n → FoundWithin n found → FoundWithin n (match_ordering o found (Some d) found)
found_on Less d found n h more = more
found_on Equal d found n h more = h
found_on Greater d found n h more = more

member_within : (k : List ℕ) (ms : Members) (n : ℕ) → members_depth ms ≤ n → FoundWithin n (get_member k ms)
member_within k no_members n h = tt
member_within k (member l d ms) n h = found_on (slice_cmp nat_cmp k l) d (get_member k ms) n (omega (arith, h)) (member_within k ms n (omega (arith, h)))

get_within : (k : List ℕ) (d : Data) (n : ℕ) → depth d ≤ suc n → FoundWithin n (get k d)
get_within k null n h = tt
get_within k (boolean b) n h = tt
get_within k (number x) n h = tt
get_within k (string s) n h = tt
get_within k (array ds) n h = tt
get_within k (object ms) n h = member_within k ms n (omega (arith, h))

listed_within : (n : ℕ) (o : Option Data) → FoundWithin (suc (suc n)) o → AreWithin (suc n) (map entry_in (elements_or_none (option_and_then as_array o)))
listed_within n None h = omega arith
listed_within n (Some null) h = omega arith
listed_within n (Some (boolean b)) h = omega arith
listed_within n (Some (number x)) h = omega arith
listed_within n (Some (string s)) h = omega arith
listed_within n (Some (array ds)) h = objects_within n ds (omega (arith, h))
listed_within n (Some (object ms)) h = omega arith

-- ---- the entry that accepts a result

strings_depth : (texts : List (List ℕ)) → items_depth (items_of (map string texts)) ≤ 0
strings_depth [] = omega arith
strings_depth (t ∷ ts) = let more = strings_depth ts in omega (arith, more)

put_keeps : (n : ℕ) → IsKept (λ d. depth d ≤ n) (λ ms. members_depth ms ≤ n)
put_keeps n = record { none = omega arith; more = λ k d ms. put_depth k d ms n }

date_within : (until : Option ℕ) → If (λ n. depth (number (unsigned n)) ≤ 1) until
date_within None = tt
date_within (Some n) = omega arith

each_within : (until : Option ℕ) → IsOfEach (λ d. depth d ≤ 1) until
each_within until = record {
  date = date_within until;
  text = λ s. omega arith;
  pairs = λ ps. let h : members_depth (texts_put ps) ≤ 0 = texts_keep (put_keeps 0) (λ s. omega arith) ps in omega (arith, h);
  list = λ texts. let h = strings_depth texts in omega (arith, h);
}

made_within : (rs : List Record) (reason : Option (List ℕ)) (until : Option ℕ) (n : ℕ) → 2 ≤ n → AreWithin n (map (λ r. entry_for r reason until) rs)
made_within [] reason until n room = omega arith
made_within (r ∷ rs) reason until n room =
    let one : members_depth (members_from (entry_rows (asked_of r) reason until)) ≤ 1 =
    entry_keeps (put_keeps 1) until (each_within until) (asked_of r) reason in
    let more : items_depth (items_of (map (λ r. entry_for r reason until) rs)) ≤ n = made_within rs reason until n room in
    omega (arith, one, more, room)

-- ---- the new file

file_within : (version : Version) (entries : List Data) (ms : Members) (n : ℕ) → AreWithin n entries → members_depth ms ≤ suc n
    → depth (file_with version entries ms) ≤ suc (suc n)
file_within version entries ms n few rest =
    let value = number (unsigned (number_of version)) in
    let four : members_depth (put (codes "version") value ms) ≤ suc n = put_depth (codes "version") value ms (suc n) (omega arith) rest in
    let all : members_depth (put (codes "suppressions") (array (items_of entries)) (put (codes "version") value ms)) ≤ suc n = put_depth (codes "suppressions") (array (items_of entries)) _ (suc n) (omega (arith, few)) four in
    omega (arith, all)

pub new_within : (d : Data) (kept : List Bool) (rs : List Record) (reason : Option (List ℕ)) (until : Option ℕ) → depth d ≤ max_depth
    → depth (new_file d kept (map (λ r. entry_for r reason until) rs)) ≤ max_depth
new_within d kept rs reason until shallow =
    let entries : AreWithin 125 (entries_in d) = listed_within 124 (get (codes "suppressions") d) (get_within (codes "suppressions") d 126 shallow) in
    let others : members_depth (others_in d) ≤ 126 =
    in_depth (without_member (codes "suppressions") d) 126 (let h = without_member_depth (codes "suppressions") d in omega (arith, h, shallow)) in
    file_within (version_after d (map (λ r. entry_for r reason until) rs)) _ (others_in d) 125
    (both_within 125 (chosen kept (entries_in d)) (map (λ r. entry_for r reason until) rs) (chosen_within 125 kept (entries_in d) entries)
    (made_within rs reason until 125 (omega arith))) others
