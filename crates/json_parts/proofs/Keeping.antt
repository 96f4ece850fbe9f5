-- What is true of each value that is read, what stripping keeps of a value, and what putting a member keeps of an
-- object.
use Rattle.std.proofs.Common.{◌≡◌, ℕ, Bool, true, false, List, Option, Some, None, option_map, option_and_then, Ordering, Less, Equal, Greater, nat_cmp, if◌then◌else◌}
use Rattle.std.specs.Prelude.{⊤}
use Rattle.std.proofs.lemmas.Bool.{or_parts}
use Rattle.std.specs.Cmp.Lexicographic.{slice_cmp}
use Rattle.std.specs.Ordering.{match_ordering}
use Rattle.json.specs.Json as json
use Rattle.serde_json.specs.Data.{Data, null, boolean, number, string, array, object, Items, no_items, item, Members, no_members, member, put}
use Rattle.serde_json.specs.Read.{number_of, of_json, of_items, of_members}
use Rattle.serde_json.specs.Written.{has_float, members_have_float}
use Rattle.json_parts.specs.Stripping.{is_fractional, stripped, stripped_items, stripped_members}

-- ---- reading

-- P of the value, if there is one
abbrev pub If : {A : Type 0} → (A → Type 0) → Option A → Type 0
If P None = ⊤
If P (Some a) = P a

pub If-map : {A B : Type 0} (P : A → Type 0) (Q : B → Type 0) (f : A → B) → ((a : A) → P a → Q (f a)) → (o : Option A) → If P o → If Q (option_map f o)
If-map P Q f k None x = tt
If-map P Q f k (Some a) x = k a x

pub If-and_then : {A B : Type 0} (P : A → Type 0) (Q : B → Type 0) (f : A → Option B) → ((a : A) → P a → If Q (f a)) → (o : Option A)
    → If P o → If Q (option_and_then f o)
If-and_then P Q f k None x = tt
If-and_then P Q f k (Some a) x = k a x

-- a fact about each value that JSON has, and about a value that is made of such values
pub record IsMade (P : Data → Type 0) : Type 0 where
  pub at_null : P null
  pub at_boolean : (b : Bool) → P (boolean b)
  pub at_number : (s : List ℕ) → If (λ n. P (number n)) (number_of s)
  pub at_string : (s : List ℕ) → P (string s)
  pub at_none : P (array no_items)
  pub at_item : (d : Data) (ds : Items) → P d → P (array ds) → P (array (item d ds))
  pub at_empty : P (object no_members)
  pub at_put : (k : List ℕ) (d : Data) (ms : Members) → P d → P (object ms) → P (object (put k d ms))

module _ (P : Data → Type 0) (made : IsMade P) where
  abbrev Items-have : Items → Type 0
  Items-have ds = P (array ds)

  abbrev Members-have : Members → Type 0
  Members-have ms = P (object ms)

  mutual
    pub json_has : (j : json.Json) → If P (of_json j)
    json_has json.null = made.at_null
    json_has (json.boolean b) = made.at_boolean b
    json_has (json.number s) = If-map (λ n. P (number n)) P number (λ n h. h) (number_of s) (made.at_number s)
    json_has (json.string s) = made.at_string s
    json_has (json.array js) = If-map Items-have P array (λ ds h. h) (of_items js) (items_have js)
    json_has (json.object ms) = If-map Members-have P object (λ ns h. h) (of_members ms no_members) (members_have ms no_members made.at_empty)

    items_have : (js : json.Items) → If Items-have (of_items js)
    items_have json.no_items = made.at_none
    items_have (json.item j js) =
        If-and_then P Items-have (λ d. option_map (item d) (of_items js))
        (λ d x. If-map Items-have Items-have (item d) (λ ds h. made.at_item d ds x h) (of_items js) (items_have js)) (of_json j) (json_has j)

    members_have : (ms : json.Members) (found : Members) → P (object found) → If Members-have (of_members ms found)
    members_have json.no_members found h = h
    members_have (json.member k j ms) found h =
        If-and_then P Members-have (λ d. of_members ms (put k d found)) (λ d x. members_have ms (put k d found) (made.at_put k d found x h))
        (of_json j) (json_has j)

-- ---- stripping

-- a fact about a value that is true for each value in it, and that stripping keeps if it keeps it of these
pub record IsDeep (P : Data → Type 0) : Type 0 where
  pub parts : (d : Data) (ds : Items) → P (array (item d ds)) → P d × P (array ds)
  pub whole : (d : Data) (ds : Items) → P d → P (array ds) → P (array (item d ds))
  pub inner : (k : List ℕ) (d : Data) (ms : Members) → P (object (member k d ms)) → P d × P (object ms)
  pub outer : (k : List ℕ) (d : Data) (ms : Members) → P (object (member k d ms)) → P (stripped d) → P (object (stripped_members ms))
      → P (object (member k (stripped d) (stripped_members ms)))

module _ (P : Data → Type 0) (deep : IsDeep P) where
  mutual
    pub stripping_keeps : (d : Data) → P d → P (stripped d)
    stripping_keeps null is = is
    stripping_keeps (boolean b) is = is
    stripping_keeps (number n) is = is
    stripping_keeps (string s) is = is
    stripping_keeps (array ds) is = items_keep ds is
    stripping_keeps (object ms) is = members_keep ms is

    items_keep : (ds : Items) → P (array ds) → P (array (stripped_items ds))
    items_keep no_items is = is
    items_keep (item d ds) is =
        let both = deep.parts d ds is in deep.whole (stripped d) (stripped_items ds) (stripping_keeps d both.0) (items_keep ds both.1)

    members_keep : (ms : Members) → P (object ms) → P (object (stripped_members ms))
    members_keep no_members is = is
    members_keep (member k d ms) is =
        let both = deep.inner k d ms is in
        let rest = members_keep ms both.1 in
        elim (is_fractional d) as (λ b. P (object (if b then stripped_members ms else member k (stripped d) (stripped_members ms))))
        [ true ↦ rest | false ↦ deep.outer k d ms is (stripping_keeps d both.0) rest ]

-- ---- putting a member

put_at : (o : Ordering) (k l : List ℕ) (d e : Data) (ms rest : Members)
    → has_float d ≡ false → has_float e ≡ false → members_have_float ms ≡ false → members_have_float rest ≡ false
    → members_have_float (match_ordering o (member k d (member l e ms)) (member l d ms) (member l e rest)) ≡ false
put_at Less k l d e ms rest of_d of_e of_ms of_rest = rw (of_d, of_e, of_ms)
put_at Equal k l d e ms rest of_d of_e of_ms of_rest = rw (of_d, of_ms)
put_at Greater k l d e ms rest of_d of_e of_ms of_rest = rw (of_e, of_rest)

-- no number with a fraction is put, so none is there after it
pub put_whole : (k : List ℕ) (d : Data) (ms : Members) → has_float d ≡ false → members_have_float ms ≡ false → members_have_float (put k d ms) ≡ false
put_whole k d no_members of_d of_ms = rw of_d
put_whole k d (member l e ms) of_d of_ms =
    let parts = or_parts (has_float e) (members_have_float ms) of_ms in
    put_at (slice_cmp nat_cmp k l) k l d e ms (put k d ms) of_d parts.0 parts.1 (put_whole k d ms of_d parts.1)
