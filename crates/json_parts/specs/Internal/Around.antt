-- The compact text of an object around one of its members, whose value is then written between.
use Rattle.std.specs.Prelude.{ℕ, Bool, true, false, List, [], ◌∷◌, ◌++◌}
use Rattle.std.specs.Ordering.{nat_cmp, match_ordering}
use Rattle.std.specs.Cmp.Lexicographic.{slice_cmp}
use Rattle.serde_json.specs.Data.{string, Members, no_members, member}
use Rattle.serde_json.specs.Written.{compact_text, members_text}

-- a name and its colon
abbrev pub name_text : List ℕ → List ℕ
name_text name = compact_text (string name) ++ 58 ∷ []

-- whether the first of these members has a name below this one
abbrev pub begins_below : List ℕ → Members → Bool
begins_below name no_members = false
begins_below name (member k d ms) = match_ordering (slice_cmp nat_cmp name k) false false true

-- whether the first of these members has this name
abbrev pub begins_at : List ℕ → Members → Bool
begins_at name no_members = false
begins_at name (member k d ms) = match_ordering (slice_cmp nat_cmp name k) false true false

-- the members with names below this one, each written as JSON and followed by a comma
abbrev pub texts_before : List ℕ → Members → List ℕ
texts_before name no_members = []
texts_before name (member k d ms) =
    match_ordering (slice_cmp nat_cmp name k) [] []
    (name_text k ++ (compact_text d ++ (44 ∷ texts_before name ms)))

-- the members whose names are above this one
abbrev pub members_after : List ℕ → Members → Members
members_after name no_members = no_members
members_after name (member k d ms) =
    match_ordering (slice_cmp nat_cmp name k) (member k d ms) ms (members_after name ms)

-- an object's text before the value of the member of that name, and after it
pub record Surrounding : Type 0 where
  pub before : List ℕ
  pub after : List ℕ

abbrev pub surrounding : List ℕ → Members → Surrounding
surrounding name ms = record {
  before = 123 ∷ (texts_before name ms ++ name_text name);
  after = members_text true (members_after name ms);
}

-- the text with this value between
abbrev pub filled : Surrounding → List ℕ → List ℕ
filled s value = s.before ++ (value ++ s.after)
