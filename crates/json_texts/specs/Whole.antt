-- The whole value of a source, what stripping leaves of it, and the text of each. A number is its text in the source.
use Rattle.std.specs.Prelude.{ℕ, List, Bool, true, false, ◌||◌, if◌then◌else◌, option_map, unwrap_or}
use Rattle.std.specs.Ordering.{nat_cmp, match_ordering}
use Rattle.std.specs.Cmp.Lexicographic.{slice_cmp}
use Rattle.json.specs.Json.{Json, null, boolean, number, string, array, object, Items, no_items, item, Members, no_members, member}
use Rattle.json.specs.Print.{print}
use Rattle.json.specs.Tree.{json_tokens}
use Rattle.serde_json.specs.Find.{is_float}
use Rattle.serde_json.specs.Read.{number_of}

-- the members, with j at k: names rise in the order of their bytes, and none comes twice
abbrev pub put : List ℕ → Json → Members → Members
put k j no_members = member k j no_members
put k j (member l i ms) =
    match_ordering (slice_cmp nat_cmp k l) (member k j (member l i ms)) (member l j ms)
    (member l i (put k j ms))

-- each object has each name once, with the last value of that name, in the order of names
abbrev mutual
  pub whole : Json → Json
  whole null = null
  whole (boolean b) = boolean b
  whole (number s) = number s
  whole (string s) = string s
  whole (array js) = array (whole_items js)
  whole (object ms) = object (whole_members ms no_members)

  pub whole_items : Items → Items
  whole_items no_items = no_items
  whole_items (item j js) = item (whole j) (whole_items js)

  -- the members are put in, in order
  pub whole_members : Members → Members → Members
  whole_members no_members found = found
  whole_members (member k j ms) found = whole_members ms (put k (whole j) found)

-- a number is a fraction unless it is held as an integer: it has a point or an exponent, is `-0`, or doesn't fit 64 bits
abbrev pub is_fraction : List ℕ → Bool
is_fraction s = unwrap_or (option_map is_float (number_of s)) true

abbrev mutual
  -- a fraction, or an array that holds one directly or within arrays only
  pub is_fractional : Json → Bool
  is_fractional null = false
  is_fractional (boolean b) = false
  is_fractional (number s) = is_fraction s
  is_fractional (string s) = false
  is_fractional (array js) = any_fractional js
  is_fractional (object ms) = false

  pub any_fractional : Items → Bool
  any_fractional no_items = false
  any_fractional (item j js) = is_fractional j || any_fractional js

-- without each object member whose value is fractional, at every depth
abbrev mutual
  pub stripped : Json → Json
  stripped null = null
  stripped (boolean b) = boolean b
  stripped (number s) = number s
  stripped (string s) = string s
  stripped (array js) = array (stripped_items js)
  stripped (object ms) = object (stripped_members ms)

  pub stripped_items : Items → Items
  stripped_items no_items = no_items
  stripped_items (item j js) = item (stripped j) (stripped_items js)

  pub stripped_members : Members → Members
  stripped_members no_members = no_members
  stripped_members (member k j ms) =
      if is_fractional j then stripped_members ms
      else member k (stripped j) (stripped_members ms)

-- what is written for a value: all of it, or what stripping leaves
abbrev pub written : Bool → Json → Json
written true j = whole j
written false j = stripped (whole j)

-- the compact text
abbrev pub text_of : Json → List ℕ
text_of j = print (json_tokens j)
