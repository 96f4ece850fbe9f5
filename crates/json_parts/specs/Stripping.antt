-- Stripping: a value without each object member that is a number not held as an integer, or an array that holds
-- such a number directly or within arrays only. It is applied at every depth; the rest is kept.
use Rattle.std.specs.Prelude.{Bool, false, ◌||◌, if◌then◌else◌}
use Rattle.serde_json.specs.Data.{Data, null, boolean, number, string, array, object, Items, no_items, item, Members, no_members, member}
use Rattle.serde_json.specs.Find.{is_float}

abbrev mutual
  -- a number that isn't whole, or an array that holds one directly or within arrays
  pub is_fractional : Data → Bool
  is_fractional null = false
  is_fractional (boolean b) = false
  is_fractional (number n) = is_float n
  is_fractional (string s) = false
  is_fractional (array ds) = any_fractional ds
  is_fractional (object ms) = false

  pub any_fractional : Items → Bool
  any_fractional no_items = false
  any_fractional (item d ds) = is_fractional d || any_fractional ds

abbrev mutual
  pub stripped : Data → Data
  stripped null = null
  stripped (boolean b) = boolean b
  stripped (number n) = number n
  stripped (string s) = string s
  stripped (array ds) = array (stripped_items ds)
  stripped (object ms) = object (stripped_members ms)

  pub stripped_items : Items → Items
  stripped_items no_items = no_items
  stripped_items (item d ds) = item (stripped d) (stripped_items ds)

  pub stripped_members : Members → Members
  stripped_members no_members = no_members
  stripped_members (member k d ms) =
      if is_fractional d then stripped_members ms else member k (stripped d) (stripped_members ms)
