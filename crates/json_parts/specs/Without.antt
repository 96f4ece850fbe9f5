-- An object without its member of one name.
use Rattle.std.specs.Prelude.{ℕ, List, bytes_eq, if◌then◌else◌}
use Rattle.serde_json.specs.Data.{Data, null, boolean, number, string, array, object, Members, no_members, member}

-- the members without those of that name
abbrev pub without : List ℕ → Members → Members
without name no_members = no_members
without name (member own d ms) =
    if bytes_eq name own then without name ms else member own d (without name ms)

-- a value that is not an object is unchanged
abbrev pub without_member : List ℕ → Data → Data
without_member name null = null
without_member name (boolean b) = boolean b
without_member name (number n) = number n
without_member name (string s) = string s
without_member name (array ds) = array ds
without_member name (object ms) = object (without name ms)
