-- The names of each object's members strictly rise, so none comes twice. That is so in every value that is read.
use Rattle.std.specs.Prelude.{◌≡◌, ℕ, List, ⊤}
use Rattle.std.specs.declared.cmp.Ordering.TheVariants.{Less}
use Rattle.std.specs.Ordering.{nat_cmp}
use Rattle.std.specs.Cmp.Lexicographic.{slice_cmp}
use Rattle.serde_json.specs.Data.{Data, null, boolean, number, string, array, object, Items, no_items, item, Members, no_members, member}

-- that name is less than each member's
abbrev pub IsBelow : List ℕ → Members → Type 0
IsBelow name no_members = ⊤
IsBelow name (member own d ms) = (slice_cmp nat_cmp name own ≡ Less) × IsBelow name ms

abbrev mutual
  pub IsOrdered : Data → Type 0
  IsOrdered null = ⊤
  IsOrdered (boolean b) = ⊤
  IsOrdered (number n) = ⊤
  IsOrdered (string s) = ⊤
  IsOrdered (array ds) = AreItemsOrdered ds
  IsOrdered (object ms) = AreMembersOrdered ms

  pub AreItemsOrdered : Items → Type 0
  AreItemsOrdered no_items = ⊤
  AreItemsOrdered (item d ds) = IsOrdered d × AreItemsOrdered ds

  pub AreMembersOrdered : Members → Type 0
  AreMembersOrdered no_members = ⊤
  AreMembersOrdered (member own d ms) = IsBelow own ms × IsOrdered d × AreMembersOrdered ms
