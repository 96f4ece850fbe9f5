-- How long the text of a new suppression file is at least.
use Rattle.std.specs.Prelude.{ℕ, ◌+◌, List, [], ◌∷◌, length, Option, Some, None}
use Rattle.serde_json.specs.Data.{Data, null, boolean, number, string, array, object, Items, no_items, item, Members, no_members, member}
use Rattle.sarif_options.specs.declared.upkeep.Renewal.{Renewal}
use Rattle.sarif_model.specs.declared.record.Record.{Record}
use Rattle.sarif_entries.specs.declared.condition.Condition.{Condition}
use Rattle.sarif_entries.specs.Condition.{text_of}
use Rattle.sarif_accept.specs.Entry.{conditions_for}

abbrev pub weight_if : Option (List ℕ) → ℕ
weight_if None = 0
weight_if (Some text) = length text

-- the bytes of the strings that these conditions name
abbrev pub weight_in : List Condition → ℕ
weight_in [] = 0
weight_in (c ∷ cs) = weight_if (text_of c) + weight_in cs

-- the bytes of the strings that are members of the entry that accepts a result
abbrev pub weight_of : Renewal → Record → ℕ
weight_of renewal r = weight_if renewal.reason + weight_in (conditions_for r)

abbrev pub weights_of : Renewal → List Record → ℕ
weights_of renewal [] = 0
weights_of renewal (r ∷ rs) = weight_of renewal r + weights_of renewal rs

-- The bytes of the line breaks and of the indentation before the elements and members in a value, at every depth. Its
-- own line begins with `width` such bytes, and brackets add two spaces. Lines of closing brackets don't count.
abbrev mutual
  pub lines_in : ℕ → Data → ℕ
  lines_in width null = 0
  lines_in width (boolean b) = 0
  lines_in width (number n) = 0
  lines_in width (string s) = 0
  lines_in width (array ds) = item_lines (width + 2) ds
  lines_in width (object ms) = member_lines (width + 2) ms

  pub item_lines : ℕ → Items → ℕ
  item_lines width no_items = 0
  item_lines width (item d ds) = width + (lines_in width d + item_lines width ds)

  pub member_lines : ℕ → Members → ℕ
  member_lines width no_members = 0
  member_lines width (member k d ms) = width + (lines_in width d + member_lines width ms)
