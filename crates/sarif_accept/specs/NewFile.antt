-- The new suppression file.
use Rattle.std.specs.List.{list_any}
use Rattle.std.specs.Prelude.{ℕ, Bool, ◌||◌, List, [], ◌∷◌, ◌++◌, map, Option, Some, None, is_some, option_and_then, unwrap_or, codes, if◌then◌else◌}
use Rattle.json.specs.Layout.{pretty}
use Rattle.json.specs.Tree.{json_tokens}
use Rattle.serde_json.specs.Data.{Data, number, unsigned, array, object, Members, no_members, put}
use Rattle.serde_json.specs.Find.{get, as_array, as_object}
use Rattle.serde_json.specs.View.{items_of}
use Rattle.serde_json.specs.Written.{outline}
use Rattle.json_parts.specs.Indexed.{json_of}
use Rattle.json_parts.specs.Mark.{without_mark}
use Rattle.json_parts.specs.Stripping.{stripped}
use Rattle.json_parts.specs.Without.{without_member}
use Rattle.sarif_model.specs.Run.{elements_or_none}
use Rattle.sarif_entries.specs.declared.version.Version.{Version}
use Rattle.sarif_entries.specs.declared.version.Version.TheVariants.{Fourth, Fifth}
use Rattle.sarif_entries.specs.File.{is_fifth, number_of}
use Rattle.sarif_accept.specs.Keeping.{chosen}

-- the object that a suppression file is; without a file an object without members
abbrev pub file_object : Option (List ℕ) → Data
file_object None = object no_members
file_object (Some bytes) = unwrap_or (json_of (without_mark bytes)) (object no_members)

-- the members of a value, stripped; a value that is not an object has none
abbrev pub stripped_in : Data → Members
stripped_in d = unwrap_or (as_object (stripped d)) no_members

-- an entry, stripped as the members of a log are: an entry of a file without errors is unchanged
abbrev pub entry_in : Data → Data
entry_in d = object (stripped_in d)

-- its entries, as the new file has them
abbrev pub entries_in : Data → List Data
entries_in d =
    map entry_in (elements_or_none (option_and_then as_array (get (codes "suppressions") d)))

-- its other members, stripped
abbrev pub others_in : Data → Members
others_in d = stripped_in (without_member (codes "suppressions") d)

-- an entry names a snippet
abbrev pub has_snippet : Data → Bool
has_snippet d = is_some (get (codes "snippet") d)

-- the version of the new file of this one with these entries added: 5 if it is that of the file, or if one of them
-- names a snippet; otherwise 4
abbrev pub version_after : Data → List Data → Version
version_after d added = if is_fifth d || list_any has_snippet added then Fifth else Fourth

-- the object of these entries, of this version, and of these other members
abbrev pub file_with : Version → List Data → Members → Data
file_with version entries ms =
    object (put (codes "suppressions") (array (items_of entries))
    (put (codes "version") (number (unsigned (number_of version))) ms))

-- the entries of the file that are marked, and then these
abbrev pub entries_after : Data → List Bool → List Data → List Data
entries_after d kept added = chosen kept (entries_in d) ++ added

-- the file with these entries
abbrev pub new_file : Data → List Bool → List Data → Data
new_file d kept added =
    file_with (version_after d added) (entries_after d kept added) (others_in d)

-- the text that is written: members in the byte order of their names, each value on its line, and one line feed
abbrev pub file_text : Data → List ℕ
file_text d = pretty (json_tokens (outline d)) ++ 10 ∷ []
