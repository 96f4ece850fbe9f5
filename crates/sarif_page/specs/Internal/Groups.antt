-- The groups of a list, as the contracts of the functions that make and write them see them.
use Rattle.std.specs.Prelude.{List, map, flat_map}
use Rattle.sarif_page.specs.declared.by_file.Grouped.{Grouped}
use Rattle.sarif_page.specs.declared.groups.Group.{Group as Made}
use Rattle.sarif_page.specs.HtmlRows.{Group, file_groups}
use Rattle.sarif_page.specs.Internal.ByFile.{findings_in, rows_at}

abbrev pub group_in : Made → Group
group_in made = record {
  first = made.first;
  last = made.last;
  all = made.all;
  rows = findings_in made.rows.now;
}

abbrev pub groups_in : List Made → List Group
groups_in made = map group_in made

-- the groups of all files of a table
abbrev pub groups_by : Grouped → List Group
groups_by grouped =
    flat_map (λ file. file_groups (rows_at grouped.groups file)) (map (λ file. file.now) grouped.files.items)
