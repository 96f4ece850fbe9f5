-- The lists of a page, as the contracts of the functions that write them see them.
use Rattle.std.specs.Prelude.{option_map}
use Rattle.sarif_page.specs.declared.html_lists.List.{List as Made}
use Rattle.sarif_page.specs.declared.html_tables.Rows.{Rows}
use Rattle.sarif_page.specs.HtmlGroups.{Part}
use Rattle.sarif_page.specs.HtmlRows.{Tables}
use Rattle.sarif_page.specs.Internal.ByFile.{findings_in}
use Rattle.sarif_page.specs.Internal.Rules.{rules_in}

abbrev pub part_in : Made → Part
part_in made = record {
  name = made.name.now;
  heading = made.heading.now;
  link = option_map (λ link. link.now) made.link;
  room = made.room;
  number = made.number;
  rules = rules_in made.index.now.shown.items;
  all_rules = made.index.now.all;
}

-- what has rows, and the numbers of the rest
abbrev pub tables_in : Rows → Tables
tables_in rows = record {
  hits = findings_in rows.hits.items;
  others = findings_in rows.others.items;
  all_hits = rows.all_hits;
  all_others = rows.all_others;
  marked = rows.marked;
  rules = rules_in rows.index.shown.items;
  all_rules = rows.index.all;
  link = option_map (λ link. link.now) rows.link;
}
