use Rattle.std.proofs.Common.{◌≡◌, ◌++◌, drop, flat_map, map, string_bytes}
use Rattle.sarif_model.specs.Level.{level_name}
use Rattle.sarif_page.specs.HtmlReport.{box}
use Rattle.sarif_page.proofs.html_filters.level_boxes.Given as goal

abbrev pub invariant-loop-level : goal.invariant-loop-level
invariant-loop-level l =
    string_bytes l.text ++ flat_map box (map level_name (drop l.level-index l.levels)) ≡ flat_map box (map level_name l.levels)
