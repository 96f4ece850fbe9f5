use Rattle.std.proofs.Common.{◌≡◌, ◌++◌, drop, flat_map, map, string_bytes}
use Rattle.sarif_model.specs.State.{state_name}
use Rattle.sarif_page.specs.HtmlReport.{box}
use Rattle.sarif_page.proofs.html_filters.state_boxes.Given as goal

abbrev pub invariant-loop-state : goal.invariant-loop-state
invariant-loop-state l =
    string_bytes l.text ++ flat_map box (map state_name (drop l.state-index l.states)) ≡ flat_map box (map state_name l.states)
