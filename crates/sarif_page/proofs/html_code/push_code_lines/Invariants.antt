use Rattle.std.proofs.Common.{◌≡◌, ◌++◌, drop, flat_map, string_bytes}
use Rattle.std.specs.List.{enumerate_from}
use Rattle.sarif_page.specs.HtmlCode.{code_line}
use Rattle.sarif_page.proofs.html_code.push_code_lines.Given as goal

abbrev pub invariant-loop-index : goal.invariant-loop-index
invariant-loop-index l =
    string_bytes l.text ++ flat_map (code_line l.code) (enumerate_from l.index (drop l.index l.lines))
    ≡ string_bytes l.fn.text ++ flat_map (code_line l.code) (enumerate_from 0 l.lines)
