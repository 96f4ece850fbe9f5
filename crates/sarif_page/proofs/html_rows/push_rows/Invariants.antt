use Rattle.std.proofs.Common.{◌≡◌, ◌++◌, drop, option_map, string_bytes}
use Rattle.sarif_page.specs.HtmlRow.{rows_html}
use Rattle.sarif_page.specs.Internal.ByFile.{findings_in}
use Rattle.sarif_page.proofs.html_rows.push_rows.Given as goal

abbrev pub invariant-loop-row : goal.invariant-loop-row
invariant-loop-row l =
    string_bytes l.text ++ rows_html (option_map (λ link. link.now) l.link) (findings_in (drop l.row-index l.rows))
    ≡ string_bytes l.fn.text ++ rows_html (option_map (λ link. link.now) l.link) (findings_in l.rows)
