use Rattle.std.proofs.Common.{append_assoc}
use Rattle.sarif_page.specs.HtmlRow.{tool_cells}
use Rattle.sarif_page.proofs.html_rows.push_tool_cells.Goals as goal

pub returns : goal.returns
unfolding tool_cells
returns c =
    rw (
      c.in_ok-push_str-3.ensures.bytes,
      c.in_ok-push_str-2.ensures,
      c.in_ok-push_bold.ensures,
      c.in_ok-push_str.ensures.bytes,
      c.name.ensures,
      c.as_str.ensures,
    )
    (simp append_assoc)
