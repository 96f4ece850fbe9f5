use Rattle.std.proofs.Common.{append_assoc}
use Rattle.sarif_page.specs.HtmlReport.{condition_row}
use Rattle.sarif_page.proofs.html_conditions.push_condition_row.Goals as goal

pub returns : goal.returns
unfolding condition_row
returns c =
    rw (
      c.in_ok-push_str-5.ensures.bytes,
      c.in_ok-push_str-4.ensures.bytes,
      c.in_ok-push_str-3.ensures.bytes,
      c.in_ok-push_str-2.ensures,
      c.in_ok-push_str.ensures.bytes,
      c.as_str-2.ensures.value,
      c.as_str.ensures,
      c.in_ok-cells.ensures,
    )
    (simp append_assoc)
