use Rattle.std.proofs.Common.{append_assoc}
use Rattle.sarif_page.specs.HtmlReport.{counts_table}
use Rattle.sarif_page.proofs.html_counts.push_counts.Goals as goal

pub returns : goal.returns
unfolding counts_table
returns c =
    rw (
      c.in_ok-push_str-4.ensures.bytes,
      c.in_ok-push_count_row-4.ensures,
      c.in_ok-push_count_row-3.ensures,
      c.in_ok-push_count_row-2.ensures,
      c.in_ok-push_count_row.ensures,
      c.in_ok-push_str-3.ensures.bytes,
      c.in_ok-push_str-2.ensures.bytes,
      c.in_ok-push_str.ensures.bytes,
      c.counts_begin.ensures,
      c.caption_end.ensures,
      c.counts_head.ensures,
      c.counts_end.ensures,
    )
    (simp append_assoc)
