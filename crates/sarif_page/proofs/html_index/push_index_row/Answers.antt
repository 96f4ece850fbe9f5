use Rattle.std.proofs.Common.{append_assoc, append-nil}
use Rattle.sarif_page.specs.HtmlIndex.{index_row}
use Rattle.sarif_page.proofs.html_index.push_index_row.Goals as goal

pub returns : goal.returns
unfolding index_row
returns c =
    rw (
      c.in_ok-push_str.ensures.bytes,
      c.in_ok-push_first_link.ensures,
      c.in_ok-push_index_middle.ensures,
      c.in_ok-push_index_front.ensures,
    )
    (simp (append_assoc, append-nil))
