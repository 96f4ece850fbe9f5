use Rattle.std.proofs.Common.{append_assoc, append-nil}
use Rattle.sarif_page.specs.HtmlIndex.{index_middle}
use Rattle.sarif_page.proofs.html_index.push_index_middle.Goals as goal

pub returns : goal.returns
unfolding index_middle
returns c =
    rw (
      c.in_ok-push_str-3.ensures.bytes,
      c.in_ok-push_str-2.ensures,
      c.in_ok-push_str.ensures.bytes,
      c.in_ok-push_name.ensures,
      c.as_str.ensures,
    )
    (simp (append_assoc, append-nil))
