use Rattle.std.proofs.Common.{append_assoc, append-nil}
use Rattle.sarif_page.specs.HtmlRow.{link_begin}
use Rattle.sarif_page.proofs.html_rows.push_link_begin.Goals as goal

pub returns : goal.returns
unfolding link_begin
returns c =
    rw (
      c.in_ok-push_str-4.ensures.bytes,
      c.in_ok-push_title.ensures,
      c.in_ok-push_str-3.ensures.bytes,
      c.in_ok-push_str-2.ensures,
      c.in_ok-push_str.ensures.bytes,
    )
    (simp (append_assoc, append-nil))
