use Rattle.std.proofs.Common.{append_assoc, append-nil}
use Rattle.sarif_page.specs.HtmlIndex.{index_front}
use Rattle.sarif_page.proofs.html_index.push_index_front.Goals as goal

pub returns : goal.returns
unfolding index_front
returns c =
    rw (
      c.in_ok-push_str-4.ensures.bytes,
      c.in_ok-push_linked.ensures,
      c.in_ok-push_str-3.ensures.bytes,
      c.in_ok-push_str-2.ensures.bytes,
      c.in_ok-push_str.ensures.bytes,
      c.as_str.ensures.value,
      c.in_ok-number.ensures.ok,
    )
    (simp (append_assoc, append-nil))
