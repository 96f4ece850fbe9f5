use Rattle.std.proofs.Common.{append_assoc, append-nil}
use Rattle.sarif_page.specs.HtmlIndex.{index_of}
use Rattle.sarif_page.proofs.html_index.push_rules.Goals as goal

pub returns : goal.returns
unfolding index_of
returns c =
    rw (
      c.in_ok-push_str-5.ensures.bytes,
      c.in_ok-push_more_rules.ensures,
      c.in_ok-push_str-4.ensures.bytes,
      c.in_ok-push_index_rows.ensures,
      c.in_ok-push_str-3.ensures.bytes,
      c.in_ok-push_str-2.ensures.bytes,
      c.in_ok-push_str.ensures.bytes,
      c.unshown_rules.ensures,
      c.index_end.ensures,
      c.deref.ensures.value,
      c.index_begin.ensures,
      c.as_str.ensures.value,
      c.in_ok-rules.ensures,
    )
    (simp (append_assoc, append-nil))
