use Rattle.std.proofs.Common.{append_assoc, append-nil}
use Rattle.sarif_page.proofs.html_lists.push_section_begin.Goals as goal

pub returns : goal.returns
returns c =
    rw (
      c.in_ok-push_str-9.ensures.bytes,
      c.in_ok-push_str-8.ensures.bytes,
      c.in_ok-push_str-7.ensures.bytes,
      c.in_ok-push_str-6.ensures.bytes,
      c.in_ok-push_str-5.ensures.bytes,
      c.in_ok-push_str-4.ensures.bytes,
      c.in_ok-push_has.ensures,
      c.in_ok-push_str-3.ensures.bytes,
      c.in_ok-push_str-2.ensures.bytes,
      c.in_ok-push_str.ensures.bytes,
      c.gone_line.ensures,
    )
    (simp (append_assoc, append-nil))
