use Rattle.std.proofs.Common.{append_assoc, append-nil}
use Rattle.sarif_page.proofs.html_groups.push_group_begin.Goals as goal

pub returns : goal.returns
returns c =
    rw (
      c.in_ok-push_str-5.ensures.bytes,
      c.in_ok-push_has.ensures,
      c.in_ok-push_str-4.ensures.bytes,
      c.in_ok-push_str-3.ensures.bytes,
      c.in_ok-push_str-2.ensures.bytes,
      c.in_ok-push_str.ensures.bytes,
      c.open_word.ensures,
      c.as_str.ensures.value,
      c.in_ok-id.ensures.ok,
    )
    (simp (append_assoc, append-nil))
