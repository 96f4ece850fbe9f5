use Rattle.std.proofs.Common.{append_assoc, append-nil}
use Rattle.sarif_page.proofs.html_groups.push_has.Goals as goal

pub returns : goal.returns
returns c =
    rw (
      c.in_ok-push_str-2.ensures.bytes,
      c.in_ok-push_pairs.ensures,
      c.in_ok-push_str.ensures.bytes,
    )
    (simp (append_assoc, append-nil))
