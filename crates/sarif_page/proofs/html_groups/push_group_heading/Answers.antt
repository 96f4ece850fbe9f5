use Rattle.std.proofs.Common.{append_assoc, append-nil}
use Rattle.sarif_page.specs.HtmlGroups.{group_heading}
use Rattle.sarif_page.proofs.html_groups.push_group_heading.Goals as goal

pub returns : goal.returns
unfolding group_heading
returns c =
    rw (
      c.in_ok-push_str-4.ensures.bytes,
      c.in_ok-push_str-3.ensures.bytes,
      c.in_ok-push_str-2.ensures.bytes,
      c.in_ok-push_str.ensures.bytes,
      c.in_ok-push_file.ensures,
      c.as_str-2.ensures.value,
      c.as_str.ensures.value,
      c.in_ok-numbers.ensures,
      c.in_ok-part.ensures,
    )
    (simp (append_assoc, append-nil))
