use Rattle.std.proofs.Common.{◌≡◌, ◌+◌, ◌++◌, length}
use Rattle.sarif_page.specs.HtmlRows.{groups_after, file_groups}
use Rattle.sarif_page.specs.Internal.ByFile.{findings_in}
use Rattle.sarif_page.specs.Internal.Groups.{groups_in}
use Rattle.sarif_page.proofs.groups.push_file_groups.Given as goal

abbrev pub invariant-loop-before : goal.invariant-loop-before
invariant-loop-before l = record {
  told : groups_in l.groups.items ++ groups_after (length (findings_in l.rest)) l.before l.all (findings_in l.rest)
      ≡ groups_in l.fn.groups.items ++ file_groups (findings_in l.fn.rows);
  count : l.before + length l.rest ≡ l.all;
}

abbrev pub decreases-loop-before : goal.decreases-loop-before
decreases-loop-before l = length l.rest
