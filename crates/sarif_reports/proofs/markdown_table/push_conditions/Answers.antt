use Rattle.std.proofs.Common.{append_assoc}
use Rattle.sarif_reports.proofs.markdown_table.push_conditions.Goals as goal

pub returns-clause-table : goal.returns-clause-table
returns-clause-table c =
    rw (c.in_ok-push_str-2.ensures.bytes, c.in_ok-push_str.ensures.bytes, c.as_str.ensures.value, c.in_ok-rows.ensures, c.in-Some.is)
    (simp append_assoc)
