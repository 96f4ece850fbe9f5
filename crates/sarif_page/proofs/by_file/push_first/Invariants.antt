use Rattle.std.proofs.Common.{◌≡◌, ◌≤◌, ◌++◌, take, vec_len}
use Rattle.sarif_page.specs.Internal.ByFile.{findings_in}
use Rattle.sarif_page.proofs.by_file.push_first.Given as goal

abbrev pub invariant-loop-finding : goal.invariant-loop-finding
invariant-loop-finding l = record {
  rows : findings_in l.rows.items ≡ findings_in l.fn.rows.items ++ findings_in (take l.finding-index l.group);
  room : vec_len l.rows ≤ l.most;
}
