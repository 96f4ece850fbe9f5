use Rattle.std.proofs.Common.{◌≡◌, ◌≤◌, take, map, flat_map, vec_len}
use Rattle.sarif_page.specs.Internal.ByFile.{findings_in, rows_at}
use Rattle.sarif_page.proofs.by_file.rows_in.Given as goal

abbrev pub invariant-loop-file : goal.invariant-loop-file
invariant-loop-file l = record {
  rows : findings_in l.rows.items
      ≡ take l.most (flat_map (rows_at l.grouped.groups) (map (λ t. t.now) (take l.file-index l.file-items)));
  room : vec_len l.rows ≤ l.most;
}
