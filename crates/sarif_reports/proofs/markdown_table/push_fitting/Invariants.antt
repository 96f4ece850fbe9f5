use Rattle.std.proofs.Common.{◌≡◌, ◌≤◌, ◌+◌, ◌++◌, drop, flat_map, length, map, option_map, string_bytes}
use Rattle.std.specs.List.{enumerate_from}
use Rattle.sarif_reports.specs.MarkdownReport.{fitting, row_text}
use Rattle.sarif_reports.proofs.markdown_table.push_fitting.Given as goal

abbrev pub invariant-loop-index : goal.invariant-loop-index
invariant-loop-index l = record {
  rows : string_bytes l.text ++ flat_map (row_text (option_map (λ link. link.now) l.link))
      (fitting (option_map (λ link. link.now) l.link) l.left (enumerate_from l.index (map (λ f. f.now) (drop l.index l.listed))))
      ≡ string_bytes l.fn.text ++ flat_map (row_text (option_map (λ link. link.now) l.link))
      (fitting (option_map (λ link. link.now) l.link) l.room (enumerate_from 0 (map (λ f. f.now) l.listed)));
  count : l.count + length (fitting (option_map (λ link. link.now) l.link) l.left (enumerate_from l.index (map (λ f. f.now) (drop l.index l.listed))))
      ≡ length (fitting (option_map (λ link. link.now) l.link) l.room (enumerate_from 0 (map (λ f. f.now) l.listed)));
  few : l.count ≤ l.index;
}
