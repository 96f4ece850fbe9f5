use Rattle.std.proofs.Common.{◌≡◌, length, map, drop}
use Rattle.serde_json.specs.View.{view}
use Rattle.sarif_entries.specs.File.{entries_from}
use Rattle.sarif_entries.proofs.FromEntries.{joined}
use Rattle.sarif_entries.proofs.read_file.read_entries.Given as goal

-- the entries so far, followed by the remaining ones, or the first error among them
abbrev pub invariant-loop-number : goal.invariant-loop-number
invariant-loop-number l = record {
  count : length l.entries.items ≡ l.number;
  told : joined l.entries.items (entries_from l.version l.today l.number (map view (drop l.number l.values)))
      ≡ entries_from l.version l.today 0 (map view l.values);
}
