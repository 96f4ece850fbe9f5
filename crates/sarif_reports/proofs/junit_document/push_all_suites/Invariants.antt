use Rattle.std.proofs.Common.{◌≡◌, ◌++◌, drop, flat_map, string_bytes}
use Rattle.sarif_reports.specs.Internal.Suites.{entry_text}
use Rattle.sarif_reports.proofs.junit_document.push_all_suites.Given as goal

abbrev pub invariant-loop-number : goal.invariant-loop-number
invariant-loop-number l =
    string_bytes l.text ++ flat_map (entry_text l.stopping) (drop l.number l.suites.entries)
    ≡ string_bytes l.fn.text ++ flat_map (entry_text l.stopping) l.suites.entries
