use Rattle.std.proofs.Common.{◌≡◌, ◌&&◌, drop}
use Rattle.std.specs.List.{list_all}
use Rattle.sarif_reports.specs.GitlabParts.{stands_in_string}
use Rattle.sarif_reports.proofs.quoted.all_stand.Given as goal

abbrev pub invariant-loop-byte : goal.invariant-loop-byte
invariant-loop-byte l =
    (l.all && list_all stands_in_string (drop l.byte-index l.bytes)) ≡ list_all stands_in_string l.bytes
