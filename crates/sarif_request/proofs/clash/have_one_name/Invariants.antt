use Rattle.std.proofs.Common.{◌≡◌, map, drop}
use Rattle.sarif_request.specs.Names.{have_one_name}
use Rattle.sarif_request.proofs.clash.have_one_name.Given as goal

-- none of the reports gone through has the name of a later one
abbrev pub invariant-loop-at : goal.invariant-loop-at
invariant-loop-at l = have_one_name (map (λ report. report.to) (drop l.at l.reports))
    ≡ have_one_name (map (λ report. report.to) l.reports)
