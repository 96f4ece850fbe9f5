use Rattle.std.proofs.Common.{◌≡◌, drop}
use Rattle.std.specs.Prelude.{find, bytes_eq}
use Rattle.sarif_request.proofs.clash.naming_option.Given as goal

-- none of the outputs gone through has this name
abbrev pub invariant-loop-wanted : goal.invariant-loop-wanted
invariant-loop-wanted l = find (λ wanted. bytes_eq wanted.to l.name) (drop l.wanted-index l.request.reports.items)
    ≡ find (λ wanted. bytes_eq wanted.to l.name) l.request.reports.items
