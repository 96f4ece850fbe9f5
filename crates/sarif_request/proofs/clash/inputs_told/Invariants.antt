use Rattle.std.proofs.Common.{◌≡◌, drop}
use Rattle.std.specs.Prelude.{find}
use Rattle.sarif_request.specs.Names.{names_of, replaces_input}
use Rattle.sarif_request.proofs.clash.inputs_told.Given as goal

-- none of the outputs gone through would overwrite an input
abbrev pub invariant-loop-wanted : goal.invariant-loop-wanted
invariant-loop-wanted l = find (replaces_input (names_of l.request)) (drop l.wanted-index l.request.reports.items)
    ≡ find (replaces_input (names_of l.request)) l.request.reports.items
