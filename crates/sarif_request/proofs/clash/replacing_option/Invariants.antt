use Rattle.std.proofs.Common.{◌≡◌, drop}
use Rattle.std.specs.Prelude.{find}
use Rattle.sarif_request.specs.Names.{replaces_file}
use Rattle.sarif_request.proofs.clash.replacing_option.Given as goal

-- none of the outputs gone through would overwrite the file
abbrev pub invariant-loop-wanted : goal.invariant-loop-wanted
invariant-loop-wanted l = find (replaces_file l.name) (drop l.wanted-index l.request.reports.items)
    ≡ find (replaces_file l.name) l.request.reports.items
