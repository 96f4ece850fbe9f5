use Rattle.std.proofs.Common.{◌≡◌, ◌∷◌, map, take}
use Rattle.sarif_request.specs.Names.{names_of}
use Rattle.sarif_request.specs.Sentences.{merged, named, wanted_one}
use Rattle.sarif_request.proofs.clash.outputs_of.Given as goal

-- the merged log and the outputs gone through are listed
abbrev pub invariant-loop-report : goal.invariant-loop-report
invariant-loop-report l = map named l.outputs.items
    ≡ merged (names_of l.request) ∷ map wanted_one (take l.report-index l.request.reports.items)
