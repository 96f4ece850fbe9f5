use Rattle.std.proofs.Common.{◌≡◌, map, drop}
use Rattle.sarif_request.specs.Sentences.{named, outputs_text}
use Rattle.sarif_request.proofs.clash.shared_told.Given as goal

-- none of the outputs gone through shares its file with another one
abbrev pub invariant-loop-first : goal.invariant-loop-first
invariant-loop-first l = outputs_text (map named l.outputs) (map named (drop l.first-index l.outputs))
    ≡ outputs_text (map named l.outputs) (map named l.outputs)
