use Rattle.std.proofs.Common.{◌≡◌, map, drop}
use Rattle.std.specs.Prelude.{find}
use Rattle.sarif_request.specs.Sentences.{named, share_file}
use Rattle.sarif_request.proofs.clash.sharing_with.Given as goal

-- none of the outputs gone through shares its file with this one
abbrev pub invariant-loop-second : goal.invariant-loop-second
invariant-loop-second l = find (share_file (named l.first)) (map named (drop l.second-index l.outputs))
    ≡ find (share_file (named l.first)) (map named l.outputs)
