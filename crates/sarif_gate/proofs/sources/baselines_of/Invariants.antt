use Rattle.std.proofs.Common.{◌≡◌, map, take}
use Rattle.sarif_streams.specs.Failing.{failed_calls_in}
use Rattle.sarif_streams.specs.Named.{Named}
use Rattle.sarif_gate.specs.Named.{source_channel}
use Rattle.sarif_gate.proofs.sources.baselines_of.Given as goal

abbrev pub invariant-loop-name : goal.invariant-loop-name
invariant-loop-name l =
    (failed_calls_in l.baselines.items ≡ 0) × (map source_channel l.baselines.items ≡ map Named (take l.name-index l.names.items))
