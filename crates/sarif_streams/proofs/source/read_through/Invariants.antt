use Rattle.std.proofs.Common.{◌≡◌, ◌+◌, ◌-◌, length}
use Rattle.std.specs.Io.KnownBytes.{Consumes}
use Rattle.sarif_model.specs.Limits.{most_bytes}
use Rattle.sarif_streams.specs.Counted.{inner_of, failed_calls}
use Rattle.sarif_streams.specs.Source.{IsWithinLimit}
use Rattle.sarif_streams.proofs.source.read_through.Given as goal

abbrev pub invariant-loop-taken : goal.invariant-loop-taken
invariant-loop-taken g l = record {
  within : IsWithinLimit l.bytes.items;
  read : Consumes (g.R.Read.remaining (inner_of l.fn.source)) (g.R.Read.remaining (inner_of l.source)) l.bytes.items;
  quiet : failed_calls l.source ≡ failed_calls l.fn.source;
}

abbrev pub decreases-loop-taken : goal.decreases-loop-taken
decreases-loop-taken g l = most_bytes + 1 - length l.bytes.items
