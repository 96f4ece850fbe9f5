use Rattle.std.proofs.Common.{◌≡◌, ◌-◌, ◌≤◌, length, take}
use Rattle.std.specs.Io.KnownBytes.{Appends}
use Rattle.sarif_streams.specs.Counted.{inner_of, failed_calls}
use Rattle.sarif_streams.proofs.writing.write_out.Given as goal

abbrev pub invariant-loop-done : goal.invariant-loop-done
invariant-loop-done g l = record {
  within : l.done ≤ length l.bytes;
  wrote : Appends (g.W.Write.contents (inner_of l.fn.out)) (g.W.Write.contents (inner_of l.out)) (take l.done l.bytes);
  quiet : failed_calls l.out ≡ failed_calls l.fn.out;
}

abbrev pub decreases-loop-done : goal.decreases-loop-done
decreases-loop-done g l = length l.bytes - l.done
