use Rattle.std.proofs.Common.{◌≡◌, length, map, take, drop}
use Rattle.sarif_streams.specs.AreRead.{AreRead}
use Rattle.sarif_streams.specs.Failing.{failed_calls_in, NoneFalls}
use Rattle.sarif_streams.proofs.reading.read_readers.Given as goal

abbrev pub invariant-loop-number : goal.invariant-loop-number
invariant-loop-number g l = record {
  left : drop l.number l.readers ≡ drop l.number l.fn.readers;
  read : AreRead g.R.Read.remaining (take l.number l.fn.readers) (take l.number l.readers) (map (λ v. v.items) l.sources.items);
  number : length l.sources.items ≡ l.number;
  quiet : failed_calls_in l.readers ≡ failed_calls_in l.fn.readers;
  risen : NoneFalls l.fn.readers l.readers;
}
