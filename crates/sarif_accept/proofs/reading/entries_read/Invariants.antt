use Rattle.std.proofs.Common.{◌≡◌, map, take}
use Rattle.sarif_accept.specs.Adding.{entry_read}
use Rattle.sarif_accept.proofs.reading.entries_read.Given as goal

-- the entries of the results so far
abbrev pub invariant-loop-record : goal.invariant-loop-record
invariant-loop-record l =
    l.entries.items ≡ map (λ r. entry_read r.now l.renewal.reason l.renewal.until) (take l.record-index l.added)
