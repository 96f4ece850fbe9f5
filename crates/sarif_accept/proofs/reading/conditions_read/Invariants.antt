use Rattle.std.proofs.Common.{◌≡◌, ◌++◌, map}
use Rattle.sarif_accept.specs.Adding.{as_read}
use Rattle.sarif_accept.specs.Entry.{conditions_for}
use Rattle.sarif_accept.proofs.reading.conditions_read.Given as goal

-- the conditions so far, and then those that are left
abbrev pub invariant-loop-condition : goal.invariant-loop-condition
invariant-loop-condition l =
    l.read ++ map as_read l.condition-iterator.rest.items ≡ map as_read (conditions_for l.record)
