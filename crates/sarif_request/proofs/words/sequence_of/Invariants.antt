use Rattle.std.proofs.Common.{◌≡◌, ◌++◌}
use Rattle.sarif_request.proofs.words.sequence_of.Given as goal

abbrev pub invariant-loop-name : goal.invariant-loop-name
invariant-loop-name l = l.sequence ++ l.name-iterator.rest.items ≡ l.fn.names.items
