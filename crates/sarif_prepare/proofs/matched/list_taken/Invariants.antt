use Rattle.std.proofs.Common.{◌≡◌, map}
use Rattle.std.specs.List.{range_with_len}
use Rattle.sarif_match.specs.Partners.{is_taken}
use Rattle.sarif_prepare.proofs.matched.list_taken.Given as goal

abbrev pub invariant-loop-number : goal.invariant-loop-number
invariant-loop-number l = l.taken.items ≡ map (is_taken l.matching) (range_with_len 0 l.number)
