use Rattle.std.proofs.Common.{◌≡◌, ◌++◌, drop}
use Rattle.sarif_known.specs.Internal.Tokens.{pairs_tokens}
use Rattle.sarif_known.proofs.members.push_pairs.Given as goal

abbrev pub invariant-loop-name : goal.invariant-loop-name
invariant-loop-name l = l.out ++ pairs_tokens (drop l.name-index l.pairs) ≡ l.initial.out ++ pairs_tokens l.pairs
