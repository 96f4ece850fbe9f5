use Rattle.std.proofs.Common.{◌≡◌, drop}
use Rattle.std.specs.List.{list_any}
use Rattle.sarif_entries.specs.Condition.{is_pair}
use Rattle.sarif_entries.proofs.condition.behind.Given as goal

-- the pair isn't among those gone through
abbrev pub invariant-loop-at : goal.invariant-loop-at
invariant-loop-at l =
    list_any (λ p. is_pair p l.pair) (drop l.at l.found) ≡ list_any (λ p. is_pair p l.pair) l.found
