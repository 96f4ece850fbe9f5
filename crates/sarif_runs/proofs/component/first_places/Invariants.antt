use Rattle.std.proofs.Common.{◌≡◌, ℕ, List, take}
use Rattle.std.specs.HashMap.{get_by_text}
use Rattle.sarif_runs.specs.Rules.{first_with_id}
use Rattle.sarif_runs.proofs.component.first_places.Given as goal

abbrev pub invariant-loop-place : goal.invariant-loop-place
invariant-loop-place l =
    (q : List ℕ) → get_by_text l.table q ≡ first_with_id q (take l.place l.rules)
