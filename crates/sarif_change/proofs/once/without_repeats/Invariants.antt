use Rattle.std.proofs.Common.{◌≡◌, ◌||◌, ℕ, List, Bool, map, drop}
use Rattle.std.specs.List.{list_any}
use Rattle.sarif_change.proofs.once.without_repeats.Given as goal

abbrev pub invariant-loop-part : goal.invariant-loop-part
invariant-loop-part l = (test : List ℕ → Bool)
    → (list_any test (map (λ part. part.now) l.once.items) || list_any test (map (λ part. part.now) (drop l.part-index l.parts)))
    ≡ list_any test (map (λ part. part.now) l.parts)
