use Rattle.std.proofs.Common.{◌≡◌, ◌++◌, map}
use Rattle.std.specs.Prelude.{Ok}
use Rattle.sarif_program.proofs.telling.all_made.Given as goal

abbrev pub invariant-loop-text : goal.invariant-loop-text
invariant-loop-text l =
    (parts : l.fn.made.items ≡ l.yielded ++ l.text-iterator.rest.items) × (map (λ text. Ok text) l.texts.items ≡ l.yielded)
