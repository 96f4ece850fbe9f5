-- The results of two lists of runs are those of the first and those of the second.
use Rattle.std.proofs.Common.{◌≡◌, ◌+◌, ◌++◌, List, [], ◌∷◌, Bool, arith}
use Rattle.serde_json.specs.Data.{Data}
use Rattle.sarif_model.specs.declared.kinds.Level.{Level}
use Rattle.sarif_model.specs.declared.kinds.State.{State}
use Rattle.sarif_counts.specs.CountOf.{count_of}

pub count_of-append : (runs more : List Data) (s : State) (l : Level) (b : Bool) → count_of (runs ++ more) s l b ≡ count_of runs s l b + count_of more s l b
count_of-append [] more s l b = omega arith
count_of-append (run ∷ runs) more s l b = omega (arith, count_of-append runs more s l b)
