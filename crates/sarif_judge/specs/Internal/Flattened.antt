-- The outcomes in what is gathered from all shards.
use Rattle.std.specs.Prelude.{List, map, reverse, ⊤}
use Rattle.std.specs.declared.vec.Vec.{Vec}
use Rattle.std.specs.declared.alloc.Global.{Global}
use Rattle.std.specs.List.{flat_map}
use Rattle.sarif_collect.specs.Held.{Whole}
use Rattle.sarif_results.specs.declared.outcome.Outcome.{Outcome}

-- one list of all
abbrev pub within_shards : List (List Outcome) → List Outcome
within_shards shards = flat_map (λ shard. shard) shards

abbrev pub flattened : List (Whole (List Outcome) ⊤) → List Outcome
flattened runs = flat_map (λ w. within_shards w.items) runs

-- one list of all, from runs that are in reverse order
abbrev pub flattened_from : List (Vec (List Outcome) Global) → List Outcome
flattened_from stack = flat_map within_shards (reverse (map (λ v. v.items) stack))
