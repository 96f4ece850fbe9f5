-- A table from keys to queues, as the contracts of its functions see it.
use Rattle.std.specs.Prelude.{ℕ, List, [], Bool, Option}
use Rattle.std.specs.Option.{option_map_or}
use Rattle.std.specs.declared.alloc.Global.{Global}
use Rattle.std.specs.declared.collections.VecDeque.{VecDeque}
use Rattle.std.specs.HashMap.{get, HashMap}
use Rattle.sarif_match.specs.declared.tier_key.Key.{Key}
use Rattle.sarif_match.specs.contracts.tier_key.KeyPartialEq.TheImpl as derived

-- whether two keys are equal, part by part
abbrev pub same_key : Key → Key → Bool
same_key = derived.ghosts.eq

-- the numbers in a queue, if there is one
abbrev pub items_of : Option (VecDeque ℕ Global) → List ℕ
items_of queue = option_map_or (λ queue. queue.items) queue []

-- the numbers in the queue of a key
abbrev pub queue_at : {S : Type 0} → HashMap Key (VecDeque ℕ Global) S → Key → List ℕ
queue_at queues key = items_of (get same_key queues key)
