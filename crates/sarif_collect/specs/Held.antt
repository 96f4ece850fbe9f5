-- What a collector has of a run: bodies by number, and a tail once the run is closed.
use Rattle.std.specs.Prelude.{ℕ, List, [], Option, Some, None, is_none}
use Rattle.std.specs.List.{enumerate_from, position_from}

pub record Held (T C : Type 0) : Type 0 where
  pub bodies : List (ℕ × T)
  pub tail : Option C

-- a closed run: its items, and its tail
pub record Whole (T C : Type 0) : Type 0 where
  pub items : List T
  pub tail : C

module _ {T C : Type 0} where
  abbrev pub empty_run : Held T C
  empty_run = record { bodies = []; tail = None }

  -- a closed run in a collector: the items are numbered from 0
  abbrev pub closed_run : Whole T C → Held T C
  closed_run w = record { bodies = enumerate_from 0 w.items; tail = Some w.tail }

  -- the least run that has no close
  abbrev pub first_open : List (Held T C) → Option ℕ
  first_open runs = position_from (λ h. is_none h.tail) 0 runs
