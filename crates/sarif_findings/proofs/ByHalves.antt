-- A list that is cut in two.
use Rattle.std.proofs.Common.{◌≡◌, ◌++◌, List, map, sym, ap, ◌∙◌}
use Rattle.std.proofs.lemmas.List.{take-append-drop, map-append}

-- the results of the two halves, in order
pub made_halves : {X Y : Type 0} (h : X → Y) (low high xs : List X) → low ++ high ≡ xs → map h low ++ map h high ≡ map h xs
made_halves h low high xs whole = sym (map-append h low high) ∙ ap (map h) whole

pub ruleset half_steps = (take-append-drop)
