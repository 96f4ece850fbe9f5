-- Results once some of them were accepted: an entry of the new suppression file makes them suppressed.
use Rattle.std.specs.Prelude.{Bool, ◌||◌}
use Rattle.sarif_conditions.specs.Judged.{Judged}

-- the result, which is suppressed then if it was or if it is accepted
abbrev pub suppressed_if : Bool → Judged → Judged
suppressed_if accepted r = record r { suppressed = r.suppressed || accepted }
