-- What a result does to the gate. The gate is this project's own: SARIF has none.
use Rattle.std.specs.Prelude.{Bool, true, false}
use Rattle.sarif_counts.specs.declared.gate_verdict.Impact.{Impact}
use Rattle.sarif_counts.specs.declared.gate_verdict.Impact.TheVariants.{Stops, Hit, None}

-- whether a result that does this is a hit
abbrev pub is_hit : Impact → Bool
is_hit Stops = true
is_hit Hit = true
is_hit None = false
