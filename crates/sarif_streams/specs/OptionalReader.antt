-- A reader that may be there.
use Rattle.std.specs.Prelude.{ℕ, Option, Some, None}
use Rattle.sarif_streams.specs.declared.counted.Counted.{Counted}
use Rattle.sarif_streams.specs.Counted.{failed_calls}

-- how many calls of it failed
abbrev pub failed_calls_if : {D : Type 0} → Option (Counted D) → ℕ
failed_calls_if None = 0
failed_calls_if (Some reader) = failed_calls reader
