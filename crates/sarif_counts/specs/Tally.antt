-- Numbers by level, for the active and the suppressed results of one baseline state.
use Rattle.std.specs.Prelude.{◌≡◌, ℕ, ◌+◌, Bool, true, false, ◌&&◌}
use Rattle.sarif_model.specs.declared.kinds.Level.{Level}
use Rattle.sarif_model.specs.declared.kinds.Level.TheVariants.{NoLevel, Note, Warning, Error}
use Rattle.sarif_counts.specs.declared.tally.ByLevel.{ByLevel}
use Rattle.sarif_counts.specs.declared.tally.Tally.{Tally}
use Rattle.sarif_counts.specs.Hits.{count_if}

abbrev pub same_level : Level → Level → Bool
same_level NoLevel NoLevel = true
same_level Note Note = true
same_level Warning Warning = true
same_level Error Error = true
same_level _ _ = false

abbrev pub same_side : Bool → Bool → Bool
same_side true true = true
same_side true false = false
same_side false true = false
same_side false false = true

abbrev pub at_level : ByLevel → Level → ℕ
at_level numbers NoLevel = numbers.none
at_level numbers Note = numbers.note
at_level numbers Warning = numbers.warning
at_level numbers Error = numbers.error

abbrev pub level_total : ByLevel → ℕ
level_total numbers = numbers.error + numbers.warning + numbers.note + numbers.none

abbrev pub at_side : Tally → Bool → ByLevel
at_side tally true = tally.suppressed
at_side tally false = tally.active

abbrev pub tally_total : Tally → ℕ
tally_total tally = level_total tally.active + level_total tally.suppressed

-- one more at the level, and every other number as it was
abbrev pub AddsAtLevel : ByLevel → ByLevel → Level → Type 0
AddsAtLevel old new level =
    (l : Level) → at_level new l ≡ at_level old l + count_if (same_level l level) 1

-- one more at the level on that side, and every other number as it was
abbrev pub AddsAtSide : Tally → Tally → Level → Bool → Type 0
AddsAtSide old new level suppressed = (l : Level) (b : Bool) →
    at_level (at_side new b) l
    ≡ at_level (at_side old b) l + count_if (same_level l level && same_side b suppressed) 1
