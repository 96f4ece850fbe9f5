-- The results of a merged log, by baseline state, level, and suppressed (true) or active (false).
use Rattle.std.specs.Prelude.{◌≡◌, ℕ, ◌+◌, Bool, true, false, ◌&&◌}
use Rattle.sarif_model.specs.declared.kinds.Level.{Level}
use Rattle.sarif_model.specs.declared.kinds.State.{State}
use Rattle.sarif_model.specs.declared.kinds.State.TheVariants.{New, Unchanged, Updated, Absent}
use Rattle.sarif_counts.specs.declared.counts.Counts.{Counts}
use Rattle.sarif_counts.specs.declared.tally.Tally.{Tally}
use Rattle.sarif_counts.specs.Hits.{Count, count_if}
use Rattle.sarif_counts.specs.Tally.{same_level, same_side, at_level, at_side, tally_total}

abbrev pub same_state : State → State → Bool
same_state New New = true
same_state Unchanged Unchanged = true
same_state Updated Updated = true
same_state Absent Absent = true
same_state _ _ = false

abbrev pub tally_at : Counts → State → Tally
tally_at counts New = counts.fresh
tally_at counts Unchanged = counts.unchanged
tally_at counts Updated = counts.updated
tally_at counts Absent = counts.absent

-- the counts that are held
abbrev pub count_at : Counts → Count
count_at counts state level suppressed =
    at_level (at_side (tally_at counts state) suppressed) level

-- how many results were counted
abbrev pub total_of : Counts → ℕ
total_of counts =
    tally_total counts.absent + tally_total counts.fresh
    + tally_total counts.unchanged + tally_total counts.updated

abbrev pub HoldsNothing : Counts → Type 0
HoldsNothing counts = (s : State) (l : Level) (b : Bool) → count_at counts s l b ≡ 0

-- one more for this state, level and side; every other count unchanged
abbrev pub AddsOne : Counts → Counts → State → Level → Bool → Type 0
AddsOne old new state level suppressed = (s : State) (l : Level) (b : Bool) →
    count_at new s l b
    ≡ count_at old s l b
    + count_if (same_state s state && (same_level l level && same_side b suppressed)) 1
