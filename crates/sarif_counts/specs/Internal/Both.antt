-- What two counts are together. Only counting in threads needs it.
use Rattle.std.specs.Prelude.{◌≡◌, ◌+◌, Bool}
use Rattle.sarif_model.specs.declared.kinds.Level.{Level}
use Rattle.sarif_model.specs.declared.kinds.State.{State}
use Rattle.sarif_counts.specs.Counts.{count_at}
use Rattle.sarif_counts.specs.declared.counts.Counts.{Counts}
use Rattle.sarif_counts.specs.declared.tally.ByLevel.{ByLevel}
use Rattle.sarif_counts.specs.declared.tally.Tally.{Tally}
use Rattle.sarif_counts.specs.Tally.{at_level, at_side}

-- at each level what both have together
abbrev pub AreOfBothLevels : ByLevel → ByLevel → ByLevel → Type 0
AreOfBothLevels one other both =
    (l : Level) → at_level both l ≡ at_level one l + at_level other l

-- at each level of each side what both have together
abbrev pub AreOfBothSides : Tally → Tally → Tally → Type 0
AreOfBothSides one other both = (l : Level) (b : Bool) →
    at_level (at_side both b) l ≡ at_level (at_side one b) l + at_level (at_side other b) l

-- for each state, level and side the sum of both
abbrev pub AreOfBoth : Counts → Counts → Counts → Type 0
AreOfBoth one other both = (s : State) (l : Level) (b : Bool) →
    count_at both s l b ≡ count_at one s l b + count_at other s l b
