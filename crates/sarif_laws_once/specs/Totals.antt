-- How many results a gate counts, and how many copies it names.
use Rattle.std.specs.Prelude.{ℕ, ◌+◌, Bool, true, false, length, option_map, unwrap_or}
use Rattle.sarif_model.specs.declared.kinds.Level.{Level}
use Rattle.sarif_model.specs.declared.kinds.Level.TheVariants.{NoLevel, Note, Warning, Error}
use Rattle.sarif_model.specs.declared.kinds.State.TheVariants.{New, Unchanged, Updated, Absent}
use Rattle.sarif_counts.specs.Hits.{Count}
use Rattle.sarif_inputs.specs.Inputs.{Inputs}
use Rattle.sarif_merge.specs.MergedLog.{copies_in_log}

-- the results of one level, active and suppressed
abbrev pub of_level : (Bool → ℕ) → ℕ
of_level numbers = numbers false + numbers true

-- the results of one state, of all levels
abbrev pub of_state : (Level → Bool → ℕ) → ℕ
of_state numbers =
    of_level (numbers Error) + of_level (numbers Warning)
    + of_level (numbers Note) + of_level (numbers NoLevel)

-- the results that are counted, of all states
abbrev pub results_counted : Count → ℕ
results_counted count =
    of_state (count New) + of_state (count Unchanged)
    + of_state (count Updated) + of_state (count Absent)

-- how many copies the gate names
abbrev pub copies_named : Inputs → ℕ
copies_named inputs = unwrap_or (option_map length (copies_in_log inputs)) 0
