-- How many findings of the logs a gate counts.
use Rattle.std.specs.Prelude.{ℕ, ◌+◌}
use Rattle.sarif_model.specs.declared.kinds.State.TheVariants.{New, Unchanged, Updated}
use Rattle.sarif_counts.specs.Hits.{Count}
use Rattle.sarif_laws_once.specs.Totals.{of_state}

-- the results that are counted, but those that are absent
abbrev pub findings_counted : Count → ℕ
findings_counted count =
    of_state (count New) + of_state (count Unchanged) + of_state (count Updated)
