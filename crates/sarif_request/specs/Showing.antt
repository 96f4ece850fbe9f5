-- Which results reports show, by its name.
use Rattle.std.specs.Prelude.{ℕ, List, Option, Some, None, bytes_eq, codes, if◌then◌else◌}
use Rattle.sarif_findings.specs.declared.reporting.Show.{Show}
use Rattle.sarif_findings.specs.declared.reporting.Show.TheVariants.{Hits, All}

abbrev pub show_named : List ℕ → Option Show
show_named text =
    if bytes_eq text (codes "hits") then Some Hits else (
    if bytes_eq text (codes "all") then Some All else None)
