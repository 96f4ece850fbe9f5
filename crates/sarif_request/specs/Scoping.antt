-- What is inside a change, by its name.
use Rattle.std.specs.Prelude.{ℕ, List, Option, Some, None, bytes_eq, codes, if◌then◌else◌}
use Rattle.sarif_change.specs.declared.spots.Scope.{Scope}
use Rattle.sarif_change.specs.declared.spots.Scope.TheVariants.{Lines, Files}

abbrev pub scope_named : List ℕ → Option Scope
scope_named text =
    if bytes_eq text (codes "lines") then Some Lines else (
    if bytes_eq text (codes "files") then Some Files else None)
