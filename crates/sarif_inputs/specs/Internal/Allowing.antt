-- Inputs for which external property files are allowed or not, and otherwise the same.
use Rattle.std.specs.Prelude.{◌≡◌, ℕ, Bool, true, false, List}
use Rattle.sarif_options.specs.declared.checks.Checks.{Checks}
use Rattle.sarif_read.specs.Reading.{log_of}
use Rattle.sarif_inputs.specs.Inputs.{Inputs}

abbrev pub checks_allowing : Bool → Checks → Checks
checks_allowing allow checks = record checks { allow_external = allow }

abbrev pub allowing : Bool → Inputs → Inputs
allowing allow inputs = record inputs { checks = checks_allowing allow inputs.checks }

-- the log of these bytes is the same, or its first error is, whether external property files are allowed or not
abbrev pub IsReadAlike : List ℕ → Type 0
IsReadAlike bytes = log_of true bytes ≡ log_of false bytes
