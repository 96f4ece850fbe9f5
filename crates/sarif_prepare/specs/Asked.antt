-- What a caller requests besides the merged log.
use Rattle.std.specs.Prelude.{Option, option_map}
use Rattle.sarif_options.specs.declared.upkeep.Upkeep.{Upkeep}
use Rattle.sarif_findings.specs.declared.reporting.Reporting.{Reporting}
use Rattle.sarif_prepare.specs.declared.asked.Asked.{Asked}
use Rattle.sarif_choice.specs.declared.choice.Choosing.{Choosing}

-- what reports depend on, if a report is requested
abbrev pub reporting_in : Asked → Option Reporting
reporting_in asked = option_map (λ reporting. reporting.now) asked.reporting

-- what is requested for later merges, if anything is
abbrev pub upkeep_in : Asked → Option Upkeep
upkeep_in asked = option_map (λ upkeep. upkeep.now) asked.upkeep

-- which hits are accepted, if not all are
abbrev pub choice_in : Asked → Option Choosing
choice_in asked = option_map (λ choosing. choosing.now) asked.choice
