-- The request that is served if a standard stream is a terminal.
use Rattle.std.specs.Prelude.{Bool, List, [], ◌∷◌, ◌++◌, ◌||◌, ◌&&◌, false, not, Option, Some, None, if◌then◌else◌}
use Rattle.std.specs.Option.{option_map_or}
use Rattle.clap.specs.Words.{Text}
use Rattle.sarif_reports.specs.declared.report.Report.TheVariants.{Terminal}
use Rattle.sarif_shown.specs.declared.terminal_lines.Screen.{Screen}
use Rattle.sarif_shown.specs.declared.terminal_lines.Screen.TheVariants.{Plain, Coloured}
use Rattle.sarif_request.specs.declared.request.Request.{Request}
use Rattle.sarif_request.specs.declared.terminal.TerminalFacts.{TerminalFacts}
use Rattle.sarif_request.specs.declared.wanted.RequestedOutput.{RequestedOutput}
use Rattle.sarif_request.specs.Names.{is_among, names_of, outputs_of, standard}

-- no standard stream is a terminal
abbrev pub no_terminal : TerminalFacts
no_terminal = record { out = false; err = false; plain = false }

-- one of the outputs is standard output
abbrev pub uses_output : Request → Bool
uses_output request = is_among standard (outputs_of (names_of request))

-- how a terminal shows the hits
abbrev pub screen_by : TerminalFacts → Screen
screen_by facts = if facts.plain then Plain else Coloured

-- how standard output shows the hits, if it is a terminal and no output uses it
abbrev pub screen_of : TerminalFacts → Request → Option Screen
screen_of facts request =
    if facts.out && not (uses_output request) then Some (screen_by facts) else None

-- errors are explained, and notes follow a merge, if this is requested or standard error is a terminal; standard output
-- shows the hits if it is a terminal and is not used otherwise
abbrev pub at_terminal : TerminalFacts → Request → Request
at_terminal facts request = record request {
  explain = request.explain || facts.err;
  screen = screen_of facts request;
}

-- what standard output shows, as the last output
abbrev pub shown_on : Option Screen → List (RequestedOutput Text)
shown_on screen = option_map_or
    (λ how. record { report = Terminal how; to = standard } ∷ []) screen []

-- all outputs besides the merged log, in the order in which they are written
abbrev pub outputs_in : Request → List (RequestedOutput Text)
outputs_in request = request.reports.items ++ shown_on request.screen
