-- What users read about options that do not go together, and about names that clash.
use Rattle.std.specs.Prelude.{List, [], ◌∷◌, ◌++◌, Bool, true, false, ◌&&◌, find, map, not, codes, bytes_eq, Option, if◌then◌else◌}
use Rattle.std.specs.Option.{option_map_or}
use Rattle.clap.specs.Words.{Text}
use Rattle.sarif_reports.specs.declared.report.Report.{Report}
use Rattle.sarif_reports.specs.declared.report.Report.TheVariants as report
use Rattle.sarif_reports.specs.Report.{report_name}
use Rattle.sarif_request.specs.declared.clash.Clash.{Clash}
use Rattle.sarif_request.specs.declared.clash.Clash.TheVariants as clash
use Rattle.sarif_request.specs.declared.clash.Output.{Output}
use Rattle.sarif_request.specs.declared.together.Misfit.{Misfit}
use Rattle.sarif_request.specs.declared.together.Misfit.TheVariants as misfit
use Rattle.sarif_request.specs.declared.wanted.RequestedOutput.{RequestedOutput}
use Rattle.sarif_request.specs.Names.{Names, first_repeated, is_among, replaces_file, replaces_input, standard}

-- an option is given without the one that it needs
abbrev pub needs : Text → Text → Text
needs option needed = codes "--" ++ (option ++ (codes " needs --" ++ needed))

-- an option is given with a policy, whose conditions have their own of this name
abbrev pub not_with_policy : Text → Text → Text
not_with_policy option own = codes "--"
    ++ (option ++ (codes " and --policy cannot be used together: each condition has its own " ++ own))

-- why options do not go together
abbrev pub misfit_text : Misfit → Text
misfit_text misfit.AcceptNeedsFile = needs (codes "accept") (codes "suppress-out")
misfit_text misfit.PruneNeedsFile = needs (codes "prune") (codes "suppress-out")
misfit_text misfit.FileNeedsChange = codes "--suppress-out needs --accept, --prune or both"
misfit_text misfit.PruneNeedsEntries = needs (codes "prune") (codes "suppress")
misfit_text misfit.ReasonNeedsAccept = needs (codes "reason") (codes "accept")
misfit_text misfit.PlaceNeedsAccept = needs (codes "at") (codes "accept")
misfit_text misfit.RuleNeedsAccept = needs (codes "rule") (codes "accept")
misfit_text misfit.UnusedNeedsEntries = needs (codes "unused") (codes "suppress")
misfit_text misfit.KnownWithAccept =
    codes "--known and --accept cannot be used together: the next merge knows what was accepted"
misfit_text misfit.AdoptNeedsKnown = needs (codes "adopt") (codes "known")
misfit_text misfit.UntilNeedsAccept = needs (codes "until") (codes "accept")
misfit_text misfit.UntilNeedsToday = needs (codes "until") (codes "today")
misfit_text misfit.UntilIsNoDate =
    codes "invalid value for '--until <YYYYMMDD>': "
    ++ codes "expected a date as YYYYMMDD, for example 20251128"
misfit_text misfit.UntilIsPast = codes "the date of --until is before the date of --today"
misfit_text misfit.ScopeNeedsDiff = needs (codes "diff-scope") (codes "diff")
misfit_text misfit.AbsentWithDiff =
    codes "--states with absent and --diff cannot be used together: "
    ++ codes "no change has an absent result"
misfit_text misfit.LevelWithPolicy = not_with_policy (codes "fail-on") (codes "level")
misfit_text misfit.StatesWithPolicy = not_with_policy (codes "states") (codes "states")
misfit_text misfit.LimitWithPolicy = not_with_policy (codes "max") (codes "max")
misfit_text misfit.ScopeWithPolicy = not_with_policy (codes "diff-scope") (codes "diff")

-- two inputs have one name
abbrev pub is_repeat : Clash → Bool
is_repeat clash.RepeatedLog = true
is_repeat clash.RepeatedBaseline = true
is_repeat _ = false

-- the first name that a later one repeats, or nothing
abbrev pub repeated_name : List Text → Text
repeated_name names = option_map_or (λ name. name) (first_repeated names) []

-- this log is passed twice
abbrev pub repeated_log_text : Text → Text
repeated_log_text name =
    if bytes_eq name standard then codes "standard input (-) can be only one of the logs" else
    codes "the log " ++ (name ++ codes " is passed twice")

-- this baseline is passed twice
abbrev pub repeated_baseline_text : Text → Text
repeated_baseline_text name = codes "the baseline " ++ (name ++ codes " is passed twice")

-- the output of this option would overwrite a file that is called so, of this name
abbrev pub overwrites : Text → Text → Text → Text
overwrites option what name =
    codes "--" ++ (option ++ (codes " would overwrite the " ++ (what ++ (codes " " ++ name))))

-- the option of the first output that would overwrite the suppression file of this name
abbrev pub replacing_option : Text → Names → Text
replacing_option name names =
    if bytes_eq names.out name then codes "out" else
    option_map_or (λ wanted. report_name wanted.report) (find (replaces_file name) names.reports) (codes "out")

-- the option of the first output with this name
abbrev pub naming_option : Text → Names → Text
naming_option name names =
    if bytes_eq names.out name then codes "out" else
    option_map_or (λ wanted. report_name wanted.report)
    (find (λ wanted. bytes_eq wanted.to name) names.reports) (codes "out")

-- an output would overwrite this other input file, if there is one, which is called so
abbrev pub input_file_text : Text → Option Text → Names → Text
input_file_text called file names =
    let name = option_map_or (λ name. name) file [] in
    overwrites (naming_option name names) called name

-- an output would overwrite the suppression file
abbrev pub suppressions_text : Names → Text
suppressions_text names =
    let name = option_map_or (λ name. name) names.suppress [] in
    overwrites (replacing_option name names) (codes "suppression file") name

-- an output: the name of its option, and that of its file
pub record Named : Type 0 where
  pub option : Text
  pub file : Text

abbrev pub named : Output → Named
named output = record { option = output.option.now; file = output.file.now }

abbrev pub merged : Names → Named
merged names = record { option = codes "out"; file = names.out }

abbrev pub wanted_one : RequestedOutput Text → Named
wanted_one wanted = record { option = report_name wanted.report; file = wanted.to }

-- the merged log and then the others
abbrev pub named_outputs : Names → List Named
named_outputs names = merged names ∷ map wanted_one names.reports

-- the other output has the same file
abbrev pub share_file : Named → Named → Bool
share_file one other = not (bytes_eq one.option other.option) && bytes_eq one.file other.file

-- the outputs of these options are both standard output
abbrev pub both_standard_text : Text → Text → Text
both_standard_text one other = codes "--" ++ (one ++ (codes " and --" ++ (other
    ++ codes " both write to standard output (-); only one output can")))

-- the outputs of these options are both this file
abbrev pub both_file_text : Text → Text → Text → Text
both_file_text one other file = codes "--" ++ (one ++ (codes " and --" ++ (other
    ++ (codes " both write to " ++ (file ++ codes "; each output needs its own file")))))

-- two outputs have one file
abbrev pub two_outputs_text : Named → Named → Text
two_outputs_text one other =
    if bytes_eq one.file standard then both_standard_text one.option other.option else
    both_file_text one.option other.option one.file

-- the first of these that shares its file with one of all outputs
abbrev pub outputs_text : List Named → List Named → Text
outputs_text all [] = codes "two outputs have the same name"
outputs_text all (one ∷ others) =
    option_map_or (two_outputs_text one) (find (share_file one) all) (outputs_text all others)

-- two outputs have one name
abbrev pub first_shared_text : Names → Text
first_shared_text names = outputs_text (named_outputs names) (named_outputs names)

-- the known log may overwrite the only baseline
abbrev pub baseline_text : Report → Text → Text
baseline_text report.Known told = told ++ codes ", which is not the only baseline"
baseline_text _ told = told

-- this output would overwrite a log or a baseline
abbrev pub input_text : Names → RequestedOutput Text → Text
input_text names wanted =
    let option = report_name wanted.report in
    if is_among wanted.to names.logs then overwrites option (codes "log") wanted.to else
    baseline_text wanted.report (overwrites option (codes "baseline") wanted.to)

-- the first output that would overwrite a log or a baseline
abbrev pub inputs_text : Names → Text
inputs_text names = option_map_or (input_text names) (find (replaces_input names) names.reports)
    (codes "an output would overwrite a log or a baseline")

-- why names clash
abbrev pub clash_text : Clash → Names → Text
clash_text clash.RepeatedLog names = repeated_log_text (repeated_name names.logs)
clash_text clash.RepeatedBaseline names = repeated_baseline_text (repeated_name names.baselines)
clash_text clash.Streams names = codes "standard input (-) can be only one of the logs and --diff"
clash_text clash.Suppressions names = suppressions_text names
clash_text clash.Policy names = input_file_text (codes "policy") names.policy names
clash_text clash.Diff names = input_file_text (codes "diff") names.diff names
clash_text clash.Outputs names = first_shared_text names
clash_text clash.Log names = overwrites (codes "out") (codes "log") names.out
clash_text clash.Inputs names = inputs_text names
