-- Which names in the arguments clash.
use Rattle.std.specs.Prelude.{Bool, List, [], ◌∷◌, Option, Some, None, ◌&&◌, ◌||◌, length, map, not, is_some, true, false, codes, bytes_eq, nat_eq, if◌then◌else◌}
use Rattle.std.specs.List.{list_any}
use Rattle.std.specs.Option.{option_map_or}
use Rattle.clap.specs.Words.{Text}
use Rattle.sarif_reports.specs.declared.report.Report.{Report}
use Rattle.sarif_reports.specs.declared.report.Report.TheVariants as report
use Rattle.sarif_request.specs.declared.clash.Clash.{Clash}
use Rattle.sarif_request.specs.declared.clash.Clash.TheVariants.{RepeatedLog, RepeatedBaseline, Streams, Suppressions, Policy, Diff, Outputs, Log, Inputs}
use Rattle.sarif_request.specs.declared.request.Request.{Request}
use Rattle.sarif_request.specs.declared.wanted.RequestedOutput.{RequestedOutput}

-- the names of the inputs, and of the outputs that are requested
pub record Names : Type 0 where
  pub logs : List Text
  pub baselines : List Text
  pub suppress : Option Text
  pub policy : Option Text
  pub diff : Option Text
  pub out : Text
  pub reports : List (RequestedOutput Text)

abbrev pub names_of : Request → Names
names_of request = record {
  logs = request.logs.items;
  baselines = request.baselines.items;
  suppress = request.suppress;
  policy = request.policy;
  diff = request.diff;
  out = request.out;
  reports = request.reports.items;
}

-- the word for standard input among the logs, and for standard output among the outputs
abbrev pub standard : Text
standard = codes "-"

-- the names of the other outputs, in the order in which these are written
abbrev pub report_names : Names → List Text
report_names names = map (λ wanted. wanted.to) names.reports

abbrev pub outputs_of : Names → List Text
outputs_of names = names.out ∷ report_names names

-- one of these has this name, byte for byte
abbrev pub is_among : Text → List Text → Bool
is_among name names = list_any (λ other. bytes_eq other name) names

-- the new suppression file may replace the suppression file
abbrev pub may_replace_suppressions : Report → Bool
may_replace_suppressions report.Suppressions = true
may_replace_suppressions _ = false

abbrev pub replaces_file : Text → RequestedOutput Text → Bool
replaces_file name wanted = not (may_replace_suppressions wanted.report) && bytes_eq wanted.to name

-- another output has the name of the suppression file
abbrev pub replaces_suppressions : Names → Bool
replaces_suppressions names = option_map_or
    (λ name. bytes_eq names.out name || list_any (replaces_file name) names.reports)
    names.suppress false

-- an output has the name of the policy
abbrev pub replaces_policy : Names → Bool
replaces_policy names =
    option_map_or (λ name. is_among name (outputs_of names)) names.policy false

-- an output has the name of the diff; standard input has no name
abbrev pub replaces_diff : Names → Bool
replaces_diff names =
    option_map_or (λ name. not (bytes_eq name standard) && is_among name (outputs_of names)) names.diff false

-- both a log and the diff are standard input
abbrev pub reads_twice : Names → Bool
reads_twice names =
    option_map_or (λ name. bytes_eq name standard && is_among name names.logs) names.diff false

-- the first of these names that a later one repeats
abbrev pub first_repeated : List Text → Option Text
first_repeated [] = None
first_repeated (name ∷ others) = if is_among name others then Some name else first_repeated others

-- two of these have one name
abbrev pub have_one_name : List Text → Bool
have_one_name names = is_some (first_repeated names)

-- the merged log has the name of a log; standard output has no name
abbrev pub replaces_log : Names → Bool
replaces_log names = not (bytes_eq names.out standard) && is_among names.out names.logs

-- the known log may replace the baseline if there is only one
abbrev pub may_replace_baseline : Names → Report → Bool
may_replace_baseline names report.Known = nat_eq (length names.baselines) 1
may_replace_baseline names _ = false

-- an output besides the merged log has the name of a log, or of a baseline that it may not replace; standard output has
-- no name
abbrev pub replaces_input : Names → RequestedOutput Text → Bool
replaces_input names wanted = not (bytes_eq wanted.to standard)
    && (is_among wanted.to names.logs
    || (is_among wanted.to names.baselines && not (may_replace_baseline names wanted.report)))

abbrev pub replaces_inputs : Names → Bool
replaces_inputs names = list_any (replaces_input names) names.reports

-- why the name of an output clashes with another name, if it does
abbrev pub output_clash : Names → Option Clash
output_clash names =
    if replaces_suppressions names then Some Suppressions else (
    if replaces_policy names then Some Policy else (
    if replaces_diff names then Some Diff else (
    if have_one_name (outputs_of names) then Some Outputs else (
    if replaces_log names then Some Log else (
    if replaces_inputs names then Some Inputs else (
    None))))))

-- why the names clash, if they do
abbrev pub clash_of : Names → Option Clash
clash_of names =
    if have_one_name names.logs then Some RepeatedLog else (
    if have_one_name names.baselines then Some RepeatedBaseline else (
    if reads_twice names then Some Streams else (
    output_clash names)))
