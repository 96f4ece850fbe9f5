-- What a request names: its sources and its outputs.
use Rattle.std.specs.Prelude.{◌≡◌, ◌&&◌, ◌||◌, ℕ, List, Bool, true, false, map, option_map, codes, bytes_eq}
use Rattle.std.specs.List.{list_any}
use Rattle.sarif_program.specs.declared.writers.Writers.{Writers}
use Rattle.sarif_reports.specs.Report.{is_for_merges}
use Rattle.sarif_request.specs.declared.request.Request.{Request}
use Rattle.sarif_request.specs.declared.wanted.RequestedOutput.{RequestedOutput}
use Rattle.sarif_request.specs.Terminal.{outputs_in}
use Rattle.sarif_streams.specs.declared.counted.Counted.{Counted}
use Rattle.sarif_streams.specs.declared.input.Input.{Input}
use Rattle.sarif_streams.specs.declared.kept.Kept.{Kept}
use Rattle.sarif_streams.specs.declared.readers.Readers.{Readers}
use Rattle.sarif_streams.specs.declared.target.Console.{Console}
use Rattle.sarif_streams.specs.declared.target.Console.TheVariants.{Output, Error}
use Rattle.sarif_streams.specs.declared.target.Target.{Target}
use Rattle.sarif_streams.specs.Counted.{inner_of}
use Rattle.sarif_streams.specs.Internal.Kept.{kept_in}
use Rattle.sarif_streams.specs.Named.{Channel, Named, channel_named, input_channel, target_channel}

-- what a source is read from
abbrev pub source_channel : {R I F D : Type 0} → Counted (Kept (Input R I F D)) → Channel
source_channel source = input_channel (kept_in (inner_of source))

-- what an output is written to
abbrev pub output_channel : {R O F D : Type 0} → Counted (Kept (Target R O F D)) → Channel
output_channel output = target_channel (kept_in (inner_of output))

-- what another output is written to
abbrev pub report_channel : {R O F D : Type 0}
    → RequestedOutput (Counted (Kept (Target R O F D))) → RequestedOutput Channel
report_channel output = record { report = output.report; to = output_channel output.to }

-- what a request names for another output
abbrev pub report_named : RequestedOutput (List ℕ) → RequestedOutput Channel
report_named wanted = record { report = wanted.report; to = channel_named wanted.to }

-- whether an output that a later merge reads is standard output, where it has to be alone
abbrev pub takes_output : RequestedOutput (List ℕ) → Bool
takes_output wanted = is_for_merges wanted.report && bytes_eq wanted.to (codes "-")

abbrev pub leaves_no_output : Request → Bool
leaves_no_output request =
    bytes_eq request.out (codes "-") || list_any takes_output request.reports.items

-- whether the summary goes to standard error
abbrev pub is_error : {O E : Type 0} → Console O E → Bool
is_error (Output output) = false
is_error (Error error) = true

-- each source and each output is what the request names, in the place where it names it; `-` is a standard stream as
-- a log, as the diff and as an output, and a file as a baseline, as the suppression file and as the policy
pub record AreNamed {R I F D O E : Type 0} (request : Request)
    (readers : Readers (Kept (Input R I F D)))
    (writers : Writers (Kept (Target R O F D)) (Console O E) (Kept (Target R O F D)))
    : Type 0 where
  pub logs : map source_channel readers.logs.items ≡ map channel_named request.logs.items
  pub baselines : map source_channel readers.baselines.items ≡ map Named request.baselines.items
  pub suppressions : option_map source_channel readers.suppressions
      ≡ option_map Named request.suppress
  pub policy : option_map source_channel readers.policy ≡ option_map Named request.policy
  pub diff : option_map source_channel readers.diff ≡ option_map channel_named request.diff
  pub out : output_channel writers.out ≡ channel_named request.out
  pub reports : map report_channel writers.reports.items ≡ map report_named (outputs_in request)
  pub say : is_error (inner_of writers.say) ≡ leaves_no_output request
