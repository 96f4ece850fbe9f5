-- If all runs pass without external property files being allowed, a merge is the same if they are allowed.
use Rattle.std.proofs.Common.{◌≡◌, ℕ, true, false, List, [], ◌∷◌, Option, Some, None, refl, sym, ap, ◌∙◌}
use Rattle.std.specs.List.{AllByRecursion}
use Rattle.serde_json.specs.Data.{Data}
use Rattle.serde_json.specs.Written.{compact_text}
use Rattle.json_parts.specs.Indexed.{json_of}
use Rattle.json_parts.specs.Mark.{without_mark}
use Rattle.sarif_options.specs.declared.policy.Policy.{Policy}
use Rattle.sarif_read.specs.Stripping.{stripped}
use Rattle.sarif_read.proofs.External.{same_runs}
use Rattle.sarif_read.proofs.LogText.{log_of_text, log_of_none}
use Rattle.sarif_inputs.specs.Internal.Allowing.{IsReadAlike, allowing}
use Rattle.sarif_inputs.specs.Faults.{faults_of}
use Rattle.sarif_inputs.specs.Inputs.{Inputs, baseline_runs, input_runs}
use Rattle.sarif_inputs.proofs.AllowedAlike.{all_alike, baseline_alike, current_alike}
use Rattle.sarif_prepare.specs.By.{logged_by}
use Rattle.sarif_prepare.specs.Kept.{merge_of}
use Rattle.sarif_merge.specs.Life.{merge_in}
use Rattle.sarif_merge.specs.MergedLog.{change_given, conditions_given, file_given, merged_log, output_text}
use Rattle.sarif_laws_external.specs.Fileless.{AreFileless, IsFileless}

read_alike : (bytes : List ℕ) → IsFileless bytes → IsReadAlike bytes
read_alike bytes fileless = by (json_of (without_mark bytes)) refl
  where
    by : (found : Option Data) → json_of (without_mark bytes) ≡ found → IsReadAlike bytes
    by None is = log_of_none true bytes is ∙ sym (log_of_none false bytes is)
    by (Some value) is =
        log_of_text true bytes value is ∙ same_runs (stripped value) (fileless value is) ∙ sym (log_of_text false bytes value is)

all_read_alike : (sources : List (List ℕ)) → AllByRecursion IsFileless sources → AllByRecursion IsReadAlike sources
all_read_alike [] fileless = tt
all_read_alike (bytes ∷ rest) fileless = (read_alike bytes fileless.0, all_read_alike rest fileless.1)

pub faults_alike : (inputs : Inputs) → AreFileless inputs → faults_of (allowing true inputs) ≡ faults_of (allowing false inputs)
faults_alike inputs fileless =
    all_alike inputs (all_read_alike inputs.logs fileless.logs) (all_read_alike inputs.baselines fileless.baselines)

current : (inputs : Inputs) → AreFileless inputs → input_runs (allowing true inputs) ≡ input_runs (allowing false inputs)
current inputs fileless = current_alike inputs (all_read_alike inputs.logs fileless.logs)

baseline : (inputs : Inputs) → AreFileless inputs → baseline_runs (allowing true inputs) ≡ baseline_runs (allowing false inputs)
baseline inputs fileless = baseline_alike inputs (all_read_alike inputs.baselines fileless.baselines)

pub log_alike : (inputs : Inputs) (policy : Policy) → AreFileless inputs → merged_log (allowing true inputs) policy ≡ merged_log (allowing false inputs) policy
log_alike inputs policy fileless =
    λ i. logged_by inputs.checks (file_given inputs) (current inputs fileless i) (baseline inputs fileless i)
    (change_given inputs) policy (conditions_given inputs)

pub text_alike : (inputs : Inputs) (policy : Policy) → AreFileless inputs
    → output_text (allowing true inputs) policy ≡ output_text (allowing false inputs) policy
text_alike inputs policy fileless = ap compact_text (log_alike inputs policy fileless)

pub later_alike : (inputs : Inputs) (policy : Policy) → AreFileless inputs → merge_in (allowing true inputs) policy ≡ merge_in (allowing false inputs) policy
later_alike inputs policy fileless =
    λ i. merge_of inputs.checks (file_given inputs) inputs.suppressions (change_given inputs) policy (current inputs fileless i) (baseline inputs fileless i)
