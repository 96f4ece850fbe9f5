-- The merge of the same inputs with the new suppression file.
use Rattle.std.specs.Prelude.{◌≡◌, ℕ, List, Some, slice_get, slice_index_or}
use Rattle.serde_json.specs.Data.{Data, null}
use Rattle.json_parts.specs.Indexed.{json_of}
use Rattle.json_parts.specs.Mark.{without_mark}
use Rattle.sarif_model.specs.declared.record.Record.{Record}
use Rattle.sarif_model.specs.Run.{result_at}
use Rattle.sarif_options.specs.declared.policy.Policy.{Policy}
use Rattle.sarif_options.specs.declared.upkeep.Renewal.{Renewal}
use Rattle.sarif_entries.specs.declared.entry.Entry.{Entry}
use Rattle.sarif_entries.specs.Matching.{matches}
use Rattle.sarif_entries.specs.Numbering.{with_number}
use Rattle.sarif_inputs.specs.Inputs.{Inputs, baseline_runs, input_runs}
use Rattle.sarif_log.specs.LogBy.{leftover_runs}
use Rattle.sarif_merge.specs.Life.{merge_in}
use Rattle.sarif_merge.specs.MergedLog.{file_given, limited_of, runs_written}
use Rattle.sarif_upkeep.specs.Renewed.{rules_after}

-- the same inputs with this suppression file; records have regions and snippets as before
abbrev pub with_file : Inputs → List ℕ → Inputs
with_file inputs text = record inputs { suppressions = Some text }

-- the text is read as the new suppression file of the merge of these inputs
abbrev pub IsNewFileOf : Inputs → Policy → Renewal → List ℕ → Type 0
IsNewFileOf inputs policy renewal text =
    json_of (without_mark text) ≡ Some (rules_after (merge_in inputs policy) renewal)

-- an entry that both suppression files have, one as entry n and the other as entry m, matches the same results in the
-- merge of these inputs and in that with the other file
abbrev pub KeepsMatches : Inputs → List ℕ → Type 0
KeepsMatches inputs text =
    (i n m : ℕ) (e : Entry) (before after : Record)
    → slice_get (file_given inputs).entries n ≡ Some e
    → slice_get (file_given (with_file inputs text)).entries m ≡ Some (with_number m e)
    → slice_get (limited_of inputs) i ≡ Some before
    → slice_get (limited_of (with_file inputs text)) i ≡ Some after
    → matches (file_given inputs).today (with_number m e) after
    ≡ matches (file_given inputs).today e before

-- run k of the merged log
abbrev pub merged_run_at : Inputs → ℕ → Data
merged_run_at inputs k = slice_index_or (runs_written inputs) k null

-- result seq of run k of the merged log
abbrev pub merged_result : Inputs → ℕ → ℕ → Data
merged_result inputs k seq = result_at (merged_run_at inputs k) seq

-- the runs of the merged log with the absent results
abbrev pub absent_written : Inputs → List Data
absent_written inputs =
    leftover_runs inputs.checks.matching (input_runs inputs) (baseline_runs inputs)
