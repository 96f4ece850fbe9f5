-- The merged log of runs that were read, and of a suppression file (SARIF 2.1.0, "sarifLog object").
use Rattle.std.specs.Prelude.{ℕ, ◌+◌, Bool, not, ◌&&◌, List, [], ◌∷◌, ◌++◌, map, length, count_by, is_some, slice_get, slice_index_or, Option, None, option_and_then}
use Rattle.std.specs.List.{range_with_len}
use Rattle.serde_json.specs.Data.{Data}
use Rattle.sarif_model.specs.declared.kinds.State.{State}
use Rattle.sarif_model.specs.declared.record.Record.{Record}
use Rattle.sarif_model.specs.Run.{results_array}
use Rattle.sarif_evidence.specs.declared.version.MatchingVersion.{MatchingVersion}
use Rattle.sarif_evidence.specs.Evidence.{state_in}
use Rattle.sarif_match.specs.Partners.{partners_in, is_taken}
use Rattle.sarif_entries.specs.File.{File}
use Rattle.sarif_entries.specs.Matching.{is_expired}
use Rattle.sarif_suppress.specs.Limited.{limited}
use Rattle.sarif_suppress.specs.Suppressing.{is_unused, unused_of}
use Rattle.sarif_suppress.specs.Written.{suppressions_of}
use Rattle.sarif_options.specs.declared.policy.Policy.{Policy}
use Rattle.sarif_counts.specs.CountOf.{count_of}
use Rattle.sarif_counts.specs.Gate.{gate_of}
use Rattle.sarif_runs.specs.Judging.{records_of, run_values}
use Rattle.sarif_runs.specs.Placed.{Placed}
use Rattle.sarif_log.specs.Log.{log_with}
use Rattle.sarif_results.specs.Drafts.{Listing}
use Rattle.sarif_log.specs.MergedRuns.{merged_runs, absent_runs}

-- ---- states

-- a match, by its number in the baseline
abbrev pub partner_in : List Record → Option ℕ → Option Record
partner_in bs partner = option_and_then (slice_get bs) partner

-- the baseline state of each of these current results in a version; the first has number n
abbrev pub states_from : MatchingVersion → List Record → List (Option ℕ) → ℕ → List Record
    → List State
states_from version bs partners n [] = []
states_from version bs partners n (r ∷ rs) =
    state_in version r (partner_in bs (slice_index_or partners n None))
    ∷ states_from version bs partners (n + 1) rs

-- the baseline state of each current result, by its match in the baseline
abbrev pub states_of : MatchingVersion → List Record → List Record → List State
states_of version cs bs = states_from version bs (partners_in version cs bs) 0 cs

-- whether each baseline result is the match of a current result
abbrev pub taken_of : MatchingVersion → List Record → List Record → List Bool
taken_of version cs bs =
    map (is_taken (partners_in version cs bs)) (range_with_len 0 (length bs))

-- ---- the log

-- the records of all results of runs, each with the entries of the file that admit it
abbrev pub limited_records : File → List Placed → List Record
limited_records file runs = limited file (records_of runs)

-- the suppressions of a current result: its own, and then what the file's entries add
abbrev pub listing_of : File → Listing
listing_of file r own = suppressions_of own file r

-- the input runs, each result with its level, its state in a version and its suppressions
abbrev pub current_runs : MatchingVersion → File → List Placed → List Placed → List Data
current_runs version file current baseline =
    merged_runs (listing_of file) (limited_records file current)
    (states_of version (records_of current) (records_of baseline)) (run_values current)

-- the baseline runs with a result that is unmatched in a version, with exactly these results
abbrev pub leftover_runs : MatchingVersion → List Placed → List Placed → List Data
leftover_runs version current baseline =
    absent_runs (records_of baseline)
    (taken_of version (records_of current) (records_of baseline)) (run_values baseline)

abbrev pub runs_by : MatchingVersion → File → List Placed → List Placed → List Data
runs_by version file current baseline =
    current_runs version file current baseline ++ leftover_runs version current baseline

-- how many of the runs have no results
abbrev pub runs_without_results : List Data → ℕ
runs_without_results runs = count_by (λ run. not (is_some (results_array run))) runs

-- how many of the entries that match none of the results are expired
abbrev pub expired_of : File → List Record → ℕ
expired_of file rs =
    count_by (λ e. is_unused file rs e && is_expired file.today e) file.entries

-- its gate counts the results in its runs
abbrev pub log_by : List Data → Policy → ℕ → ℕ → Data
log_by runs policy without unused = log_with (gate_of (count_of runs) policy without unused) runs

-- the log of these input runs, baseline runs and suppression file, matched by a version
abbrev pub merged_by : MatchingVersion → File → List Placed → List Placed → Policy → Data
merged_by version file current baseline policy =
    log_by (runs_by version file current baseline) policy
    (runs_without_results (run_values current)) (unused_of file (limited_records file current))
