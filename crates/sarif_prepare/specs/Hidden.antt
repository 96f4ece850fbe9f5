-- Which results of logs are hidden from a gate that checks a change.
use Rattle.std.specs.Prelude.{not, Bool, List, map, option_map, Option}
use Rattle.std.specs.List.{flat_map}
use Rattle.sarif_accept.specs.Choosing.{Marks}
use Rattle.sarif_entries.specs.File.{File}
use Rattle.sarif_log.specs.LogBy.{limited_records, listing_of}
use Rattle.sarif_model.specs.Run.{results_of}
use Rattle.sarif_outside.specs.Marks.{outside_marks}
use Rattle.sarif_results.specs.Drafts.{applied_of, drafts_by}
use Rattle.sarif_results.specs.declared.draft.Draft.{Draft}
use Rattle.sarif_runs.specs.Judging.{run_values}
use Rattle.sarif_runs.specs.Placed.{Placed}
use Rattle.sarif_scope.specs.declared.gated.GatedChange.{GatedChange}

-- whether each of these results is active
abbrev pub active_of : List Draft → List Bool
active_of drafts = map (λ draft. not draft.suppressed) drafts

-- the drafts of all results of these runs, which say whether each is active once the suppression file is applied
abbrev pub drafts_of : File → List Placed → List Draft
drafts_of file current =
    drafts_by (listing_of file) (applied_of file) (limited_records file current)
    (flat_map results_of (run_values current))

-- which results of these runs are active, and outside of the change if there is one
abbrev pub hidden_by : Option GatedChange → File → List Placed → Marks
hidden_by change file current =
    option_map (λ c. outside_marks c current (active_of (drafts_of file current))) change
