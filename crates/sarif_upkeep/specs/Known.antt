-- The known log of a merge.
use Rattle.std.specs.Prelude.{ℕ, ◌+◌, ◌-◌, ◌||◌, Bool, true, false, List, [], ◌∷◌, drop, length, map, nat_lt, take, Option, Some, if◌then◌else◌}
use Rattle.std.specs.List.{flat_map}
use Rattle.serde_json.specs.Data.{Data}
use Rattle.sarif_model.specs.declared.merge_fault.At.TheVariants.{Whole}
use Rattle.sarif_model.specs.declared.merge_fault.Cause.TheVariants.{TooLong}
use Rattle.sarif_model.specs.declared.merge_fault.MergeFault.{MergeFault}
use Rattle.sarif_model.specs.declared.merge_fault.Source.TheVariants as source
use Rattle.sarif_model.specs.declared.record.Record.{Record}
use Rattle.sarif_model.specs.Limits.{most_bytes}
use Rattle.sarif_model.specs.MergeFault.{fault_at}
use Rattle.sarif_model.specs.Run.{present, results_of}
use Rattle.sarif_model.specs.Driver.{tool_name}
use Rattle.sarif_counts.specs.declared.life.KnownLog.{KnownLog}
use Rattle.sarif_options.specs.declared.policy.Policy.{Policy}
use Rattle.sarif_options.specs.declared.upkeep.Knowing.{Knowing}
use Rattle.sarif_options.specs.declared.upkeep.Knowing.TheVariants.{Matched, Adopted}
use Rattle.sarif_copies.specs.Copies.{has_alike}
use Rattle.sarif_entries.specs.File.{File}
use Rattle.sarif_known.specs.Chosen.{results_among, run_as, Chosen}
use Rattle.sarif_known.specs.KnownLog.{known_text}
use Rattle.sarif_known.specs.Order.{known_runs}
use Rattle.sarif_known.specs.Selected.{kept_of, known_of}
use Rattle.sarif_known.specs.declared.standing.Standing.{Standing}
use Rattle.sarif_heard.specs.Heard.{heard}
use Rattle.sarif_upkeep.specs.Merge.{Merge}

-- whether new hits and new suppressed results become known too
abbrev pub adopts : Knowing → Bool
adopts Matched = false
adopts Adopted = true

-- for each input run the results that become known; the records and standings are those of all results
abbrev pub chosen_now : File → Policy → Bool → List Data → List Record → List Standing
    → List Chosen
chosen_now file policy adopt [] rs standings = []
chosen_now file policy adopt (run ∷ runs) rs standings =
    let n = length (results_of run) in
    record {
      tool = tool_name run;
      records = known_of file policy adopt (take n rs) (take n standings);
    }
    ∷ chosen_now file policy adopt runs (drop n rs) (drop n standings)

-- for each baseline run the results that stay known; the records and marks are those of all results that aren't absent
-- already
abbrev pub chosen_before : (Option (List ℕ) → Bool) → List Data → List Record → List Bool
    → List Chosen
chosen_before heard [] rs taken = []
chosen_before heard (run ∷ runs) rs taken =
    let n = length (present (results_of run)) in
    record {
      tool = tool_name run;
      records = kept_of (heard (Some (tool_name run))) (take n rs) (take n taken);
    }
    ∷ chosen_before heard runs (drop n rs) (drop n taken)

abbrev pub known_now : Merge → Bool → List Chosen
known_now m adopt = chosen_now m.file m.policy adopt m.runs m.records m.standings

-- the records of these runs, in order
abbrev pub records_among : List Chosen → List Record
records_among runs = flat_map (λ run. run.records) runs

-- which of these baseline results, with the marks of the matched ones, are matched or alike to one of these current results
abbrev pub matched_or_alike : List Record → List Record → List Bool → List Bool
matched_or_alike now [] taken = []
matched_or_alike now (r ∷ rs) [] = []
matched_or_alike now (r ∷ rs) (t ∷ taken) = (t || has_alike now r) ∷ matched_or_alike now rs taken

-- which baseline results don't stay known, regardless of their tools: the matched ones; and if copies aren't counted, those
-- that are alike to a current result that becomes known, since in the next baseline they would be its copies
abbrev pub gone_if : Bool → List Record → List Record → List Bool → List Bool
gone_if false now rs taken = taken
gone_if true now rs taken = matched_or_alike now rs taken

-- the results of the baselines that stay known, if each result is counted
abbrev pub known_before : Merge → List Chosen
known_before m = chosen_before (heard m.runs) m.before m.known m.taken

-- the results of the baselines that stay known
abbrev pub kept_before : Merge → Bool → List Chosen
kept_before m adopt =
    chosen_before (heard m.runs) m.before m.known
    (gone_if m.once (records_among (known_now m adopt)) m.known m.taken)

-- the runs of the known log, tool by tool; their records have regions and snippets only if the log has them
abbrev pub runs_known : Merge → Knowing → List Chosen
runs_known m knowing =
    map (run_as m.regions)
    (known_runs m.matching (known_now m (adopts knowing)) (kept_before m (adopts knowing)))

-- the known log, as it is given
abbrev pub remembered : Merge → Knowing → KnownLog
remembered m knowing =
    let now = results_among (known_now m (adopts knowing)) in
    let before = results_among (kept_before m (adopts knowing)) in
    record {
      text = known_text (runs_known m knowing);
      known = now + before;
      left_out = length m.records - now;
      kept = before;
    }

-- more bytes than a log may have, so that it could not be read again
abbrev pub known_faults : Merge → Knowing → List MergeFault
known_faults m knowing =
    if nat_lt most_bytes (length (known_text (runs_known m knowing)))
    then fault_at (Whole source.Known) TooLong ∷ [] else []
