-- The merge whose accepted hits are chosen by place and by rule, as the text report prints them.
use Rattle.std.specs.Prelude.{ℕ, Bool, false, not, ◌&&◌, List, [], ◌∷◌, Option, Some, None, codes, drop, flat_map, length, map, option_map, take}
use Rattle.std.specs.List.{count_by}
use Rattle.std.specs.Option.{option_map_or}
use Rattle.serde_json.specs.Data.{Data}
use Rattle.sarif_accept.specs.Choosing.{Marks}
use Rattle.sarif_choice.specs.Choice.{is_chosen, unfit_of}
use Rattle.sarif_choice.specs.declared.choice.Choice.{Choice}
use Rattle.sarif_choice.specs.declared.choice.Unfit.{Unfit}
use Rattle.sarif_choice.specs.declared.choice.Unfit.TheVariants as unfit
use Rattle.sarif_conditions.specs.declared.decided.Decided.{Decided}
use Rattle.sarif_counts.specs.Impacts.{is_hit}
use Rattle.sarif_counts.specs.declared.gate_verdict.Impact.{Impact}
use Rattle.sarif_deciding.specs.Matched.{Matched}
use Rattle.sarif_entries.specs.File.{File}
use Rattle.sarif_findings.specs.Lookup.{elements_in}
use Rattle.sarif_findings.specs.Reported.{finding_if}
use Rattle.sarif_findings.specs.declared.reporting.Reporting.{Reporting}
use Rattle.sarif_findings.specs.declared.reporting.Show.TheVariants.{Hits}
use Rattle.sarif_log.specs.LogBy.{current_runs, runs_by}
use Rattle.sarif_known.specs.declared.standing.Standing.{Standing}
use Rattle.sarif_model.specs.declared.merge_fault.At.{At}
use Rattle.sarif_model.specs.declared.merge_fault.At.TheVariants.{Place, Rule}
use Rattle.sarif_options.specs.declared.checks.Checks.{Checks}
use Rattle.sarif_options.specs.declared.policy.Policy.{Policy}
use Rattle.sarif_outside.specs.Marks.{both}
use Rattle.sarif_policy.specs.declared.condition.GateCondition.{GateCondition}
use Rattle.sarif_prepare.specs.Kept.{merge_of}
use Rattle.sarif_prepare.specs.Ruled.{decided_by, matched_in}
use Rattle.sarif_prepare.specs.Told.{any_policy, of_all, told_in}
use Rattle.sarif_choice.specs.declared.choice.Choosing.{Choosing}
use Rattle.sarif_runs.specs.Placed.{Placed}
use Rattle.sarif_scope.specs.Inside.{is_inside}
use Rattle.sarif_scope.specs.declared.gated.GatedChange.{GatedChange}
use Rattle.sarif_upkeep.specs.Merge.{Merge}

-- the text report of the hits alone
abbrev pub hits_alone : Policy → List (List ℕ) → Reporting
hits_alone policy roots = record { policy = policy; show = Hits; roots = roots }

-- the result of this run of a merged log is a hit that is chosen; with a change, one that is inside
abbrev pub is_marked : Option GatedChange → Reporting → Choice → Data → Data → Bool
is_marked None reporting choice run result =
    option_map_or (is_chosen choice) (finding_if reporting run result) false
is_marked (Some change) reporting choice run result =
    is_inside change run result
    && option_map_or (is_chosen choice) (finding_if reporting run result) false

-- which results of these runs are chosen hits
abbrev pub marks_in : Option GatedChange → Reporting → Choice → List Data → List Bool
marks_in change reporting choice runs =
    flat_map (λ run. map (is_marked change reporting choice run) (elements_in (codes "results") run))
    runs

-- where a place or a rule of the choice is
abbrev pub at_of : Unfit → At
at_of (unfit.Place n) = Place n
at_of (unfit.Rule n) = Rule n

-- the merge with these chosen results, and with this place or rule that fits none
abbrev pub with_choice : Merge → Marks → Option At → Merge
with_choice m marks misfit = record m { chosen = marks; misfit = misfit }

-- the merge of these input runs and baseline runs, matched by the version of these checks, and whether copies don't count;
-- then the runs are without them
abbrev pub checked_merge : Checks → File → Option (List ℕ) → Option GatedChange → Policy
    → List Placed → List Placed → Merge
checked_merge checks file bytes change policy current baseline =
    record (merge_of checks file bytes change policy current baseline) { once = checks.once }

-- ---- with conditions of a policy

-- a result that does this to the gate is a hit
abbrev pub is_hit_by : Option Impact → Bool
is_hit_by None = false
is_hit_by (Some impact) = is_hit impact

abbrev pub is_no_hit : Option Impact → Bool
is_no_hit impact = not (is_hit_by impact)

-- which of the first n results are hits, and which aren't; these are the results of logs
abbrev pub hits_among : ℕ → Decided → List Bool
hits_among n decided = map is_hit_by (take n decided.impacts)

abbrev pub others_among : ℕ → Decided → List Bool
others_among n decided = map is_no_hit (take n decided.impacts)

-- how many of the other results, which are absent, are hits
abbrev pub absent_among : ℕ → Decided → ℕ
absent_among n decided = count_by is_hit_by (drop n decided.impacts)

-- these standings, with whether each result is a hit or would be one inside the change
abbrev pub with_hits : List Standing → List Bool → List Standing
with_hits [] hits = []
with_hits (standing ∷ standings) [] = []
with_hits (standing ∷ standings) (hit ∷ hits) =
    record standing { would_hit = Some hit } ∷ with_hits standings hits

-- the merge whose hits are those of conditions, if conditions decide, instead of those of the options
abbrev pub ruled_merge : Option Decided → Merge → Merge
ruled_merge None m = m
ruled_merge (Some decided) m =
    record m {
      policy = any_policy;
      hidden = Some (others_among (length m.records) decided);
      absent = Some (absent_among (length m.records) decided);
      standings = with_hits m.standings (take (length m.records) decided.known);
    }

-- which results of these runs are chosen hits; if conditions decide, hits of theirs
abbrev pub marks_by : Option Decided → Option GatedChange → Reporting → Choice → List Data
    → List Bool
marks_by None change reporting choice runs = marks_in change reporting choice runs
marks_by (Some decided) change reporting choice runs =
    let marks = marks_in None (of_all reporting) choice runs in
    both (hits_among (length marks) decided) marks

-- the first place or rule that fits no chosen hit; with conditions, no hit of theirs
abbrev pub misfit_by : Option (List GateCondition) → Matched → Reporting → Choice → List Data
    → Option At
misfit_by conditions m reporting choice runs =
    option_map at_of (unfit_of choice (told_in conditions m (Some reporting) runs))

-- ---- the merge

-- the merge with what these conditions decide, if there are some, and with the choice, if there is one
abbrev pub chosen_merge : Option (List GateCondition) → Checks → File → Option (List ℕ)
    → Option GatedChange → Policy → Option Choosing → List Placed → List Placed → Merge
chosen_merge conditions checks file bytes change policy None current baseline =
    ruled_merge (decided_by conditions (matched_in checks.matching file change current baseline))
    (checked_merge checks file bytes change policy current baseline)
chosen_merge conditions checks file bytes change policy (Some choosing) current baseline =
    let m = matched_in checks.matching file change current baseline in
    let hits = hits_alone policy choosing.roots in
    with_choice (ruled_merge (decided_by conditions m)
    (checked_merge checks file bytes change policy current baseline))
    (Some (marks_by (decided_by conditions m) change hits choosing.choice
    (current_runs checks.matching file current baseline)))
    (misfit_by conditions m hits choosing.choice (runs_by checks.matching file current baseline))
