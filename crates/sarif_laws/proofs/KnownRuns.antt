-- The runs that become known can be read again.
use Rattle.std.proofs.Common.{◌≡◌, ◌≤◌, ◌&&◌, ◌++◌, ℕ, zero, suc, Bool, true, false, not, List, [], ◌∷◌, length, map, take, drop, Option, Some, refl, sym, ap, subst, ◌∙◌, arith, if◌then◌else◌}
use Rattle.std.specs.Prelude.{bytes_eq}
use Rattle.std.specs.List.{AllByRecursion, flat_map}
use Rattle.std.proofs.Math.Seq.{take-append_seam, drop-append_seam}
use Rattle.sarif_log.proofs.Sides.{few_kept}
use Rattle.serde_json.specs.Data.{Data}
use Rattle.sarif_model.specs.declared.record.Record.{Record}
use Rattle.sarif_model.specs.Run.{is_absent_result, present, results_of, results_total}
use Rattle.sarif_model.specs.Driver.{tool_name}
use Rattle.sarif_options.specs.declared.policy.Policy.{Policy}
use Rattle.sarif_entries.specs.File.{File}
use Rattle.sarif_entries.specs.Matching.{is_empty}
use Rattle.sarif_runs.specs.Judging.{faults_of_runs, items_of, records_in, records_of, run_faults, run_values, skips}
use Rattle.sarif_runs.specs.Placed.{Placed}
use Rattle.sarif_results.proofs.JudgedCounts.{no_faults_here, no_faults_left, records_of_baseline, records_of_log}
use Rattle.sarif_evidence.specs.declared.version.MatchingVersion.{MatchingVersion}
use Rattle.sarif_evidence.specs.declared.version.MatchingVersion.TheVariants.{Two, Three}
use Rattle.sarif_runs.specs.declared.run_options.RecordOptions.{RecordOptions}
use Rattle.sarif_known.specs.Chosen.{Chosen, results_among}
use Rattle.sarif_known.specs.Laws.{IsOfTool}
use Rattle.sarif_known.specs.Order.{in_turn, known_runs, runs_of_tool, tools_of}
use Rattle.sarif_known.specs.declared.standing.Standing.{Standing}
use Rattle.sarif_known.specs.Selected.{is_left_out, keep_unless, kept_of, known_of, unmatched_of}
use Rattle.sarif_upkeep.specs.Known.{chosen_before, chosen_now}
use Rattle.sarif_upkeep.proofs.Taken.{kept_of_fewer, known_fewer}
use Rattle.sarif_suppress.specs.Limited.{with_admitted}
use Rattle.sarif_laws.specs.KnownAgain.{as_read}
use Rattle.sarif_laws.proofs.Lists.{all_append}
use Rattle.sarif_laws.proofs.OfTool.{IsSoundRun, own_records}

abbrev pub IsChosenSound : RecordOptions → Chosen → Type 0
IsChosenSound options run = AllByRecursion (IsOfTool options run.tool) run.records

-- so is each result, as it is read
abbrev pub IsChosenAgain : RecordOptions → Chosen → Type 0
IsChosenAgain options run = AllByRecursion (λ r. IsOfTool options run.tool (as_read r)) run.records

-- ---- the tools

module _ (P : Record → Type 0) where
  kept_unless : (gone : Bool) (r : Record) (rs : List Record) → P r → AllByRecursion P rs → AllByRecursion P (keep_unless gone r rs)
  kept_unless true r rs here rest = rest
  kept_unless false r rs here rest = (here, rest)

  known_sound : (file : File) (policy : Policy) (adopt : Bool) (rs : List Record) (states : List Standing) → AllByRecursion P rs
      → AllByRecursion P (known_of file policy adopt rs states)
  known_sound file policy adopt [] states all = tt
  known_sound file policy adopt (r ∷ rs) [] all = tt
  known_sound file policy adopt (r ∷ rs) (state ∷ states) all =
      kept_unless (is_left_out file policy adopt r state) r (known_of file policy adopt rs states) all.0 (known_sound file policy adopt rs states all.1)

  unmatched_sound : (rs : List Record) (taken : List Bool) → AllByRecursion P rs → AllByRecursion P (unmatched_of rs taken)
  unmatched_sound [] taken all = tt
  unmatched_sound (r ∷ rs) [] all = tt
  unmatched_sound (r ∷ rs) (t ∷ taken) all = kept_unless t r (unmatched_of rs taken) all.0 (unmatched_sound rs taken all.1)

  kept_sound : (heard : Bool) (rs : List Record) (taken : List Bool) → AllByRecursion P rs → AllByRecursion P (kept_of heard rs taken)
  kept_sound true rs taken all = tt
  kept_sound false rs taken all = unmatched_sound rs taken all

take_own : (xs ys : List Record) (n : ℕ) → length xs ≡ n → take n (xs ++ ys) ≡ xs
take_own xs ys n long = ap (λ m. take m (xs ++ ys)) (sym long) ∙ take-append_seam xs ys

drop_own : (xs ys : List Record) (n : ℕ) → length xs ≡ n → drop n (xs ++ ys) ≡ ys
drop_own xs ys n long = ap (λ m. drop m (xs ++ ys)) (sym long) ∙ drop-append_seam xs ys

module _ (P : Record → Type 0) where
  -- what is so of each result as it is read
  all_read : (rs : List Record) → AllByRecursion P (map as_read rs) → AllByRecursion (λ r. P (as_read r)) rs
  all_read [] all = tt
  all_read (r ∷ rs) all = (all.0, all_read rs all.1)

map_take : (n : ℕ) (rs : List Record) → map as_read (take n rs) ≡ take n (map as_read rs)
map_take zero rs = refl
map_take (suc n) [] = refl
map_take (suc n) (r ∷ rs) = ap (λ l. as_read r ∷ l) (map_take n rs)

map_drop : (n : ℕ) (rs : List Record) → map as_read (drop n rs) ≡ drop n (map as_read rs)
map_drop zero rs = refl
map_drop (suc n) [] = refl
map_drop (suc n) (r ∷ rs) = map_drop n rs

-- the records are those of the runs, apart from the entries that admit them
pub now_sound : (options : RecordOptions) (file : File) (policy : Policy) (adopt : Bool) (ps : List Placed) (rs : List Record) (states : List Standing)
    → map as_read rs ≡ records_of ps → faults_of_runs ps ≡ []
    → AllByRecursion (λ p. skips p.source ≡ false) ps → AllByRecursion (IsSoundRun options) ps
    → AllByRecursion (IsChosenAgain options) (chosen_now file policy adopt (run_values ps) rs states)
now_sound options file policy adopt [] rs states are sound logs all = tt
now_sound options file policy adopt (p ∷ ps) rs states are sound logs all =
    let n = length (results_of p.run) in
    let here = records_in (items_of p) in
    let rest = records_of ps in
    let long = records_of_log p logs.0 (no_faults_here (run_faults p) (faults_of_runs ps) sound) in
    let own : map as_read (take n rs) ≡ here = map_take n rs ∙ ap (take n) are ∙ take_own here rest n long in
    let others : map as_read (drop n rs) ≡ rest = map_drop n rs ∙ ap (drop n) are ∙ drop_own here rest n long in (
      known_sound (λ r. IsOfTool options (tool_name p.run) (as_read r)) file policy adopt (take n rs) (take n states)
          (all_read (IsOfTool options (tool_name p.run)) (take n rs)
          (subst (AllByRecursion (IsOfTool options (tool_name p.run))) (sym own) (own_records options p all.0))),
      now_sound options file policy adopt ps (drop n rs) (drop n states) others (no_faults_left (run_faults p) (faults_of_runs ps) sound) logs.1 all.1,
    )

pub before_sound : (options : RecordOptions) (heard : Option (List ℕ) → Bool) (ps : List Placed) (taken : List Bool) → faults_of_runs ps ≡ []
    → AllByRecursion (λ p. skips p.source ≡ true) ps → AllByRecursion (IsSoundRun options) ps
    → AllByRecursion (IsChosenSound options) (chosen_before heard (run_values ps) (records_of ps) taken)
before_sound options heard [] taken sound logs all = tt
before_sound options heard (p ∷ ps) taken sound logs all =
    let n = length (present (results_of p.run)) in
    let here = records_in (items_of p) in
    let rest = records_of ps in
    let long = records_of_baseline p logs.0 (no_faults_here (run_faults p) (faults_of_runs ps) sound) in (
      subst (λ rs. AllByRecursion (IsOfTool options (tool_name p.run)) (kept_of (heard (Some (tool_name p.run))) rs (take n taken))) (sym (take_own here rest n long))
          (kept_sound (IsOfTool options (tool_name p.run)) (heard (Some (tool_name p.run))) here (take n taken) (own_records options p all.0)),
      subst (λ rs. AllByRecursion (IsChosenSound options) (chosen_before heard (run_values ps) rs (drop n taken))) (sym (drop_own here rest n long))
          (before_sound options heard ps (drop n taken) (no_faults_left (run_faults p) (faults_of_runs ps) sound) logs.1 all.1),
    )

again_each : (options : RecordOptions) (tool : List ℕ) (rs : List Record) → AllByRecursion (IsOfTool options tool) rs
    → AllByRecursion (λ r. IsOfTool options tool (as_read r)) rs
again_each options tool [] all = tt
again_each options tool (r ∷ rs) all =
    (subst (IsOfTool options tool) (ap (with_admitted r) all.0.readable.unadmitted) all.0, again_each options tool rs all.1)

pub all_again : (options : RecordOptions) (runs : List Chosen) → AllByRecursion (IsChosenSound options) runs → AllByRecursion (IsChosenAgain options) runs
all_again options [] all = tt
all_again options (run ∷ runs) all = (again_each options run.tool run.records all.0, all_again options runs all.1)

-- ---- tool by tool

of_tool_sound : (options : RecordOptions) (runs : List Chosen) (tool : List ℕ) → AllByRecursion (IsChosenAgain options) runs → AllByRecursion (IsChosenAgain options) (runs_of_tool runs tool)
of_tool_sound options [] tool all = tt
of_tool_sound options (run ∷ runs) tool all =
    elim (bytes_eq run.tool tool && not (is_empty run.records)) as
    (λ b. AllByRecursion (IsChosenAgain options) (if b then run ∷ runs_of_tool runs tool else runs_of_tool runs tool))
    [ true ↦ (all.0, of_tool_sound options runs tool all.1) | false ↦ of_tool_sound options runs tool all.1 ]

of_tools_sound : (options : RecordOptions) (runs : List Chosen) (tools : List (List ℕ)) → AllByRecursion (IsChosenAgain options) runs
    → AllByRecursion (IsChosenAgain options) (flat_map (runs_of_tool runs) tools)
of_tools_sound options runs [] all = tt
of_tools_sound options runs (t ∷ ts) all =
    all_append (IsChosenAgain options) (runs_of_tool runs t) (flat_map (runs_of_tool runs) ts) (of_tool_sound options runs t all) (of_tools_sound options runs ts all)

in_turn_sound : (options : RecordOptions) (version : MatchingVersion) (current baseline : List Chosen) → AllByRecursion (IsChosenAgain options) current
    → AllByRecursion (IsChosenAgain options) baseline → AllByRecursion (IsChosenAgain options) (in_turn version current baseline)
in_turn_sound options Two current baseline now before = all_append (IsChosenAgain options) current baseline now before
in_turn_sound options Three current baseline now before = all_append (IsChosenAgain options) baseline current before now

pub grouped_sound : (options : RecordOptions) (version : MatchingVersion) (current baseline : List Chosen) → AllByRecursion (IsChosenAgain options) current
    → AllByRecursion (IsChosenAgain options) baseline
    → AllByRecursion (IsChosenAgain options) (known_runs version current baseline)
grouped_sound options version current baseline now before =
    of_tools_sound options (in_turn version current baseline) (tools_of (baseline ++ current))
    (in_turn_sound options version current baseline now before)

-- ---- how many

part_few : (n : ℕ) (rs : List Record) → length (take n rs) ≤ n
part_few zero rs = omega arith
part_few (suc n) [] = omega arith
part_few (suc n) (r ∷ rs) = omega (arith, part_few n rs)

fewer_present : (ds : List Data) → length (present ds) ≤ length ds
fewer_present ds = few_kept (λ d. not (is_absent_result d)) ds

pub now_few : (file : File) (policy : Policy) (adopt : Bool) (runs : List Data) (rs : List Record) (states : List Standing)
    → results_among (chosen_now file policy adopt runs rs states) ≤ results_total runs
now_few file policy adopt [] rs states = omega arith
now_few file policy adopt (run ∷ runs) rs states =
    let n = length (results_of run) in
    omega (arith, known_fewer file policy adopt (take n rs) (take n states), part_few n rs, now_few file policy adopt runs (drop n rs) (drop n states))

pub before_few : (heard : Option (List ℕ) → Bool) (runs : List Data) (rs : List Record) (taken : List Bool)
    → results_among (chosen_before heard runs rs taken) ≤ results_total runs
before_few heard [] rs taken = omega arith
before_few heard (run ∷ runs) rs taken =
    let n = length (present (results_of run)) in
    omega (
      arith,
      kept_of_fewer (heard (Some (tool_name run))) (take n rs) (take n taken),
      part_few n rs,
      fewer_present
          (results_of run),
      before_few heard runs (drop n rs) (drop n taken),
    )

pub now_long : (file : File) (policy : Policy) (adopt : Bool) (runs : List Data) (rs : List Record) (states : List Standing)
    → length (chosen_now file policy adopt runs rs states) ≡ length runs
now_long file policy adopt [] rs states = refl
now_long file policy adopt (run ∷ runs) rs states =
    ap suc (now_long file policy adopt runs (drop (length (results_of run)) rs) (drop (length (results_of run)) states))

pub before_long : (heard : Option (List ℕ) → Bool) (runs : List Data) (rs : List Record) (taken : List Bool)
    → length (chosen_before heard runs rs taken) ≡ length runs
before_long heard [] rs taken = refl
before_long heard (run ∷ runs) rs taken =
    ap suc (before_long heard runs (drop (length (present (results_of run))) rs) (drop (length (present (results_of run))) taken))
