-- The gate counts each finding of the logs as new, unchanged or updated.
use Rattle.std.proofs.Common.{◌≡◌, ◌+◌, ℕ, Bool, true, false, ◌&&◌, List, [], ◌∷◌, Option, Some, None, map, length, if◌then◌else◌, refl, sym, ◌∙◌, arith}
use Rattle.std.specs.Prelude.{slice_index_or}
use Rattle.std.specs.List.{AllByRecursion, flat_map}
use Rattle.sarif_model.specs.declared.kinds.Level.{Level}
use Rattle.sarif_model.specs.declared.kinds.State.{State}
use Rattle.sarif_model.specs.declared.kinds.State.TheVariants.{New, Unchanged, Updated, Absent}
use Rattle.sarif_model.specs.declared.record.Record.{Record}
use Rattle.sarif_counts.specs.CountOf.{count_of}
use Rattle.sarif_counts.specs.Counts.{same_state}
use Rattle.sarif_counts.specs.Hits.{Count, count_if}
use Rattle.sarif_counts.specs.Tally.{same_level, same_side}
use Rattle.sarif_counts.proofs.CountAppend.{count_of-append}
use Rattle.sarif_entries.specs.File.{File}
use Rattle.sarif_evidence.specs.declared.version.MatchingVersion.{MatchingVersion}
use Rattle.sarif_evidence.specs.declared.version.MatchingVersion.TheVariants.{Two, Three}
use Rattle.sarif_evidence.specs.Evidence.{has_evidence, state_in}
use Rattle.sarif_evidence.specs.Seen.{seen}
use Rattle.sarif_evidence.specs.State.{is_unchanged}
use Rattle.sarif_match.specs.Partners.{partners_in}
use Rattle.sarif_log.specs.Internal.Texts.{counts_as, present_results, tallied, unless_taken}
use Rattle.sarif_log.specs.LogBy.{current_runs, leftover_runs, listing_of, partner_in, runs_by, states_from, states_of, taken_of}
use Rattle.sarif_log.proofs.RunCounts.{left_count}
use Rattle.sarif_log.proofs.Sides.{drafts_long, records_present, results_long, states_long, taken_long}
use Rattle.sarif_log.proofs.Limits.{limited_long}
use Rattle.sarif_once.specs.Once.{copy_marks, without_copies}
use Rattle.sarif_once.proofs.Faults.{none_faulty}
use Rattle.sarif_once.proofs.Parts.{runs_left, sources_left}
use Rattle.sarif_results.specs.Drafts.{applied_of, drafts_by, unapplied, IsRun}
use Rattle.sarif_results.specs.declared.draft.Draft.{Draft}
use Rattle.sarif_results.proofs.JudgedCounts.{records_of_logs}
use Rattle.sarif_model.specs.Run.{results_of}
use Rattle.sarif_runs.specs.Judging.{faults_of_runs, records_of, run_values, skips}
use Rattle.sarif_runs.specs.Placed.{Placed}
use Rattle.sarif_suppress.specs.Limited.{limited}
use Rattle.sarif_laws_once.specs.Findings.{findings_counted}
use Rattle.sarif_laws_once.proofs.CountsFound.{counts_found}
use Rattle.sarif_laws_once.proofs.Numbers.{level_once, state_add, state_same}

-- ---- sums

found_same : (f g : Count) → ((s : State) (l : Level) (b : Bool) → f s l b ≡ g s l b) → findings_counted f ≡ findings_counted g
found_same f g same =
    let n = state_same (f New) (g New) (same New) in
    let u = state_same (f Unchanged) (g Unchanged) (same Unchanged) in
    let p = state_same (f Updated) (g Updated) (same Updated) in
    omega (arith, n, u, p)

found_add : (f g : Count) → findings_counted (λ s l b. f s l b + g s l b) ≡ findings_counted f + findings_counted g
found_add f g =
    let n = state_add (f New) (g New) in
    let u = state_add (f Unchanged) (g Unchanged) in
    let p = state_add (f Updated) (g Updated) in
    omega (arith, n, u, p)

-- ---- one result

abbrev IsCurrent : State → Type 0
IsCurrent New = Unit {0}
IsCurrent Unchanged = Unit {0}
IsCurrent Updated = Unit {0}
IsCurrent Absent = ⊥

found_once : (state : State) (level : Level) (suppressed : Bool) → IsCurrent state
    → findings_counted (λ s l b. count_if (same_state s state && (same_level l level && same_side b suppressed)) 1) ≡ 1
found_once New level suppressed is = let once = level_once level suppressed in omega (arith, once)
found_once Unchanged level suppressed is = let once = level_once level suppressed in omega (arith, once)
found_once Updated level suppressed is = let once = level_once level suppressed in omega (arith, once)
found_once Absent level suppressed is = absurd is

found_never : (level : Level) (suppressed : Bool)
    → findings_counted (λ s l b. count_if (same_state s Absent && (same_level l level && same_side b suppressed)) 1) ≡ 0
found_never level suppressed = refl

-- ---- all results

found_tallied : (ds : List Draft) (ss : List State) → length ss ≡ length ds → AllByRecursion IsCurrent ss
    → findings_counted (tallied ds (map Some ss)) ≡ length ds
found_tallied [] ss same are = refl
found_tallied (d ∷ ds) [] same are = absurd (omega (arith, same))
found_tallied (d ∷ ds) (s ∷ ss) same are =
    let both = found_add (counts_as (Some s) d) (tallied ds (map Some ss)) in
    let here = found_once s d.level d.suppressed are.0 in
    let rest = found_tallied ds ss (omega (arith, same)) are.1 in
    omega (arith, both, here, rest)

left_never : (ds : List Draft) (taken : List Bool) → length taken ≡ length ds → findings_counted (tallied ds (map unless_taken taken)) ≡ 0
left_never [] taken same = refl
left_never (d ∷ ds) [] same = absurd (omega (arith, same))
left_never (d ∷ ds) (true ∷ taken) same =
    let both = found_add (counts_as None d) (tallied ds (map unless_taken taken)) in
    let rest = left_never ds taken (omega (arith, same)) in omega (arith, both, rest)
left_never (d ∷ ds) (false ∷ taken) same =
    let both = found_add (counts_as (Some Absent) d) (tallied ds (map unless_taken taken)) in
    let here = found_never d.level d.suppressed in
    let rest = left_never ds taken (omega (arith, same)) in
    omega (arith, both, here, rest)

-- ---- states

current_if : (b : Bool) → IsCurrent (if b then Unchanged else Updated)
current_if true = tt
current_if false = tt

state_current : (v : MatchingVersion) (r : Record) (partner : Option Record) → IsCurrent (state_in v r partner)
state_current Two r None = tt
state_current Two r (Some q) = current_if (is_unchanged r q)
state_current Three r None = tt
state_current Three r (Some q) = current_if (is_unchanged r q && has_evidence (seen r) (seen q))

states_current : (v : MatchingVersion) (bs : List Record) (partners : List (Option ℕ)) (n : ℕ) (rs : List Record)
    → AllByRecursion IsCurrent (states_from v bs partners n rs)
states_current v bs partners n [] = tt
states_current v bs partners n (r ∷ rs) =
    (state_current v r (partner_in bs (slice_index_or partners n None)), states_current v bs partners (n + 1) rs)

-- ---- the gate

module _ (v : MatchingVersion) (file : File) (now before : List Placed)
    (are_now : AllByRecursion IsRun (run_values now)) (are_before : AllByRecursion IsRun (run_values before))
    (sound_now : faults_of_runs now ≡ []) (sound_before : faults_of_runs before ≡ [])
    (logs : AllByRecursion (λ p. skips p.source ≡ false) now) (baselines : AllByRecursion (λ p. skips p.source ≡ true) before) where
  abbrev tn : List Placed
  tn = without_copies now

  abbrev tb : List Placed
  tb = without_copies before

  abbrev rs : List Record
  rs = records_of tn

  abbrev qs : List Record
  qs = records_of tb

  from_logs : findings_counted (count_of (current_runs v file tn tb)) ≡ length rs
  from_logs =
      let ss = states_of v rs qs in
      let ds = flat_map results_of (run_values tn) in
      let drafts = drafts_by (listing_of file) (applied_of file) (limited file rs) ds in
      let long : length (limited file rs) ≡ length rs = limited_long file rs in
      let records = records_of_logs tn (none_faulty (copy_marks now) now sound_now) (sources_left false (copy_marks now) now logs) in
      let many : length drafts ≡ length (limited file rs) =
      drafts_long (listing_of file) (applied_of file) (limited file rs) ds (long ∙ records ∙ sym (results_long (run_values tn))) in
      let states : length ss ≡ length rs = states_long v qs (partners_in v rs qs) 0 rs in
      found_same (count_of (current_runs v file tn tb)) (tallied drafts (map Some ss)) (counts_found v file now before are_now sound_now logs)
      ∙ found_tallied drafts ss (omega (arith, states, many, long)) (states_current v qs (partners_in v rs qs) 0 rs)
      ∙ many ∙ long

  from_baselines : findings_counted (count_of (leftover_runs v tn tb)) ≡ 0
  from_baselines =
      let runs = run_values tb in
      let ts = taken_of v rs qs in
      let drafts = drafts_by (λ _ own. own) unapplied qs (present_results runs) in
      let are = runs_left (copy_marks before) before are_before in
      let records : length qs ≡ length (present_results runs) =
      records_present tb (none_faulty (copy_marks before) before sound_before) (sources_left true (copy_marks before) before baselines) in
      let taken : length ts ≡ length qs = taken_long v rs qs in
      let many : length drafts ≡ length qs = drafts_long (λ _ own. own) unapplied qs (present_results runs) records in
      found_same (count_of (leftover_runs v tn tb)) (tallied drafts (map unless_taken ts))
      (λ s l b. sym (left_count qs ts runs s l b are records taken))
      ∙ left_never drafts ts (taken ∙ sym many)

  pub each_finding : findings_counted (count_of (runs_by v file (without_copies now) (without_copies before))) ≡ length (records_of (without_copies now))
  each_finding =
      let both =
      found_same (count_of (runs_by v file (without_copies now) (without_copies before)))
      (λ s l b. count_of (current_runs v file tn tb) s l b + count_of (leftover_runs v tn tb) s l b)
      (count_of-append (current_runs v file tn tb) (leftover_runs v tn tb)) in
      let sum = found_add (count_of (current_runs v file tn tb)) (count_of (leftover_runs v tn tb)) in
      omega (arith, both, sum, from_logs, from_baselines)
