-- The findings of the results of logs and of baselines are the findings of the merged log.
use Rattle.std.proofs.Common.{◌≡◌, ◌+◌, ◌++◌, List, [], ◌∷◌, Option, Some, None, map, length, length-append, refl, sym, ap, ◌∙◌}
use Rattle.std.proofs.lemmas.List.{length-map}
use Rattle.std.proofs.lemmas.List.Concat.{flat_map-append}
use Rattle.std.specs.Prelude.{flat_map}
use Rattle.serde_json.specs.Data.{Data}
use Rattle.sarif_model.specs.declared.kinds.State.TheVariants.{Absent}
use Rattle.sarif_model.specs.Run.{results_of, present}
use Rattle.sarif_evidence.specs.declared.version.MatchingVersion.{MatchingVersion}
use Rattle.sarif_match.specs.Partners.{partners_in}
use Rattle.sarif_entries.specs.File.{File}
use Rattle.sarif_runs.specs.Judging.{records_of, run_values}
use Rattle.sarif_prepare.specs.Internal.Leftover.{not_taken}
use Rattle.sarif_runs.specs.Placed.{Placed}
use Rattle.sarif_runs.specs.Internal.Spots.{spots_from}
use Rattle.sarif_findings.specs.declared.reporting.Reporting.{Reporting}
use Rattle.sarif_findings.specs.Reported.{reported_in}
use Rattle.sarif_results.specs.Drafts.{applied_of, drafts_by}
use Rattle.sarif_log.specs.Internal.Texts.{present_results}
use Rattle.sarif_prepare.specs.declared.baselines.Baselines.{Baselines}
use Rattle.sarif_prepare.specs.declared.halves.Half.{Half}
use Rattle.sarif_prepare.specs.declared.pairing.Paired.{Paired}
use Rattle.sarif_prepare.specs.Internal.Baselines.{baseline_drafts}
use Rattle.sarif_log.specs.LogBy.{current_runs, leftover_runs, limited_records, listing_of, runs_by, states_of, taken_of}
use Rattle.sarif_prepare.specs.Internal.Telling.{own_results, pair_at, present_in, told_each}
use Rattle.sarif_prepare.specs.Internal.Together.{AreTogether, IsPaired}
use Rattle.sarif_log.specs.Told.{if_asked, told_of}
use Rattle.sarif_log.proofs.Limits.{limited_long}
use Rattle.sarif_log.proofs.Sides.{states_long, taken_long}
use Rattle.sarif_prepare.proofs.MatchedRecords.{limited_total, matched_records}
use Rattle.sarif_prepare.proofs.ToldRuns.{not_taken-map, pairs_of_all, runs_told, untaken_told}
use Rattle.sarif_prepare.proofs.WrittenSides.{baseline_long}

pairs_count : (runs : List Data) → length (flat_map present_in runs) ≡ length (present_results runs)
pairs_count [] = refl
pairs_count (run ∷ runs) =
    length-append (present_in run) (flat_map present_in runs)
    ∙ ap (λ n. n + length (flat_map present_in runs)) (length-map (present (results_of run)) (λ d. (run, d)))
    ∙ ap (λ n. length (present (results_of run)) + n) (pairs_count runs)
    ∙ sym (length-append (present (results_of run)) (present_results runs))

pub current_told : (v : MatchingVersion) (reporting : Reporting) (file : File) (now before : List Placed) (c : Half) (b : Baselines) (p : Paired)
    → AreTogether file now before c b → IsPaired v c b p
    → told_each reporting (map (pair_at now) (spots_from 0 now)) c.drafts.items p.states.items ≡ flat_map (reported_in reporting) (current_runs v file now before)
current_told v reporting file now before c b p h q =
    let cs = records_of now in
    let bs = records_of before in
    let states =
    q.states ∙ ap (λ rs. map Some (states_of v rs b.records.items)) (matched_records file now c h.is_current) ∙ ap (λ rs. map Some (states_of v cs rs)) h.are_baselines.records in
    ap (λ ps. told_each reporting ps c.drafts.items p.states.items) (pairs_of_all now)
    ∙ ap (λ ds. told_each reporting (flat_map own_results (run_values now)) ds p.states.items) h.is_current.drafts
    ∙ ap (told_each reporting (flat_map own_results (run_values now))
    (drafts_by (listing_of file) (applied_of file) (limited_records file now) (flat_map results_of (run_values now)))) states
    ∙ runs_told reporting (listing_of file) (applied_of file) (limited_records file now) (states_of v cs bs) (run_values now) h.current_are_runs
    (limited_total file now h.current_records) (states_long v bs (partners_in v cs bs) 0 cs ∙ sym (limited_long file cs))

left_told : (v : MatchingVersion) (reporting : Reporting) (file : File) (now before : List Placed) (c : Half) (b : Baselines) (p : Paired)
    → AreTogether file now before c b → IsPaired v c b p
    → told_each reporting (map (pair_at before) (not_taken p.taken.items b.spots.items)) p.left.items (map (λ _. Some Absent) p.left.items)
    ≡ flat_map (reported_in reporting) (leftover_runs v now before)
left_told v reporting file now before c b p h q =
    let taken = taken_of v (records_of now) (records_of before) in
    let is : p.taken.items ≡ taken =
    q.taken ∙ ap (λ rs. taken_of v rs b.records.items) (matched_records file now c h.is_current) ∙ ap (taken_of v (records_of now)) h.are_baselines.records in
    let pairs = flat_map present_in (run_values before) in
    let drafts = baseline_drafts before in
    let long = taken_long v (records_of now) (records_of before) in
    let pairs_long : length pairs ≡ length taken =
    pairs_count (run_values before) ∙ sym h.are_baselines.count ∙ sym long in
    ap (λ ps. told_each reporting ps p.left.items (map (λ _. Some Absent) p.left.items))
    (not_taken-map (pair_at before) p.taken.items b.spots.items ∙ ap (not_taken p.taken.items) h.are_baselines.pairs)
    ∙ ap (λ ds. told_each reporting (not_taken p.taken.items pairs) ds (map (λ _. Some Absent) ds)) (q.left before h.are_baselines)
    ∙ ap (λ ts. told_each reporting (not_taken ts pairs) (not_taken ts drafts) (map (λ _. Some Absent) (not_taken ts drafts))) is
    ∙ untaken_told reporting (records_of before) taken (run_values before) h.baseline_are_runs h.are_baselines.count long pairs_long
    (baseline_long before b h.are_baselines ∙ sym long)

-- both, in order
pub sides_told : (v : MatchingVersion) (asked : Option Reporting) (file : File) (now before : List Placed) (c : Half) (b : Baselines) (p : Paired)
    → AreTogether file now before c b → IsPaired v c b p
    → if_asked asked (λ r. told_each r (map (pair_at now) (spots_from 0 now)) c.drafts.items p.states.items)
    ++ if_asked asked (λ r. told_each r (map (pair_at before) (not_taken p.taken.items b.spots.items)) p.left.items (map (λ _. Some Absent) p.left.items))
    ≡ told_of asked (runs_by v file now before)
sides_told v None file now before c b p h q = refl
sides_told v (Some reporting) file now before c b p h q =
    ap (λ fs. fs ++ told_each reporting (map (pair_at before) (not_taken p.taken.items b.spots.items)) p.left.items (map (λ _. Some Absent) p.left.items))
    (current_told v reporting file now before c b p h q)
    ∙ ap (λ fs. flat_map (reported_in reporting) (current_runs v file now before) ++ fs) (left_told v reporting file now before c b p h q)
    ∙ sym (flat_map-append (reported_in reporting) (current_runs v file now before) (leftover_runs v now before))
