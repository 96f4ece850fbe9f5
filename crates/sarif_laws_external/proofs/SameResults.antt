-- Runs without the member that names external property files are written with the same results.
use Rattle.std.proofs.Common.{◌≡◌, ℕ, ◌+◌, Bool, not, cond, List, [], ◌∷◌, ◌++◌, map, take, drop, length, is_some, Option, Some, None, codes, refl, sym, ap, ap₂, ◌∙◌}
use Rattle.std.proofs.lemmas.List.{map-append}
use Rattle.std.proofs.lemmas.List.Sums.{sum_by-cons}
use Rattle.std.specs.Prelude.{option_and_then}
use Rattle.serde_json.specs.Data.{Data, null, boolean, number, string, array, object, Items, Members}
use Rattle.serde_json.specs.Find.{as_array, get}
use Rattle.serde_json.specs.View.{items_of}
use Rattle.serde_json.proofs.Views.{get_member-put}
use Rattle.json_parts.specs.Without.{without}
use Rattle.sarif_model.specs.declared.kinds.Level.{Level}
use Rattle.sarif_model.specs.declared.kinds.State.{State}
use Rattle.sarif_model.specs.declared.record.Record.{Record}
use Rattle.sarif_model.specs.Run.{present, results_array, results_of}
use Rattle.sarif_model.proofs.Elements.{items_or_none}
use Rattle.sarif_counts.specs.CountOf.{count_in, count_of, items_in}
use Rattle.sarif_counts.specs.Gate.{gate_of}
use Rattle.sarif_counts.specs.Hits.{Count}
use Rattle.sarif_options.specs.declared.policy.Policy.{Policy}
use Rattle.sarif_read.proofs.Beside.{member_beside}
use Rattle.sarif_evidence.specs.declared.version.MatchingVersion.{MatchingVersion}
use Rattle.sarif_entries.specs.File.{File}
use Rattle.sarif_suppress.specs.Limited.{limited}
use Rattle.sarif_suppress.specs.Suppressing.{unused_of}
use Rattle.sarif_results.specs.Drafts.{Listing}
use Rattle.sarif_runs.specs.Judging.{records_of, run_values}
use Rattle.sarif_runs.specs.Internal.NamedFiles.{without_files}
use Rattle.sarif_runs.specs.Placed.{Placed}
use Rattle.sarif_log.specs.LogBy.{current_runs, leftover_runs, listing_of, merged_by, runs_by, runs_without_results, states_of, taken_of}
use Rattle.sarif_log.specs.MergedRuns.{absent_runs, annotated_items, bare, if_any, merged_run, merged_runs, own_results, unmatched, with_absent, with_results}
use Rattle.sarif_log.proofs.RunResults.{still_out, taken_out}
use Rattle.sarif_laws_external.specs.Fileless.{all_without, gate_in}
use Rattle.sarif_laws_external.proofs.SameRuns.{records_same, same_array, values_same}
use Rattle.sarif_runs.proofs.NamedFiles.{same_results}

-- ---- one run

-- the results that are put into a run are found in it
put_found : (found : Option Items) (ms : Members) → results_array (object (with_results found (bare ms))) ≡ found
put_found None ms =
    ap (option_and_then as_array) (still_out (codes "results") (codes "baselineGuid") (without (codes "results") ms) (taken_out (codes "results") ms))
put_found (Some ds) ms = ap (option_and_then as_array) (get_member-put (codes "results") (array ds) (bare ms))

abbrev files : List ℕ
files = codes "externalPropertyFileReferences"

own_same : (ms : Members) → own_results (without files ms) ≡ own_results ms
own_same ms = ap (option_and_then as_array) (member_beside files (codes "results") (object ms) refl)

one_run : (listed : Listing) (rs : List Record) (states : List State) (run : Data)
    → results_array (merged_run listed rs states (without_files run)) ≡ results_array (merged_run listed rs states run)
one_run listed rs states null = refl
one_run listed rs states (boolean b) = refl
one_run listed rs states (number n) = refl
one_run listed rs states (string s) = refl
one_run listed rs states (array ds) = refl
one_run listed rs states (object ms) =
    put_found (annotated_items listed rs states (own_results (without files ms))) (without files ms)
    ∙ ap (annotated_items listed rs states) (own_same ms)
    ∙ sym (put_found (annotated_items listed rs states (own_results ms)) ms)

one_left : (ds : List Data) (run : Data) → results_array (with_absent ds (without_files run)) ≡ results_array (with_absent ds run)
one_left ds null = refl
one_left ds (boolean b) = refl
one_left ds (number n) = refl
one_left ds (string s) = refl
one_left ds (array xs) = refl
one_left ds (object ms) = put_found (Some (items_of ds)) (without files ms) ∙ sym (put_found (Some (items_of ds)) ms)

-- ---- all runs

abbrev arrays : List Data → List (Option Items)
arrays runs = map results_array runs

merged_same : (listed : Listing) (rs : List Record) (states : List State) (runs : List Data)
    → arrays (merged_runs listed rs states (map without_files runs)) ≡ arrays (merged_runs listed rs states runs)
merged_same listed rs states [] = refl
merged_same listed rs states (run ∷ runs) =
    ap (λ (found : List Data). results_array (merged_run listed (take (length found) rs) (take (length found) states) (without_files run)) ∷ arrays
    (merged_runs listed (drop (length found) rs) (drop (length found) states) (map without_files runs))) (same_results run)
    ∙ ap₂ (λ first rest. first ∷ rest)
    (one_run listed (take (length (results_of run)) rs) (take (length (results_of run)) states) run)
    (merged_same listed (drop (length (results_of run)) rs) (drop (length (results_of run)) states) runs)

any_same : (ds : List Data) (run : Data) (xs ys : List Data) → arrays xs ≡ arrays ys → arrays (if_any ds (without_files run) xs) ≡ arrays (if_any ds run ys)
any_same [] run xs ys same = same
any_same (d ∷ ds) run xs ys same = ap₂ (λ first rest. first ∷ rest) (one_left (d ∷ ds) run) same

abbrev left_by : List Data → List Record → List Bool → Data → List Data → List Data
left_by found rs taken run runs =
    if_any (unmatched (take (length (present found)) rs) (take (length (present found)) taken) (present found)) run
    (absent_runs (drop (length (present found)) rs) (drop (length (present found)) taken) runs)

absent_same : (rs : List Record) (taken : List Bool) (runs : List Data)
    → arrays (absent_runs rs taken (map without_files runs)) ≡ arrays (absent_runs rs taken runs)
absent_same rs taken [] = refl
absent_same rs taken (run ∷ runs) =
    let ds : List Data = present (results_of run) in
    ap (λ found. arrays (left_by found rs taken (without_files run) (map without_files runs))) (same_results run)
    ∙ any_same (unmatched (take (length ds) rs) (take (length ds) taken) ds) run _ _ (absent_same (drop (length ds) rs) (drop (length ds) taken) runs)

-- ---- the merged log

module _ (version : MatchingVersion) (file : File) (current baseline : List Placed) where
  current_same : arrays (current_runs version file (all_without current) (all_without baseline)) ≡ arrays (current_runs version file current baseline)
  current_same =
      (λ i. arrays
      (merged_runs (listing_of file) (limited file (records_same current i)) (states_of version (records_same current i) (records_same baseline i))
      (values_same current i)))
      ∙ merged_same (listing_of file) (limited file (records_of current)) (states_of version (records_of current) (records_of baseline)) (run_values current)

  left_same : arrays (leftover_runs version (all_without current) (all_without baseline)) ≡ arrays (leftover_runs version current baseline)
  left_same =
      (λ i. arrays (absent_runs (records_same baseline i) (taken_of version (records_same current i) (records_same baseline i)) (values_same baseline i)))
      ∙ absent_same (records_of baseline) (taken_of version (records_of current) (records_of baseline)) (run_values baseline)

  pub written_same : arrays (runs_by version file (all_without current) (all_without baseline)) ≡ arrays (runs_by version file current baseline)
  written_same =
      map-append results_array (current_runs version file (all_without current) (all_without baseline)) (leftover_runs version (all_without current) (all_without baseline))
      ∙ ap₂ (λ first rest. first ++ rest) current_same left_same
      ∙ sym (map-append results_array (current_runs version file current baseline) (leftover_runs version current baseline))

-- ---- counts

in_array : (found : Option Data) → items_in found ≡ items_or_none (option_and_then as_array found)
in_array None = refl
in_array (Some null) = refl
in_array (Some (boolean b)) = refl
in_array (Some (number n)) = refl
in_array (Some (string s)) = refl
in_array (Some (array ds)) = refl
in_array (Some (object ms)) = refl

abbrev counted_in : List (Option Items) → Count
counted_in [] state level suppressed = 0
counted_in (found ∷ rest) state level suppressed =
    count_in (items_or_none found) state level suppressed + counted_in rest state level suppressed

counted : (runs : List Data) (state : State) (level : Level) (suppressed : Bool)
    → count_of runs state level suppressed ≡ counted_in (arrays runs) state level suppressed
counted [] state level suppressed = refl
counted (run ∷ runs) state level suppressed =
    ap₂ (λ (here later : ℕ). here + later)
    (ap (λ ds. count_in ds state level suppressed) (in_array (get (codes "results") run)))
    (counted runs state level suppressed)

-- the counts depend on the results alone
counts_alike : (xs ys : List Data) → arrays xs ≡ arrays ys → count_of xs ≡ count_of ys
counts_alike xs ys same = λ i state level suppressed.
    (counted xs state level suppressed
    ∙ ap (λ found. counted_in found state level suppressed) same
    ∙ sym (counted ys state level suppressed)) i

pub counts_same : (version : MatchingVersion) (file : File) (current baseline : List Placed)
    → count_of (runs_by version file (all_without current) (all_without baseline)) ≡ count_of (runs_by version file current baseline)
counts_same version file current baseline =
    counts_alike (runs_by version file (all_without current) (all_without baseline)) (runs_by version file current baseline) (written_same version file current baseline)

abbrev has_none : Data → Bool
has_none run = not (is_some (results_array run))

lacking_same : (runs : List Data) → runs_without_results (map without_files runs) ≡ runs_without_results runs
lacking_same [] = refl
lacking_same (run ∷ runs) =
    sum_by-cons (λ x. cond (has_none x) 1 0) (without_files run) (map without_files runs)
    ∙ ap₂ (λ (here later : ℕ). here + later)
    (ap (λ found. cond (not (is_some found)) 1 0) (same_array run))
    (lacking_same runs)
    ∙ sym (sum_by-cons (λ x. cond (has_none x) 1 0) run runs)

pub gate_same : (version : MatchingVersion) (file : File) (current baseline : List Placed) (policy : Policy)
    → gate_in (merged_by version file (all_without current) (all_without baseline) policy) ≡ gate_in (merged_by version file current baseline policy)
gate_same version file current baseline policy = λ i.
    Some (gate_of (counts_same version file current baseline i) policy ((ap runs_without_results (values_same current) ∙ lacking_same (run_values current)) i)
    (unused_of file (limited file (records_same current i))))
