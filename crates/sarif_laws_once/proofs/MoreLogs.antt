-- Logs whose results are all copies change no count.
use Rattle.std.proofs.Common.{◌≡◌, ◌+◌, ℕ, Bool, true, false, List, [], ◌∷◌, ◌++◌, length, map, Some, refl, sym, ap, ap₂, ◌∙◌, subst, arith}
use Rattle.std.specs.List.{AllByRecursion, flat_map, list_any}
use Rattle.std.proofs.lemmas.List.{map-append}
use Rattle.std.proofs.lemmas.List.Concat.{flat_map-append}
use Rattle.serde_json.specs.Data.{Data}
use Rattle.sarif_copies.specs.Copies.{are_alike, copies_of}
use Rattle.sarif_counts.specs.CountOf.{count_of}
use Rattle.sarif_counts.specs.Hits.{hits_of, verdict_of}
use Rattle.sarif_counts.proofs.CountAppend.{count_of-append}
use Rattle.sarif_evidence.specs.declared.version.MatchingVersion.{MatchingVersion}
use Rattle.sarif_entries.specs.File.{File}
use Rattle.sarif_model.specs.declared.kinds.Level.{Level}
use Rattle.sarif_model.specs.declared.kinds.State.{State}
use Rattle.sarif_model.specs.declared.merge_fault.Source.TheVariants.{Log}
use Rattle.sarif_model.specs.declared.record.Record.{Record}
use Rattle.sarif_model.specs.Run.{results_of}
use Rattle.sarif_read.specs.Unmarked.{unmarked}
use Rattle.sarif_results.specs.Drafts.{applied_of, drafts_by, IsRun}
use Rattle.sarif_runs.specs.Judging.{faults_of_runs, records_of, run_values, skips}
use Rattle.sarif_runs.specs.Placed.{Placed}
use Rattle.sarif_suppress.specs.Limited.{limited}
use Rattle.sarif_suppress.specs.Suppressing.{unused_of}
use Rattle.sarif_once.specs.Once.{without_copies}
use Rattle.sarif_once.proofs.Marks.{findings_left, marked_each}
use Rattle.sarif_once.proofs.More.{findings_same}
use Rattle.sarif_log.specs.Internal.Texts.{tallied}
use Rattle.sarif_log.specs.LogBy.{current_runs, leftover_runs, limited_records, listing_of, states_of, taken_of}
use Rattle.sarif_log.specs.MergedRuns.{absent_runs}
use Rattle.sarif_prepare.specs.By.{counted_if, runs_counted_if}
use Rattle.sarif_prepare.specs.Once.{runs_counted}
use Rattle.sarif_prepare.proofs.CopyDrafts.{as_many, results_found}
use Rattle.sarif_inputs.specs.Faults.{faults_of}
use Rattle.sarif_inputs.specs.Inputs.{Inputs, baseline_runs, input_runs, log_sources, numbered, placed, reading_checks}
use Rattle.sarif_inputs.proofs.ReadFacts.{log_sides}
use Rattle.sarif_inputs_laws.proofs.Parts.{apart_faults}
use Rattle.sarif_inputs_laws.proofs.Renumbered.{both_empty, faults-append, placed-append, placed_alike, records-append, records_alike}
use Rattle.sarif_inputs_laws.proofs.Sources.{numbered-append}
use Rattle.sarif_merge.specs.MergedLog.{file_given, runs_counted as counted_in}
use Rattle.sarif_merge.proofs.ReadObjects.{objects_in}
use Rattle.sarif_laws_once.specs.MoreLogs.{AreAllCopies, HasSameCounts, with_more}
use Rattle.sarif_laws_once.proofs.CopiesMore.{copies_after}
use Rattle.sarif_laws_once.proofs.CountsFound.{counts_found}

-- ---- lists and lists after them

more_left : {X : Type 0} (ms : List Bool) (xs : List X) (rs : List Record) (ys : List X) → length ms ≡ length xs → length rs ≡ length ys
    → unmarked (ms ++ map (λ _. true) rs) (xs ++ ys) ≡ unmarked ms xs
more_left [] [] [] [] same_m same_y = refl
more_left [] [] [] (y ∷ ys) same_m same_y = absurd (omega (arith, same_y))
more_left [] [] (r ∷ rs) [] same_m same_y = absurd (omega (arith, same_y))
more_left [] [] (r ∷ rs) (y ∷ ys) same_m same_y = more_left [] [] rs ys same_m (omega (arith, same_y))
more_left [] (x ∷ xs) rs ys same_m same_y = absurd (omega (arith, same_m))
more_left (m ∷ ms) [] rs ys same_m same_y = absurd (omega (arith, same_m))
more_left (true ∷ ms) (x ∷ xs) rs ys same_m same_y = more_left ms xs rs ys (omega (arith, same_m)) same_y
more_left (false ∷ ms) (x ∷ xs) rs ys same_m same_y = ap (λ zs. x ∷ zs) (more_left ms xs rs ys (omega (arith, same_m)) same_y)

all_both : {X : Type 0} (P : X → Type 0) (xs ys : List X) → AllByRecursion P xs → AllByRecursion P ys → AllByRecursion P (xs ++ ys)
all_both P [] ys of_x of_y = of_y
all_both P (x ∷ xs) ys of_x of_y = (of_x.0, all_both P xs ys of_x.1 of_y)

-- ---- runs after others

module _ (v : MatchingVersion) (file : File) (now later before : List Placed)
    (are_now : AllByRecursion IsRun (run_values now)) (are_all : AllByRecursion IsRun (run_values (now ++ later)))
    (sound_now : faults_of_runs now ≡ []) (sound_later : faults_of_runs later ≡ [])
    (sound_all : faults_of_runs (now ++ later) ≡ [])
    (logs_now : AllByRecursion (λ p. skips p.source ≡ false) now) (logs_later : AllByRecursion (λ p. skips p.source ≡ false) later)
    (alike : AllByRecursion (λ r. list_any (λ q. are_alike q r) (records_of now) ≡ true) (records_of later)) where
  abbrev cs : List Record
  cs = records_of now

  abbrev ms : List Record
  ms = records_of later

  abbrev ds : List Data
  ds = flat_map results_of (run_values now)

  abbrev es : List Data
  es = flat_map results_of (run_values later)

  logs_all : AllByRecursion (λ p. skips p.source ≡ false) (now ++ later)
  logs_all = all_both (λ p. skips p.source ≡ false) now later logs_now logs_later

  pub same_found : records_of (without_copies (now ++ later)) ≡ records_of (without_copies now)
  same_found =
      findings_left (now ++ later) ∙ ap (λ rs. unmarked (copies_of rs) rs) (records-append now later)
      ∙ findings_same cs ms alike ∙ sym (findings_left now)

  same_results : flat_map results_of (run_values (without_copies (now ++ later))) ≡ flat_map results_of (run_values (without_copies now))
  same_results =
      results_found file (now ++ later) sound_all logs_all
      ∙ ap₂ (λ rs xs. unmarked (copies_of rs) xs) (records-append now later)
      (ap (flat_map results_of) (map-append (λ (p : Placed). p.run) now later) ∙ flat_map-append results_of (run_values now) (run_values later))
      ∙ ap (λ marks. unmarked marks (ds ++ es)) (copies_after cs ms alike)
      ∙ more_left (copies_of cs) ds ms es (marked_each cs ∙ sym (as_many file now sound_now logs_now)) (sym (as_many file later sound_later logs_later))
      ∙ sym (results_found file now sound_now logs_now)

  pub same_counts : count_of (runs_counted v file (now ++ later) before) ≡ count_of (runs_counted v file now before)
  same_counts =
      (λ i s l b. at s l b i) where
        at : (s : State) (l : Level) (b : Bool) → count_of (runs_counted v file (now ++ later) before) s l b ≡ count_of (runs_counted v file now before) s l b
        at s l b =
            let tn = without_copies now in
            let ta = without_copies (now ++ later) in
            let tb = without_copies before in
            count_of-append (current_runs v file ta tb) (leftover_runs v ta tb) s l b
            ∙ ap₂ (λ m n. m + n)
            (counts_found v file (now ++ later) before are_all sound_all logs_all s l b
            ∙ ap₂ (λ rs xs. tallied (drafts_by (listing_of file) (applied_of file) (limited file rs) xs) (map Some (states_of v rs (records_of tb))) s l b)
            same_found same_results
            ∙ sym (counts_found v file now before are_now sound_now logs_now s l b))
            (ap (λ rs. count_of (absent_runs (records_of tb) (taken_of v rs (records_of tb)) (run_values tb)) s l b) same_found)
            ∙ sym (count_of-append (current_runs v file tn tb) (leftover_runs v tn tb) s l b)

-- ---- inputs

pub more_same : (inputs : Inputs) (more : List (List ℕ)) → faults_of (with_more inputs more) ≡ [] → inputs.checks.once ≡ true → AreAllCopies inputs more
    → HasSameCounts inputs (with_more inputs more)
more_same inputs more none once alike =
    let v = inputs.checks.matching in
    let file = file_given inputs in
    let checks = reading_checks inputs in
    let logs = inputs.logs in
    let now = input_runs inputs in
    let later = placed (numbered checks Log (0 + length logs) more) in
    let before = baseline_runs inputs in
    let fine = apart_faults (with_more inputs more) none in
    let all : input_runs (with_more inputs more) ≡ now ++ later =
    ap placed (numbered-append checks Log 0 logs more) ∙ placed-append (numbered checks Log 0 logs) (numbered checks Log (0 + length logs) more) in
    let parts = both_empty (faults_of_runs now) (faults_of_runs later) (sym (faults-append now later) ∙ ap faults_of_runs (sym all) ∙ fine.log_runs) in
    let same_records : records_of (placed (numbered checks Log 0 more)) ≡ records_of later =
    records_alike (placed (numbered checks Log 0 more)) later (placed_alike checks Log (λ m n. refl) (λ m n. refl) 0 (0 + length logs) more) in
    let alike_later : AllByRecursion (λ r. list_any (λ q. are_alike q r) (records_of now) ≡ true) (records_of later) =
    subst (AllByRecursion (λ r. list_any (λ q. are_alike q r) (records_of now) ≡ true)) same_records alike in
    let are_all : AllByRecursion IsRun (run_values (now ++ later)) =
    subst (λ ps. AllByRecursion IsRun (run_values ps)) all (objects_in (log_sources (with_more inputs more))) in
    let sound_all : faults_of_runs (now ++ later) ≡ [] = ap faults_of_runs (sym all) ∙ fine.log_runs in
    let logs_now = log_sides checks 0 logs in
    let logs_later = log_sides checks (0 + length logs) more in
    let counted : count_of (counted_in (with_more inputs more)) ≡ count_of (counted_in inputs) =
    ap₂ (λ b ps. count_of (runs_counted_if b v file ps before)) once all
    ∙ same_counts v file now later before (objects_in (log_sources inputs)) are_all parts.0 parts.1 sound_all logs_now logs_later alike_later
    ∙ sym (ap (λ b. count_of (runs_counted_if b v file now before)) once) in
    let found = same_found v file now later before (objects_in (log_sources inputs)) are_all parts.0 parts.1 sound_all logs_now logs_later alike_later in
    record {
      counts = counted;
      hits = λ policy. ap (λ count. hits_of count policy) counted;
      verdict = λ policy. ap (λ count. verdict_of count policy) counted;
      unused =
          ap₂ (λ b ps. unused_of file (limited_records file (counted_if b ps))) once all
          ∙ ap (λ rs. unused_of file (limited file rs)) found
          ∙ sym (ap (λ b. unused_of file (limited_records file (counted_if b now))) once);
    }
