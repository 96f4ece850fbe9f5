-- What is written for runs of logs and of baselines, by their parts, records and drafts.
use Rattle.std.proofs.Common.{◌≡◌, ◌≤◌, ◌+◌, ℕ, suc, Bool, true, false, not, cond, List, [], ◌∷◌, Option, Some, None, filter, length, length-append, is_some, option_map, refl, sym, ap, ◌∙◌, arith}
use Rattle.std.proofs.lemmas.List.{length-map}
use Rattle.std.proofs.lemmas.List.Sums.{length-filter}
use Rattle.std.proofs.lemmas.List.FromFn.{length-range_with_len}
use Rattle.std.specs.List.{AllByRecursion, count_by, flat_map, range_with_len}
use Rattle.serde_json.specs.Data.{Data, Items}
use Rattle.sarif_model.specs.declared.record.Record.{Record}
use Rattle.sarif_model.specs.Members.{elements}
use Rattle.sarif_model.specs.Run.{is_absent_result, results_array, results_of, results_total, present}
use Rattle.sarif_evidence.specs.declared.version.MatchingVersion.{MatchingVersion}
use Rattle.sarif_match.specs.Partners.{partners_in, is_taken}
use Rattle.sarif_suppress.specs.declared.suppressions.Applied.{Applied}
use Rattle.sarif_runs.specs.Judging.{faults_of_runs, items_of, records_in, records_of, run_faults, skips, run_values}
use Rattle.sarif_runs.specs.Placed.{Placed}
use Rattle.sarif_log.specs.declared.run_parts.RunParts.{RunParts}
use Rattle.sarif_log.specs.Internal.Texts.{counts_in_parts, own_count, present_results, ArePartsOf}
use Rattle.sarif_results.specs.Drafts.{drafts_by, Listing}
use Rattle.sarif_log.proofs.RunTexts.{run_count}
use Rattle.sarif_log.specs.LogBy.{runs_without_results, states_from, taken_of}
use Rattle.sarif_results.proofs.JudgedCounts.{no_faults_here, no_faults_left, records_of_baseline}

-- ---- lengths

pub runs_long : (count : Data → Option ℕ) (all : List RunParts) (runs : List Data) → ArePartsOf count all runs → length all ≡ length runs
runs_long count [] [] parts = refl
runs_long count [] (run ∷ runs) parts = absurd parts
runs_long count (p ∷ all) [] parts = absurd parts
runs_long count (p ∷ all) (run ∷ runs) parts = ap suc (runs_long count all runs parts.2)

pub drafts_long : (listed : Listing) (applied : Record → Applied) (rs : List Record) (ds : List Data) → length rs ≡ length ds
    → length (drafts_by listed applied rs ds) ≡ length rs
drafts_long listed applied [] ds same = refl
drafts_long listed applied (r ∷ rs) [] same = absurd (omega (arith, same))
drafts_long listed applied (r ∷ rs) (d ∷ ds) same = ap suc (drafts_long listed applied rs ds (omega (arith, same)))

pub results_long : (runs : List Data) → length (flat_map results_of runs) ≡ results_total runs
results_long [] = refl
results_long (run ∷ runs) = length-append (results_of run) (flat_map results_of runs) ∙ ap (λ n. length (results_of run) + n) (results_long runs)

pub few_kept : (keep : Data → Bool) (ds : List Data) → length (filter keep ds) ≤ length ds
few_kept keep [] = omega arith
few_kept keep (d ∷ ds) = one (keep d) (few_kept keep ds) where
  one : (kept : Bool) → length (filter keep ds) ≤ length ds → length (cond kept (d ∷ filter keep ds) (filter keep ds)) ≤ suc (length ds)
  one true few = omega (arith, few)
  one false few = omega (arith, few)

pub few_present : (runs : List Data) → length (present_results runs) ≤ results_total runs
few_present [] = omega arith
few_present (run ∷ runs) =
    let joined = length-append (present (results_of run)) (present_results runs) in
    let here = few_kept (λ d. not (is_absent_result d)) (results_of run) in
    let rest = few_present runs in
    omega (arith, joined, here, rest)

pub states_long : (v : MatchingVersion) (bs : List Record) (ps : List (Option ℕ)) (n : ℕ) (cs : List Record)
    → length (states_from v bs ps n cs) ≡ length cs
states_long v bs ps n [] = refl
states_long v bs ps n (c ∷ cs) = ap suc (states_long v bs ps (n + 1) cs)

pub taken_long : (v : MatchingVersion) (cs bs : List Record) → length (taken_of v cs bs) ≡ length bs
taken_long v cs bs =
    length-map (range_with_len 0 (length bs)) (is_taken (partners_in v cs bs)) ∙ length-range_with_len 0 (length bs)

-- ---- numbers of results

pub own_total : (all : List RunParts) (runs : List Data) → ArePartsOf own_count all runs → counts_in_parts all ≡ results_total runs
own_total [] [] parts = refl
own_total [] (run ∷ runs) parts = absurd parts
own_total (p ∷ all) [] parts = absurd parts
own_total (p ∷ all) (run ∷ runs) parts =
    ap (λ n. n + counts_in_parts all) (run_count p run parts.1) ∙ ap (λ n. length (results_of run) + n) (own_total all runs parts.2)

pub records_present : (ps : List Placed) → faults_of_runs ps ≡ [] → AllByRecursion (λ p. skips p.source ≡ true) ps
    → length (records_of ps) ≡ length (present_results (run_values ps))
records_present [] sound baselines = refl
records_present (p ∷ ps) sound baselines =
    let here = records_of_baseline p baselines.0 (no_faults_here (run_faults p) (faults_of_runs ps) sound) in
    let rest = records_present ps (no_faults_left (run_faults p) (faults_of_runs ps) sound) baselines.1 in
    length-append (records_in (items_of p)) (records_of ps) ∙ ap (λ n. n + length (records_of ps)) here ∙ ap (λ n. length (present (results_of p.run)) + n) rest
    ∙ sym (length-append (present (results_of p.run)) (present_results (run_values ps)))

-- ---- runs without results

found_same : (found : Option Items) → is_some (option_map (λ ds. length (elements ds)) found) ≡ is_some found
found_same None = refl
found_same (Some ds) = refl

counted : (all : List RunParts) (runs : List Data) → ArePartsOf own_count all runs
    → length (filter (λ parts. not (is_some parts.results)) all) ≡ length (filter (λ run. not (is_some (results_array run))) runs)
counted [] [] parts = refl
counted [] (run ∷ runs) parts = absurd parts
counted (p ∷ all) [] parts = absurd parts
counted (p ∷ all) (run ∷ runs) parts =
    one (is_some p.results) (is_some (results_array run)) (ap is_some parts.1 ∙ found_same (results_array run)) (counted all runs parts.2) where
      one : (a b : Bool) → a ≡ b
          → length (filter (λ parts. not (is_some parts.results)) all) ≡ length (filter (λ run. not (is_some (results_array run))) runs)
          → length (cond (not a) (p ∷ filter (λ parts. not (is_some parts.results)) all) (filter (λ parts. not (is_some parts.results)) all))
          ≡ length (cond (not b) (run ∷ filter (λ run. not (is_some (results_array run))) runs) (filter (λ run. not (is_some (results_array run))) runs))
      one true true same rest = rest
      one false false same rest = ap suc rest
      one true false same rest = cc
      one false true same rest = cc

pub without_results : (all : List RunParts) (runs : List Data) (n : ℕ) → ArePartsOf own_count all runs → n ≡ count_by (λ parts. not (is_some parts.results)) all
    → n ≡ runs_without_results runs
without_results all runs n parts is =
    is ∙ sym (length-filter (λ parts. not (is_some parts.results)) all) ∙ counted all runs parts ∙ length-filter (λ run. not (is_some (results_array run))) runs
