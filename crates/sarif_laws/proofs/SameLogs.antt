-- The same logs have the same records, regardless of what is required of their runs.
use Rattle.std.proofs.Common.{◌≡◌, ℕ, ◌+◌, ◌||◌, Bool, true, false, List, [], ◌∷◌, ◌++◌, map, length, refl, sym, ap, ap₂, subst, ◌∙◌}
use Rattle.std.specs.Prelude.{Result, Ok, Err}
use Rattle.std.specs.List.{AllByRecursion}
use Rattle.std.proofs.lemmas.List.{map-append}
use Rattle.std.proofs.lemmas.List.Concat.{flat_map-append}
use Rattle.serde_json.specs.Data.{Data}
use Rattle.json_parts.specs.Indexed.{json_of}
use Rattle.json_parts.specs.Mark.{without_mark}
use Rattle.sarif_model.specs.declared.fault.Fault.TheVariants.{NotJson}
use Rattle.sarif_model.specs.declared.merge_fault.Source.{Source}
use Rattle.sarif_model.specs.declared.merge_fault.Source.TheVariants.{Log}
use Rattle.sarif_model.specs.Run.{results_total, runs_of}
use Rattle.sarif_evidence.specs.declared.version.MatchingVersion.{MatchingVersion}
use Rattle.sarif_evidence.specs.declared.version.MatchingVersion.TheVariants.{Two, Three}
use Rattle.sarif_options.specs.declared.checks.Checks.{Checks}
use Rattle.sarif_read.specs.declared.read_fault.ReadFault.{ReadFault}
use Rattle.sarif_read.specs.Reading.{at_whole, check_each, check_log, log_of, log_of_value, ok_or}
use Rattle.sarif_read.specs.Stripping.{stripped}
use Rattle.sarif_read.proofs.WholeRuns.{bind_ok}
use Rattle.sarif_runs.specs.Judging.{items_of, records_in, records_of}
use Rattle.sarif_results.proofs.JudgedCounts.{no_faults_here, no_faults_left}
use Rattle.sarif_inputs.specs.Faults.{faults_of}
use Rattle.sarif_inputs.specs.Inputs.{Inputs, Sourced, all_sources, baseline_sources, log_sources, looks_at_regions, must_succeed, numbered, placed, placed_from, readable, reading_checks, record_options, run_options, runs_in}
use Rattle.sarif_inputs.proofs.ReadAgain.{counting}
use Rattle.sarif_inputs.specs.SourceFaults.{limit_faults, reading_faults, source_faults}
use Rattle.sarif_known.specs.Chosen.{known_as, knows_regions}
use Rattle.sarif_known_laws.proofs.BareRecords.{bare, run_bare, without_regions}
use Rattle.sarif_runs.specs.Placed.{Placed}
use Rattle.sarif_merge.specs.MergedLog.{current_of}
use Rattle.sarif_laws.proofs.Read.{ok_is}
use Rattle.sarif_laws.proofs.Remembered.{sources_faultless}

-- ---- each source is read

abbrev IsReadable : Sourced → Type 0
IsReadable s = (runs : List Data) × (log_of s.checks.allow_external s.bytes ≡ Ok runs)

reading_ok : (source : Source) (r : Result (List Data) ReadFault) → reading_faults source r ≡ [] → (runs : List Data) × (r ≡ Ok runs)
reading_ok source (Ok runs) none = (runs, refl)
reading_ok source (Err fault) none = let never : ⊥ = cc in absurd never

each_read : (runs results : ℕ) (sources : List Sourced) → source_faults runs results sources ≡ [] → AllByRecursion IsReadable sources
each_read runs results [] none = tt
each_read runs results (s ∷ rest) none =
    let here = runs_in s in
    let now = runs + length here in
    let all = results + results_total here in
    let reading = reading_faults s.source (log_of s.checks.allow_external s.bytes) in
    let limits = limit_faults s.source now all in (
      reading_ok s.source (log_of s.checks.allow_external s.bytes)
          (no_faults_here reading limits (no_faults_here (reading ++ limits) (source_faults now all rest) none)),
      each_read now all rest (no_faults_left (reading ++ limits) (source_faults now all rest) none),
    )

all_front : (xs ys : List Sourced) → AllByRecursion IsReadable (xs ++ ys) → AllByRecursion IsReadable xs
all_front [] ys all = tt
all_front (x ∷ xs) ys all = (all.0, all_front xs ys all.1)

logs_read : (inputs : Inputs) → faults_of inputs ≡ [] → AllByRecursion IsReadable (log_sources inputs)
logs_read inputs none = all_front (log_sources inputs) (baseline_sources inputs) (each_read 0 0 (all_sources inputs) (sources_faultless inputs none))

-- ---- as the same runs

value_runs : (allow : Bool) (d : Data) (runs : List Data) → log_of_value allow d ≡ Ok runs → runs ≡ runs_of d
unfolding log_of_value
value_runs allow d runs is =
    let checked = bind_ok (at_whole (check_log d)) _ runs is in
    let each = bind_ok (check_each allow 0 0 (runs_of d)) _ runs checked.2 in
    sym (ok_is (runs_of d) runs each.2)

one_log : (a b : Bool) (bytes : List ℕ) (xs ys : List Data) → log_of a bytes ≡ Ok xs → log_of b bytes ≡ Ok ys → xs ≡ ys
unfolding log_of
one_log a b bytes xs ys first second =
    let one = bind_ok (at_whole (ok_or (json_of (without_mark bytes)) NotJson)) _ xs first in
    let other = bind_ok (at_whole (ok_or (json_of (without_mark bytes)) NotJson)) _ ys second in
    let same : one.0 ≡ other.0 = ok_is one.0 other.0 (sym one.1 ∙ other.1) in
    value_runs a (stripped one.0) xs one.2 ∙ ap (λ d. runs_of (stripped d)) same ∙ sym (value_runs b (stripped other.0) ys other.2)

-- ---- with the same records

module _ (c d : Checks) (alike : record_options c ≡ record_options d) where
  placed_same : (k n : ℕ) (runs : List Data) → records_of (placed_from c (Log k) n runs) ≡ records_of (placed_from d (Log k) n runs)
  placed_same k n [] = refl
  placed_same k n (run ∷ runs) =
      (λ i. records_in (items_of (record {
        source = Log k;
        number = n;
        options = record { must_succeed = c.require_success; records = alike i };
        run = run;
      })) ++ placed_same k (n + 1) runs i)

  same_records : (k : ℕ) (logs : List (List ℕ)) → AllByRecursion IsReadable (numbered c Log k logs)
      → AllByRecursion IsReadable (numbered d Log k logs) → records_of (placed (numbered c Log k logs)) ≡ records_of (placed (numbered d Log k logs))
  same_records k [] here there = refl
  same_records k (bytes ∷ logs) here there =
      let xs = here.0.0 in
      let ys = there.0.0 in
      let same : xs ≡ ys = one_log c.allow_external d.allow_external bytes xs ys here.0.1 there.0.1 in
      flat_map-append (λ p. records_in (items_of p)) (placed_from c (Log k) 0 (readable (log_of c.allow_external bytes))) (placed (numbered c Log (k + 1) logs))
      ∙ ap₂ (λ rs more. rs ++ more)
      (ap (λ r. records_of (placed_from c (Log k) 0 (readable r))) here.0.1 ∙ placed_same k 0 xs
      ∙ ap (λ runs. records_of (placed_from d (Log k) 0 runs)) same ∙ sym (ap (λ r. records_of (placed_from d (Log k) 0 (readable r))) there.0.1))
      (same_records (k + 1) logs here.1 there.1)
      ∙ sym (flat_map-append (λ p. records_in (items_of p)) (placed_from d (Log k) 0 (readable (log_of d.allow_external bytes)))
      (placed (numbered d Log (k + 1) logs)))

pub same_current : (inputs later : Inputs) → later.logs ≡ inputs.logs → record_options (reading_checks inputs) ≡ record_options (reading_checks later)
    → faults_of inputs ≡ [] → faults_of later ≡ [] → current_of inputs ≡ current_of later
same_current inputs later same alike first second =
    let one = logs_read inputs first in
    let other = subst (λ logs. AllByRecursion IsReadable (numbered (reading_checks later) Log 0 logs)) same (logs_read later second) in
    same_records (reading_checks inputs) (reading_checks later) alike 0 inputs.logs one other
    ∙ sym (ap (λ logs. records_of (placed (numbered (reading_checks later) Log 0 logs))) same)

-- ---- without regions

still_readable : (once : Bool) (checks : Checks) (k : ℕ) (logs : List (List ℕ)) → AllByRecursion IsReadable (numbered checks Log k logs)
    → AllByRecursion IsReadable (numbered (counting once checks) Log k logs)
still_readable once checks k [] all = tt
still_readable once checks k (bytes ∷ logs) all = (all.0, still_readable once checks (k + 1) logs all.1)

module _ (once : Bool) (checks : Checks) (alike : record_options (counting once checks) ≡ without_regions (record_options checks)) where
  from_bare : (source : Source) (n : ℕ) (runs : List Data)
      → records_of (placed_from (counting once checks) source n runs) ≡ map bare (records_of (placed_from checks source n runs))
  from_bare source n [] = refl
  from_bare source n (run ∷ runs) =
      let p : Placed = record { source = source; number = n; options = run_options checks source; run = run } in
      ap₂ (λ rs more. rs ++ more)
      (ap
      (λ o. records_in (items_of (record {
        source = source;
        number = n;
        options = record { must_succeed = must_succeed checks source; records = o };
        run = run;
      }))) alike
      ∙ run_bare p)
      (from_bare source (n + 1) runs)
      ∙ sym (map-append bare (records_in (items_of p)) (records_of (placed_from checks source (n + 1) runs)))

  pub all_bare : (name : ℕ → Source) (k : ℕ) (sources : List (List ℕ))
      → records_of (placed (numbered (counting once checks) name k sources)) ≡ map bare (records_of (placed (numbered checks name k sources)))
  all_bare name k [] = refl
  all_bare name k (bytes ∷ sources) =
      let here = readable (log_of checks.allow_external bytes) in
      let own = placed_from checks (name k) 0 here in
      let rest = placed (numbered checks name (k + 1) sources) in
      flat_map-append (λ p. records_in (items_of p)) (placed_from (counting once checks) (name k) 0 here) (placed (numbered (counting once checks) name (k + 1) sources))
      ∙ ap₂ (λ rs more. rs ++ more) (from_bare (name k) 0 here) (all_bare name (k + 1) sources)
      ∙ sym (map-append bare (records_of own) (records_of rest))
      ∙ ap (map bare) (sym (flat_map-append (λ p. records_in (items_of p)) own rest))

no_regions : (v : MatchingVersion) (once : Bool) → knows_regions v once ≡ false → (looks_at_regions v || once) ≡ false
no_regions Two once is = is
no_regions Three once is = let never : ⊥ = cc in absurd never

pub all_regions : (v : MatchingVersion) (once snippets : Bool) → knows_regions v once ≡ true → (looks_at_regions v || (snippets || once)) ≡ true
all_regions Two true true is = refl
all_regions Two true false is = refl
all_regions Two false snippets is = let never : ⊥ = cc in absurd never
all_regions Three once snippets is = refl

module _ (inputs later : Inputs) (same : later.logs ≡ inputs.logs) (matching : later.checks.matching ≡ inputs.checks.matching)
    (once : later.checks.once ≡ inputs.checks.once) (ignored : later.checks.ignored ≡ inputs.checks.ignored)
    (first : faults_of inputs ≡ []) (second : faults_of later ≡ []) where
  pub regions_same : knows_regions later.checks.matching later.checks.once ≡ knows_regions inputs.checks.matching inputs.checks.once
  regions_same = ap₂ knows_regions matching once

  module _ (none : knows_regions inputs.checks.matching inputs.checks.once ≡ false) where
    later_none : knows_regions later.checks.matching later.checks.once ≡ false
    later_none = regions_same ∙ none

    plain : (i : Inputs) → knows_regions i.checks.matching i.checks.once ≡ false
        → records_of (placed (numbered i.checks Log 0 i.logs)) ≡ map bare (current_of i)
    plain i is =
        all_bare i.checks.once (reading_checks i) (λ j. record { regions = no_regions i.checks.matching i.checks.once is j; ignored = i.checks.ignored }) Log 0 i.logs

    plain_same : records_of (placed (numbered inputs.checks Log 0 inputs.logs)) ≡ records_of (placed (numbered later.checks Log 0 later.logs))
    plain_same =
        let one = still_readable inputs.checks.once (reading_checks inputs) 0 inputs.logs (logs_read inputs first) in
        let other = still_readable later.checks.once (reading_checks later) 0 inputs.logs
        (subst (λ logs. AllByRecursion IsReadable (numbered (reading_checks later) Log 0 logs)) same (logs_read later second)) in
        same_records inputs.checks later.checks
        (λ j. record { regions = looks_at_regions (sym matching j) || sym once j; ignored = sym ignored j }) 0 inputs.logs one other
        ∙ sym (ap (λ logs. records_of (placed (numbered later.checks Log 0 logs))) same)

    bare_same : map bare (current_of inputs) ≡ map bare (current_of later)
    bare_same = sym (plain inputs none) ∙ plain_same ∙ plain later later_none

  module _ (all : knows_regions inputs.checks.matching inputs.checks.once ≡ true) where
    kept_same : map (known_as true) (current_of inputs) ≡ map (known_as true) (current_of later)
    kept_same =
        let regions = all_regions inputs.checks.matching inputs.checks.once inputs.snippets all
        ∙ sym (all_regions later.checks.matching later.checks.once later.snippets (regions_same ∙ all)) in
        ap (map (known_as true)) (same_current inputs later same (λ j. record { regions = regions j; ignored = sym ignored j }) first second)

  -- the same logs have the same records as far as these become known
  pub known_current : map (known_as (knows_regions inputs.checks.matching inputs.checks.once)) (current_of inputs)
      ≡ map (known_as (knows_regions inputs.checks.matching inputs.checks.once)) (current_of later)
  known_current = by_regions (knows_regions inputs.checks.matching inputs.checks.once) refl
    where
      by_regions : (b : Bool) → knows_regions inputs.checks.matching inputs.checks.once ≡ b
          → map (known_as b) (current_of inputs) ≡ map (known_as b) (current_of later)
      by_regions true is = kept_same is
      by_regions false is = bare_same is
