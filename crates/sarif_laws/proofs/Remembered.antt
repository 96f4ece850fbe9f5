-- The known log of a merge is read as its runs.
use Rattle.std.proofs.Common.{◌≡◌, ◌+◌, ◌≤◌, ◌++◌, ◌||◌, ℕ, Bool, true, false, List, [], ◌∷◌, length, map, Ok, refl, sym, ap, ap₂, subst, ◌∙◌, arith, length-append, true≢false}
use Rattle.std.specs.Prelude.{Some, codes, nat_lt, option_map}
use Rattle.std.specs.List.{AllByRecursion}
use Rattle.std.specs.Str.{IsUtf8}
use Rattle.std.proofs.lemmas.Bool.{ltb-false}
use Rattle.std.proofs.lemmas.List.{length-map, map-append}
use Rattle.json.specs.Tree as tree
use Rattle.json.proofs.Printed.Decimals.{IsNumber-decimal}
use Rattle.json.proofs.Printed.Trees.{ArePrintable-json_tokens}
use Rattle.serde_json.specs.Data.{Data, null, boolean, number, unsigned, negative, float, string, array, object, Items, no_items, item, Members, no_members, member}
use Rattle.serde_json.specs.View.{items_of}
use Rattle.serde_json.specs.Written.{items_outline, members_outline, outline}
use Rattle.sarif_model.specs.declared.record.Record.{Record}
use Rattle.sarif_model.specs.declared.merge_fault.Source.TheVariants.{Log, Baseline}
use Rattle.sarif_model.specs.Limits.{most_results, most_runs}
use Rattle.sarif_model.specs.Run.{results_total}
use Rattle.sarif_model.specs.Written.{list_if_any}
use Rattle.sarif_evidence.specs.declared.version.MatchingVersion.{MatchingVersion}
use Rattle.sarif_evidence.specs.declared.version.MatchingVersion.TheVariants.{Two, Three}
use Rattle.sarif_options.specs.declared.policy.Policy.{Policy}
use Rattle.sarif_options.specs.declared.upkeep.Knowing.{Knowing}
use Rattle.sarif_runs.specs.Judging.{faults_of_runs, run_values}
use Rattle.sarif_read.specs.Reading.{log_of}
use Rattle.sarif_results.proofs.JudgedCounts.{no_faults_here, no_faults_left}
use Rattle.sarif_inputs.specs.Faults.{faults_of}
use Rattle.sarif_inputs.specs.Inputs.{Inputs, Sourced, all_sources, baseline_runs, baseline_sources, input_runs, log_sources, looks_at_regions, placed, placed_from, reading_checks, record_options, runs_in}
use Rattle.sarif_inputs.specs.SourceFaults.{limit_faults, reading_faults, source_faults}
use Rattle.sarif_inputs.proofs.ReadFacts.{baseline_sides, log_sides, placed-append}
use Rattle.sarif_inputs.proofs.SourceRuns.{data_placed}
use Rattle.sarif_inputs_laws.proofs.Parts.{apart_faults}
use Rattle.sarif_known.specs.Chosen.{Chosen, known_as, knows_regions, results_among, run_as}
use Rattle.sarif_known.specs.KnownLog.{known_log, known_text, pretty_text}
use Rattle.sarif_known.specs.KnownResult.{known_result, object_from}
use Rattle.sarif_known.specs.KnownRun.{artifact_at, base_alone, bases_alone, known_run, next_number, results_from, tool_named, with_some}
use Rattle.sarif_known.specs.Laws.{CanBeRead, IsOfTool, IsReadable}
use Rattle.sarif_known.specs.Order.{known_runs}
use Rattle.sarif_runs.specs.Ignoring.{without_names}
use Rattle.sarif_runs.specs.declared.run_options.RecordOptions.{RecordOptions}
use Rattle.sarif_known.proofs.KnownPlain.{log_plain}
use Rattle.sarif_known.proofs.LogBack.{log_back, text_read}
use Rattle.sarif_known.proofs.RecordBack.{none_placed}
use Rattle.sarif_known.proofs.Plain.{AreItemsPlain, AreMembersPlain, IsPlain}
use Rattle.sarif_known.proofs.RunBack.{known_again}
use Rattle.sarif_merge.specs.Life.{merge_in}
use Rattle.sarif_merge.proofs.OwnResult.{faultless_runs}
use Rattle.sarif_heard.specs.Heard.{heard}
use Rattle.sarif_upkeep.specs.Known.{adopts, known_before, known_now, runs_known}
use Rattle.sarif_log.proofs.Limits.{records_unadmitted}
use Rattle.sarif_merge.specs.MergedLog.{current_of, file_given}
use Rattle.sarif_laws.specs.KnownAgain.{IsKnownAgain, as_read, run_as_read}
use Rattle.sarif_laws.proofs.Grouping.{known_total, total_results, total_runs}
use Rattle.sarif_laws.proofs.KnownRuns.{IsChosenAgain, all_again, before_few, before_long, before_sound, grouped_sound, now_few, now_long, now_sound}
use Rattle.sarif_laws.proofs.Limited.{read_limited}
use Rattle.sarif_laws.proofs.OfTool.{sources_sound}
use Rattle.sarif_laws.proofs.Printed.{pretty_tokens}

-- ---- the limits of what is read

within_limits : (source : _) (runs results : ℕ) → limit_faults source runs results ≡ [] → (runs ≤ most_runs) × (results ≤ most_results)
within_limits source runs results none = by_tests (nat_lt most_runs runs) (nat_lt most_results results) refl refl none
  where
    by_tests : (a b : Bool) → nat_lt most_runs runs ≡ a → nat_lt most_results results ≡ b → limit_faults source runs results ≡ [] → (runs ≤ most_runs)
        × (results ≤ most_results)
    by_tests true b first second none = let never : ⊥ = cc in absurd never
    by_tests false true first second none = let never : ⊥ = cc in absurd never
    by_tests false false first second none = (ltb-false most_runs runs first, ltb-false most_results results second)

total-append : (xs ys : List Data) → results_total (xs ++ ys) ≡ results_total xs + results_total ys
total-append [] ys = omega arith
total-append (x ∷ xs) ys = omega (arith, total-append xs ys)

record AreWithin (runs results : ℕ) (sources : List Sourced) : Type 0 where
  runs_fit : runs + length (placed sources) ≤ most_runs
  results_fit : results + results_total (run_values (placed sources)) ≤ most_results

all_within : (runs results : ℕ) (sources : List Sourced) → runs ≤ most_runs → results ≤ most_results → source_faults runs results sources ≡ []
    → AreWithin runs results sources
all_within runs results [] few few_results none = record { runs_fit = omega (arith, few); results_fit = omega (arith, few_results) }
all_within runs results (s ∷ rest) few few_results none =
    let here = runs_in s in
    let now = runs + length here in
    let all = results + results_total here in
    let reading = reading_faults s.source (log_of s.checks.allow_external s.bytes) in
    let first = no_faults_here (reading ++ limit_faults s.source now all) (source_faults now all rest) none in
    let limits = within_limits s.source now all (no_faults_left reading (limit_faults s.source now all) first) in
    let later = all_within now all rest limits.0 limits.1 (no_faults_left (reading ++ limit_faults s.source now all) (source_faults now all rest) none) in
    let own = placed_from s.checks s.source 0 here in
    let values : run_values own ≡ here = data_placed s.checks s.source 0 here in
    let long : length own ≡ length here = sym (length-map own (λ p. p.run)) ∙ ap length values in
    let joined = ap results_total (map-append (λ p. p.run) own (placed rest)) ∙ total-append (run_values own) (run_values (placed rest)) in
    let own_total = ap results_total values in
    record {
      runs_fit = omega (arith, later.runs_fit, long, length-append own (placed rest));
      results_fit = omega (arith, later.results_fit, joined, own_total);
    }

-- ---- the runs without errors

pub sources_faultless : (inputs : Inputs) → faults_of inputs ≡ [] → source_faults 0 0 (all_sources inputs) ≡ []
sources_faultless inputs none = (apart_faults inputs none).sources

pub faultless_before : (inputs : Inputs) → faults_of inputs ≡ [] → faults_of_runs (baseline_runs inputs) ≡ []
faultless_before inputs none = (apart_faults inputs none).older_runs

-- ---- its runs as they are read

records_again : (options : RecordOptions) (tool : List ℕ) (rs : List Record) → AllByRecursion (λ r. IsOfTool options tool (as_read r)) rs
    → AllByRecursion (IsOfTool options tool) (map as_read rs)
records_again options tool [] all = tt
records_again options tool (r ∷ rs) all = (all.0, records_again options tool rs all.1)

runs_again : (options : RecordOptions) (runs : List Chosen) → AllByRecursion (IsChosenAgain options) runs
    → AllByRecursion (λ run. AllByRecursion (IsOfTool options run.tool) run.records) (map run_as_read runs)
runs_again options [] all = tt
runs_again options (run ∷ runs) all = (records_again options run.tool run.records all.0, runs_again options runs all.1)

as_many_results : (runs : List Chosen) → results_among (map run_as_read runs) ≡ results_among runs
as_many_results [] = refl
as_many_results (run ∷ runs) = ap₂ (λ m n. m + n) (length-map run.records as_read) (as_many_results runs)

as_many_known : (regions : Bool) (runs : List Chosen) → results_among (map (run_as regions) runs) ≡ results_among runs
as_many_known regions [] = refl
as_many_known regions (run ∷ runs) = ap₂ (λ m n. m + n) (length-map run.records (known_as regions)) (as_many_known regions runs)

-- a record that can be read again can be read again as it becomes known
readable_as : (own options : RecordOptions) (regions : Bool) (r : Record) → options.ignored ≡ own.ignored → (regions ≡ true → options.regions ≡ true)
    → IsReadable own r → IsReadable options (known_as regions r)
readable_as own options true r ignored fit readable = record {
  guid = readable.guid;
  level = readable.level;
  full = readable.full;
  partial = readable.partial;
  full_kept = ap (λ names. without_names names r.full) ignored ∙ readable.full_kept;
  partial_kept = ap (λ names. without_names names r.partial) ignored ∙ readable.partial_kept;
  region = readable.region;
  snippet = readable.snippet;
  region_placed = readable.region_placed;
  snippet_placed = readable.snippet_placed;
  no_region = λ none. absurd (true≢false (sym (fit refl) ∙ none));
  no_snippet = λ none. absurd (true≢false (sym (fit refl) ∙ none));
  unadmitted = readable.unadmitted;
}
readable_as own options false r ignored fit readable = record {
  guid = readable.guid;
  level = readable.level;
  full = readable.full;
  partial = readable.partial;
  full_kept = ap (λ names. without_names names r.full) ignored ∙ readable.full_kept;
  partial_kept = ap (λ names. without_names names r.partial) ignored ∙ readable.partial_kept;
  region = tt;
  snippet = tt;
  region_placed = none_placed r.place;
  snippet_placed = none_placed r.place;
  no_region = λ _. refl;
  no_snippet = λ _. refl;
  unadmitted = readable.unadmitted;
}

module _ (own options : RecordOptions) (regions : Bool) (ignored : options.ignored ≡ own.ignored) (fit : regions ≡ true → options.regions ≡ true) where
  each_as : (tool : List ℕ) (rs : List Record) → AllByRecursion (λ r. IsOfTool own tool (as_read r)) rs
      → AllByRecursion (λ r. IsOfTool options tool (as_read r)) (map (known_as regions) rs)
  each_as tool [] all = tt
  each_as tool (r ∷ rs) all = (
    record { tool_is = all.0.tool_is; readable = readable_as own options regions (as_read r) ignored fit all.0.readable },
    each_as tool rs all.1,
  )

  chosen_as : (runs : List Chosen) → AllByRecursion (IsChosenAgain own) runs → AllByRecursion (IsChosenAgain options) (map (run_as regions) runs)
  chosen_as [] all = tt
  chosen_as (run ∷ runs) all = (each_as run.tool run.records all.0, chosen_as runs all.1)

-- the options with which a known log is read
pub known_fit : (v : MatchingVersion) (once : Bool) → knows_regions v once ≡ true → (looks_at_regions v || once) ≡ true
known_fit Two once is = is
known_fit Three once is = refl

results_alike : (n : ℕ) (rs : List Record) → results_from n (map as_read rs) ≡ results_from n rs
results_alike n [] = refl
results_alike n (r ∷ rs) = ap (λ l. known_result r (option_map (λ _. n) (base_alone r)) ∷ l) (results_alike (next_number n (base_alone r)) rs)

bases_alike : (rs : List Record) → bases_alone (map as_read rs) ≡ bases_alone rs
bases_alike [] = refl
bases_alike (r ∷ rs) = ap (with_some (base_alone r)) (bases_alike rs)

run_alike : (run : Chosen) → known_run (run_as_read run) ≡ known_run run
run_alike run =
    ap₂ (λ bases results. object_from ((codes "artifacts", list_if_any (map artifact_at bases))
    ∷ (codes "results", Some (array (items_of results)))
    ∷ (codes "tool", Some (tool_named run.tool))
    ∷ [])) (bases_alike run.records) (results_alike 0 run.records)

-- the runs as they are read are written as the runs themselves
pub runs_alike : (runs : List Chosen) → map known_run (map run_as_read runs) ≡ map known_run runs
runs_alike [] = refl
runs_alike (run ∷ runs) = ap₂ (λ x xs. x ∷ xs) (run_alike run) (runs_alike runs)

log_alike : (runs : List Chosen) → known_log (map run_as_read runs) ≡ known_log runs
log_alike runs =
    ap (λ ds. object (member (codes "runs") (array (items_of ds)) (member (codes "version") (string (codes "2.1.0")) no_members))) (runs_alike runs)

-- ---- the known log can be read

module _ (inputs : Inputs) (policy : Policy) (knowing : Knowing) (none : faults_of inputs ≡ []) where
  records_read : map as_read (merge_in inputs policy).records ≡ current_of inputs
  records_read = read_limited (file_given inputs) (current_of inputs) (records_unadmitted (input_runs inputs))

  -- with any options that ignore the same, and that read regions if the known log has them
  pub can_be_read : (options : RecordOptions) → options.ignored ≡ inputs.checks.ignored
      → (knows_regions inputs.checks.matching inputs.checks.once ≡ true → options.regions ≡ true)
      → CanBeRead options (map run_as_read (runs_known (merge_in inputs policy) knowing))
  can_be_read options ignored fit =
      let own = record_options (reading_checks inputs) in
      let m = merge_in inputs policy in
      let adopt = adopts knowing in
      let now = known_now m adopt in
      let before = known_before m in
      let limits = all_within 0 0 (all_sources inputs) (omega arith) (omega arith) (sources_faultless inputs none) in
      let split = placed-append (log_sources inputs) (baseline_sources inputs) in
      let runs_split = ap length split ∙ length-append (input_runs inputs) (baseline_runs inputs) in
      let results_split =
      ap (λ ps. results_total (run_values ps)) split ∙ ap results_total (map-append (λ p. p.run) (input_runs inputs) (baseline_runs inputs))
      ∙ total-append (run_values (input_runs inputs)) (run_values (baseline_runs inputs)) in
      let now_is = now_long m.file m.policy adopt m.runs m.records m.standings in
      let before_is = before_long (heard m.runs) m.before m.known m.taken in
      let now_fits = now_few m.file m.policy adopt m.runs m.records m.standings in
      let before_fits = before_few (heard m.runs) m.before m.known m.taken in
      record {
        each = runs_again options (runs_known m knowing)
            (chosen_as own options m.regions ignored fit (known_runs m.matching now before)
            (grouped_sound own m.matching now before
            (now_sound own m.file m.policy adopt (input_runs inputs) m.records m.standings records_read
            (faultless_runs inputs none) (log_sides (reading_checks inputs) 0 inputs.logs) (sources_sound (reading_checks inputs) Log 0 inputs.logs))
            (all_again own before
            (before_sound own (heard m.runs) (baseline_runs inputs) m.taken (faultless_before inputs none)
            (baseline_sides (reading_checks inputs) 0 inputs.baselines) (sources_sound (reading_checks inputs) Baseline 0 inputs.baselines)))));
        few_runs = omega (
          arith,
          length-map (runs_known m knowing) run_as_read,
          length-map (known_runs m.matching now before) (run_as m.regions),
          known_total (λ _. 1) m.matching now before,
          total_runs (known_runs m.matching now before),
          total_runs now,
          total_runs before,
          now_is,
          before_is,
          length-map (input_runs inputs) (λ p. p.run),
          length-map (baseline_runs inputs) (λ p. p.run),
          runs_split,
          limits.runs_fit,
        );
        few_results = omega (
          arith,
          as_many_results (runs_known m knowing),
          as_many_known m.regions (known_runs m.matching now before),
          known_total (λ run. length run.records) m.matching now before,
          total_results (known_runs m.matching now before),
          total_results now,
          total_results before,
          now_fits,
          before_fits,
          results_split,
          limits.results_fit,
        );
      }

-- ---- its text

mutual
  plain_numbers : (d : Data) → IsPlain d → tree.HasNumbers (outline d)
  plain_numbers null plain = tt
  plain_numbers (boolean b) plain = tt
  plain_numbers (number (unsigned n)) plain = IsNumber-decimal n plain
  plain_numbers (number (negative z)) plain = absurd plain
  plain_numbers (number (float x)) plain = absurd plain
  plain_numbers (string s) plain = tt
  plain_numbers (array ds) plain = items_numbers ds plain
  plain_numbers (object ms) plain = members_numbers ms plain

  items_numbers : (ds : Items) → AreItemsPlain ds → tree.ItemsHaveNumbers (items_outline ds)
  items_numbers no_items plain = tt
  items_numbers (item d ds) plain = (plain_numbers d plain.0, items_numbers ds plain.1)

  members_numbers : (ms : Members) → AreMembersPlain ms → tree.MembersHaveNumbers (members_outline ms)
  members_numbers no_members plain = tt
  members_numbers (member k d ms) plain = (plain_numbers d plain.1, members_numbers ms plain.2)

pub known_read : (inputs : Inputs) (policy : Policy) (knowing : Knowing) → faults_of inputs ≡ []
    → IsUtf8 (known_text (runs_known (merge_in inputs policy) knowing))
    → IsKnownAgain (record_options inputs.checks) (runs_known (merge_in inputs policy) knowing) (known_text (runs_known (merge_in inputs policy) knowing))
known_read inputs policy knowing none utf8 =
    let runs = runs_known (merge_in inputs policy) knowing in
    let again = map run_as_read runs in
    let options = record_options inputs.checks in
    let can = can_be_read inputs policy knowing none options refl (known_fit inputs.checks.matching inputs.checks.once) in
    let d = known_log runs in
    let same : known_log again ≡ d = log_alike runs in
    let plain : IsPlain d = subst IsPlain same (log_plain options again can.each can.few_results) in
    let tokens_are = pretty_tokens (tree.json_tokens (outline d)) (ArePrintable-json_tokens (outline d) (plain_numbers d plain)) in
    let value =
    text_read options again (pretty_text d) can (ap pretty_text (sym same)) (tokens_are ∙ ap (λ x. tree.json_tokens (outline x)) (sym same)) utf8 in
    record {
      log = λ allow. log_back options allow again (known_text runs) can value ∙ ap Ok (runs_alike runs);
      again = λ placed alike are. known_again options again placed alike (are ∙ sym (runs_alike runs)) can.each can.few_results;
    }
