-- Runs that are read with regions and snippets, as if copies weren't counted.
use Rattle.std.proofs.Common.{◌≡◌, ◌+◌, ◌<◌, ◌++◌, ◌||◌, ℕ, zero, suc, Bool, true, false, List, [], ◌∷◌, map, length, get_or, refl, ap, ap₂, ◌∙◌, arith}
use Rattle.std.proofs.lemmas.List.{length-map, map-append}
use Rattle.serde_json.specs.Data.{Data}
use Rattle.sarif_evidence.specs.declared.version.MatchingVersion.{MatchingVersion}
use Rattle.sarif_evidence.specs.declared.version.MatchingVersion.TheVariants.{Two, Three}
use Rattle.sarif_options.specs.declared.checks.Checks.{Checks}
use Rattle.sarif_model.specs.Run.{results_total}
use Rattle.sarif_model.specs.declared.merge_fault.Source.{Source}
use Rattle.sarif_model.specs.declared.merge_fault.Source.TheVariants.{Log, Baseline, Suppress, Policy, Diff, Output, Known}
use Rattle.sarif_read.specs.Reading.{log_of}
use Rattle.sarif_runs.specs.Judging.{run_values}
use Rattle.sarif_runs.specs.Internal.Opened.{placed_of}
use Rattle.sarif_runs.specs.Placed.{Placed}
use Rattle.sarif_runs.specs.declared.opened.OpenedRun.{OpenedRun}
use Rattle.sarif_inputs.specs.Inputs.{Sourced, looks_at_regions, must_succeed, numbered, placed, placed_from, readable}
use Rattle.sarif_inputs.specs.Snippets.{with_regions, with_regions_if}
use Rattle.sarif_inputs.specs.SourceFaults.{limit_faults, reading_faults, source_faults}

-- the same checks, for merges that count copies or don't
abbrev pub counting : Bool → Checks → Checks
counting once checks = record checks { once = once }

same_must : (once : Bool) (checks : Checks) (source : Source) → must_succeed checks source ≡ must_succeed (counting once checks) source
same_must once checks (Log k) = refl
same_must once checks (Baseline k) = refl
same_must once checks Suppress = refl
same_must once checks Policy = refl
same_must once checks Diff = refl
same_must once checks Output = refl
same_must once checks Known = refl

looks_too : (v : MatchingVersion) → true ≡ looks_at_regions v || true
looks_too Two = refl
looks_too Three = refl

regions_from : (checks : Checks) (source : Source) (n : ℕ) (runs : List Data)
    → map with_regions (placed_from checks source n runs) ≡ placed_from (counting true checks) source n runs
regions_from checks source n [] = refl
regions_from checks source n (run ∷ runs) =
    let own : ◌≡◌ {A = Placed} (with_regions (record {
      source = source;
      number = n;
      options = record {
        must_succeed = must_succeed checks source;
        records = record { regions = looks_at_regions checks.matching || checks.once; ignored = checks.ignored };
      };
      run = run;
    })) (record {
      source = source;
      number = n;
      options = record {
        must_succeed = must_succeed (counting true checks) source;
        records = record { regions = looks_at_regions checks.matching || true; ignored = checks.ignored };
      };
      run = run;
    }) = λ i. record {
      source = source;
      number = n;
      options = record {
        must_succeed = same_must true checks source i;
        records = record { regions = looks_too checks.matching i; ignored = checks.ignored };
      };
      run = run;
    } in
    ap₂ (λ p ps. p ∷ ps) own (regions_from checks source (n + 1) runs)

regions_placed : (checks : Checks) (name : ℕ → Source) (k : ℕ) (sources : List (List ℕ))
    → map with_regions (placed (numbered checks name k sources)) ≡ placed (numbered (counting true checks) name k sources)
regions_placed checks name k [] = refl
regions_placed checks name k (bytes ∷ sources) =
    let here = readable (log_of checks.allow_external bytes) in
    map-append with_regions (placed_from checks (name k) 0 here) (placed (numbered checks name (k + 1) sources))
    ∙ ap₂ (λ xs ys. xs ++ ys) (regions_from checks (name k) 0 here) (regions_placed checks name (k + 1) sources)

-- with regions and snippets if this is so, the runs of sources are those that are read so
pub regions_read : (wanted : Bool) (checks : Checks) (name : ℕ → Source) (k : ℕ) (sources : List (List ℕ))
    → with_regions_if wanted (placed (numbered checks name k sources)) ≡ placed (numbered (counting (wanted || checks.once) checks) name k sources)
regions_read true checks name k sources = regions_placed checks name k sources
regions_read false checks name k sources = refl

values_with : (runs : List Placed) → run_values (map with_regions runs) ≡ run_values runs
values_with [] = refl
values_with (p ∷ ps) = ap (λ l. p.run ∷ l) (values_with ps)

-- reading regions changes no run's value
pub values_read : (wanted : Bool) (runs : List Placed) → run_values (with_regions_if wanted runs) ≡ run_values runs
values_read true runs = values_with runs
values_read false runs = refl

pub length_read : (wanted : Bool) (runs : List Placed) → length (with_regions_if wanted runs) ≡ length runs
length_read true runs = length-map runs with_regions
length_read false runs = refl

-- sources have the same errors
pub faults_read : (once : Bool) (checks : Checks) (name : ℕ → Source) (k : ℕ) (sources : List (List ℕ)) (later others : List Sourced)
    → ((runs results : ℕ) → source_faults runs results later ≡ source_faults runs results others) → (runs results : ℕ)
    → source_faults runs results (numbered checks name k sources ++ later)
    ≡ source_faults runs results (numbered (counting once checks) name k sources ++ others)
faults_read once checks name k [] later others same runs results = same runs results
faults_read once checks name k (bytes ∷ sources) later others same runs results =
    let here = readable (log_of checks.allow_external bytes) in
    let now = runs + length here in
    let all = results + results_total here in
    ap (λ faults. (reading_faults (name k) (log_of checks.allow_external bytes) ++ limit_faults (name k) now all) ++ faults)
    (faults_read once checks name (k + 1) sources later others same now all)

-- ---- runs one by one

pub maps_same : (f g : OpenedRun → Placed) (xs ys : List OpenedRun) → length xs ≡ length ys
    → ((d : OpenedRun) (k : ℕ) → k < length xs → f (get_or xs k d) ≡ g (get_or ys k d)) → map f xs ≡ map g ys
maps_same f g [] [] long each = refl
maps_same f g [] (y ∷ ys) long each = absurd (omega (arith, long))
maps_same f g (x ∷ xs) [] long each = absurd (omega (arith, long))
maps_same f g (x ∷ xs) (y ∷ ys) long each =
    ap₂ (λ p ps. p ∷ ps) (each x 0 (omega arith)) (maps_same f g xs ys (omega (arith, long)) (λ d k within. each d (suc k) (omega (arith, within))))

-- within a list, what is read past it doesn't matter
pub any_default : (xs : List OpenedRun) (k : ℕ) (c d : OpenedRun) → k < length xs → get_or xs k c ≡ get_or xs k d
any_default [] k c d within = absurd (omega (arith, within))
any_default (x ∷ xs) zero c d within = refl
any_default (x ∷ xs) (suc k) c d within = any_default xs k c d (omega (arith, within))

pub maps_apart : (runs : List OpenedRun) → map (λ run. with_regions (placed_of run)) runs ≡ map with_regions (map placed_of runs)
maps_apart [] = refl
maps_apart (run ∷ runs) = ap (λ l. with_regions (placed_of run) ∷ l) (maps_apart runs)
