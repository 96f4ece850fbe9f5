-- Sources that can be read after others can be read after fewer, with other numbers too.
use Rattle.std.proofs.Common.{◌≡◌, ◌+◌, ◌≤◌, ◌||◌, ℕ, Bool, true, false, List, [], ◌∷◌, ◌++◌, length, refl, sym, ap, ap₂, ◌∙◌, arith, ⊎_elim, true≢false, if◌then◌else◌}
use Rattle.std.specs.Prelude.{Result, Ok, Err, nat_lt}
use Rattle.std.proofs.lemmas.Bool.{cases_lt, le-ltb, lt-ltb, or_parts}
use Rattle.serde_json.specs.Data.{Data}
use Rattle.sarif_model.specs.declared.fault.Fault.TheVariants.{TooMany}
use Rattle.sarif_model.specs.declared.merge_fault.At.TheVariants.{Whole}
use Rattle.sarif_model.specs.declared.merge_fault.MergeFault.{MergeFault}
use Rattle.sarif_model.specs.declared.merge_fault.Source.{Source}
use Rattle.sarif_model.specs.Limits.{most_results, most_runs, most_sources}
use Rattle.sarif_model.specs.MergeFault.{cause_of, fault_at}
use Rattle.sarif_model.specs.Run.{results_total}
use Rattle.sarif_options.specs.declared.checks.Checks.{Checks}
use Rattle.sarif_read.specs.declared.read_fault.ReadFault.{ReadFault}
use Rattle.sarif_read.specs.Reading.{log_of}
use Rattle.sarif_inputs.specs.Faults.{number_faults}
use Rattle.sarif_inputs.specs.Inputs.{Sourced, numbered, runs_in}
use Rattle.sarif_inputs.specs.SourceFaults.{is_past_limits, limit_faults, reading_faults, source_faults}
use Rattle.sarif_inputs_laws.proofs.Renumbered.{both_empty, none_both}

-- ---- limits

within : (most n : ℕ) → nat_lt most n ≡ false → n ≤ most
within most n is = ⊎_elim (λ lt. absurd (true≢false (sym (lt-ltb most n lt) ∙ is))) (λ le. le) (cases_lt most n)

abbrev one_if : Bool → MergeFault → List MergeFault
one_if b fault = if b then fault ∷ [] else []

none_if : (b : Bool) (fault : MergeFault) → one_if b fault ≡ [] → b ≡ false
none_if true fault is = let never : ⊥ = cc in absurd never
none_if false fault is = refl

pub fewer_sources : (name : ℕ → Source) (all few : List (List ℕ)) → length few ≤ length all → number_faults name all ≡ [] → number_faults name few ≡ []
fewer_sources name all few le none =
    let most = within most_sources (length all) (none_if (nat_lt most_sources (length all)) (fault_at (Whole (name most_sources)) (cause_of TooMany)) none) in
    ap (λ b. one_if b (fault_at (Whole (name most_sources)) (cause_of TooMany))) (le-ltb most_sources (length few) (omega (arith, le, most)))

pub fewer_limits : (s t : Source) (runs results fewer less : ℕ) → fewer ≤ runs → less ≤ results → limit_faults s runs results ≡ []
    → limit_faults t fewer less ≡ []
fewer_limits s t runs results fewer less few_runs few_results none =
    let past = or_parts (nat_lt most_runs runs) (nat_lt most_results results)
    (none_if (is_past_limits runs results) (fault_at (Whole s) (cause_of TooMany)) none) in
    let most = within most_runs runs past.0 in
    let top = within most_results results past.1 in
    ap₂ (λ a b. one_if (a || b) (fault_at (Whole t) (cause_of TooMany))) (le-ltb most_runs fewer (omega (arith, few_runs, most)))
    (le-ltb most_results less (omega (arith, few_results, top)))

readable_at : (s t : Source) (r : Result (List Data) ReadFault) → reading_faults s r ≡ [] → reading_faults t r ≡ []
readable_at s t (Ok runs) none = refl
readable_at s t (Err fault) none = let never : ⊥ = cc in absurd never

-- ---- how many runs and results sources have

abbrev pub runs_total : List Sourced → ℕ
runs_total [] = 0
runs_total (s ∷ rest) = length (runs_in s) + runs_total rest

abbrev pub results_sum : List Sourced → ℕ
results_sum [] = 0
results_sum (s ∷ rest) = results_total (runs_in s) + results_sum rest

pub runs-append : (xs ys : List Sourced) → runs_total (xs ++ ys) ≡ runs_total xs + runs_total ys
runs-append [] ys = omega arith
runs-append (x ∷ xs) ys = omega (arith, runs-append xs ys)

pub results-append : (xs ys : List Sourced) → results_sum (xs ++ ys) ≡ results_sum xs + results_sum ys
results-append [] ys = omega arith
results-append (x ∷ xs) ys = omega (arith, results-append xs ys)

pub runs_numbered : (checks : Checks) (name : ℕ → Source) (m n : ℕ) (sources : List (List ℕ))
    → runs_total (numbered checks name m sources) ≡ runs_total (numbered checks name n sources)
runs_numbered checks name m n [] = refl
runs_numbered checks name m n (bytes ∷ sources) =
    ap (λ k. length (runs_in (record { source = name m; bytes = bytes; checks = checks })) + k) (runs_numbered checks name (m + 1) (n + 1) sources)

pub results_numbered : (checks : Checks) (name : ℕ → Source) (m n : ℕ) (sources : List (List ℕ))
    → results_sum (numbered checks name m sources) ≡ results_sum (numbered checks name n sources)
results_numbered checks name m n [] = refl
results_numbered checks name m n (bytes ∷ sources) =
    ap (λ k. results_total (runs_in (record { source = name m; bytes = bytes; checks = checks })) + k) (results_numbered checks name (m + 1) (n + 1) sources)

-- ---- sources in order

abbrev pub here : ℕ → ℕ → Sourced → List MergeFault
here runs results s =
    reading_faults s.source (log_of s.checks.allow_external s.bytes)
    ++ limit_faults s.source (runs + length (runs_in s)) (results + results_total (runs_in s))

pub front_and_back : (runs results : ℕ) (xs ys : List Sourced) → source_faults runs results (xs ++ ys) ≡ []
    → (source_faults runs results xs ≡ []) × (source_faults (runs + runs_total xs) (results + results_sum xs) ys ≡ [])
front_and_back runs results [] ys none =
    let same_runs : runs + 0 ≡ runs = omega arith in
    let same_results : results + 0 ≡ results = omega arith in
    (refl, ap₂ (λ m n. source_faults m n ys) same_runs same_results ∙ none)
front_and_back runs results (x ∷ xs) ys none =
    let now = runs + length (runs_in x) in
    let all = results + results_total (runs_in x) in
    let parts = both_empty (here runs results x) (source_faults now all (xs ++ ys)) none in
    let rest = front_and_back now all xs ys parts.1 in
    let same_runs : runs + (length (runs_in x) + runs_total xs) ≡ now + runs_total xs = omega arith in
    let same_results : results + (results_total (runs_in x) + results_sum xs) ≡ all + results_sum xs = omega arith in
    (none_both (here runs results x) (source_faults now all xs) parts.0 rest.0, ap₂ (λ m n. source_faults m n ys) same_runs same_results ∙ rest.1)

pub one_after_other : (runs results : ℕ) (xs ys : List Sourced) → source_faults runs results xs ≡ []
    → source_faults (runs + runs_total xs) (results + results_sum xs) ys ≡ [] → source_faults runs results (xs ++ ys) ≡ []
one_after_other runs results [] ys first second =
    let same_runs : runs ≡ runs + 0 = omega arith in
    let same_results : results ≡ results + 0 = omega arith in
    ap₂ (λ m n. source_faults m n ys) same_runs same_results ∙ second
one_after_other runs results (x ∷ xs) ys first second =
    let now = runs + length (runs_in x) in
    let all = results + results_total (runs_in x) in
    let parts = both_empty (here runs results x) (source_faults now all xs) first in
    let same_runs : now + runs_total xs ≡ runs + (length (runs_in x) + runs_total xs) = omega arith in
    let same_results : all + results_sum xs ≡ results + (results_total (runs_in x) + results_sum xs) = omega arith in
    none_both (here runs results x) (source_faults now all (xs ++ ys)) parts.0
    (one_after_other now all xs ys parts.1 (ap₂ (λ m n. source_faults m n ys) same_runs same_results ∙ second))

pub after_fewer : (checks : Checks) (name : ℕ → Source) (m n runs results fewer less : ℕ) (sources : List (List ℕ)) → fewer ≤ runs → less ≤ results
    → source_faults runs results (numbered checks name m sources) ≡ [] → source_faults fewer less (numbered checks name n sources) ≡ []
after_fewer checks name m n runs results fewer less [] few_runs few_results none = refl
after_fewer checks name m n runs results fewer less (bytes ∷ sources) few_runs few_results none =
    let s : Sourced = record { source = name m; bytes = bytes; checks = checks } in
    let t : Sourced = record { source = name n; bytes = bytes; checks = checks } in
    let read = log_of checks.allow_external bytes in
    let many = length (runs_in s) in
    let total = results_total (runs_in s) in
    let more_runs : fewer + many ≤ runs + many = omega (arith, few_runs) in
    let more_results : less + total ≤ results + total = omega (arith, few_results) in
    let parts = both_empty (here runs results s) (source_faults (runs + many) (results + total) (numbered checks name (m + 1) sources)) none in
    let first = both_empty (reading_faults (name m) read) (limit_faults (name m) (runs + many) (results + total)) parts.0 in
    none_both (here fewer less t) (source_faults (fewer + many) (less + total) (numbered checks name (n + 1) sources))
    (none_both (reading_faults (name n) read) (limit_faults (name n) (fewer + many) (less + total)) (readable_at (name m) (name n) read first.0)
    (fewer_limits (name m) (name n) (runs + many) (results + total) (fewer + many) (less + total) more_runs more_results first.1))
    (after_fewer checks name (m + 1) (n + 1) (runs + many) (results + total) (fewer + many) (less + total) sources more_runs more_results parts.1)

-- ---- numbered lists

pub numbered-append : (checks : Checks) (name : ℕ → Source) (n : ℕ) (xs ys : List (List ℕ))
    → numbered checks name n (xs ++ ys) ≡ numbered checks name n xs ++ numbered checks name (n + length xs) ys
numbered-append checks name n [] ys = let same : n ≡ n + 0 = omega arith in ap (λ k. numbered checks name k ys) same
numbered-append checks name n (x ∷ xs) ys =
    let same : n + 1 + length xs ≡ n + length (x ∷ xs) = omega arith in
    ap (λ l. record { source = name n; bytes = x; checks = checks } ∷ l)
    (numbered-append checks name (n + 1) xs ys ∙ ap (λ k. numbered checks name (n + 1) xs ++ numbered checks name k ys) same)
