-- Runs without the member that names external property files have the same errors and records.
use Rattle.std.proofs.Common.{◌≡◌, ℕ, Bool, true, false, ◌&&◌, List, [], ◌∷◌, ◌++◌, map, length, Ok, Err, codes, refl, ap, if◌then◌else◌, sym, ◌∙◌, ◌+◌, nat_lt}
use Rattle.std.specs.Prelude.{option_map, unwrap_or, option_and_then, slice_index_or}
use Rattle.std.specs.List.{range_with_len}
use Rattle.serde_json.specs.Data.{Data, null, boolean, number, string, array, object}
use Rattle.serde_json.specs.Find.{as_array}
use Rattle.sarif_model.specs.declared.fault.Fault.TheVariants.{ExternalProperties, NotSuccessful, TooMany}
use Rattle.sarif_model.specs.Members.{◌>>=◌, unless_null}
use Rattle.sarif_model.specs.Limits.{most_results}
use Rattle.sarif_model.specs.Run.{is_absent_result, results_array}
use Rattle.sarif_read.proofs.Beside.{member_beside}
use Rattle.sarif_read.specs.Reading.{check_external, check_results, check_run, check_tool, count_results, may_be_named, unless_fault}
use Rattle.sarif_runs.specs.declared.item.Item.TheVariants.{Skipped}
use Rattle.sarif_runs.specs.Judging.{fault_of, faults_of_runs, item_by, item_of, items_of, opened_of, opened_or, records_in, records_of, run_faults, run_values, skips}
use Rattle.sarif_runs.specs.Internal.NamedFiles.{without_files}
use Rattle.sarif_runs.specs.Placed.{Placed}
use Rattle.sarif_runs.proofs.NamedFiles.{same_failing, same_head, same_record, same_results}
use Rattle.sarif_log.proofs.RunResults.{taken_out}
use Rattle.sarif_laws_external.specs.Fileless.{all_without, placed_without}

pub passes_without : (run : Data) → check_external false (without_files run) ≡ Ok tt
passes_without null = refl
passes_without (boolean b) = refl
passes_without (number n) = refl
passes_without (string s) = refl
passes_without (array ds) = refl
passes_without (object ms) =
    ap (λ found. unless_fault (unwrap_or (option_map (may_be_named false) (option_and_then unless_null found)) true) ExternalProperties)
    (taken_out (codes "externalPropertyFileReferences") ms)

-- ---- what reading checks

tool_same : (run : Data) → check_tool (without_files run) ≡ check_tool run
tool_same run = rw (member_beside (codes "externalPropertyFileReferences") (codes "tool") run refl) refl

listed_same : (run : Data) → check_results (without_files run) ≡ check_results run
listed_same run = rw (member_beside (codes "externalPropertyFileReferences") (codes "results") run refl) refl

counted_same : (before : ℕ) (run : Data) → count_results before (without_files run) ≡ count_results before run
counted_same before run = λ i.
    if nat_lt most_results (before + length (same_results run i)) then Err TooMany
    else Ok (before + length (same_results run i))

pub reads_alike : (before : ℕ) (run : Data) → check_external true run ≡ Ok tt → check_run false before (without_files run) ≡ check_run true before run
unfolding check_run
reads_alike before run passes = λ i.
    tool_same run i >>= λ _. (passes_without run ∙ sym passes) i >>= λ _. listed_same run i >>= λ _. counted_same before run i

-- ---- opening and records

pub same_array : (run : Data) → results_array (without_files run) ≡ results_array run
same_array run =
    ap (option_and_then as_array) (member_beside (codes "externalPropertyFileReferences") (codes "results") run refl)

item_same : (p : Placed) (seq : ℕ) → item_of (placed_without p) seq ≡ item_of p seq
item_same p seq = λ i.
    if skips p.source && is_absent_result (slice_index_or (same_results p.run i) seq null) then Skipped
    else item_by (same_record p.options.records p.run seq i)

items_same : (p : Placed) → items_of (placed_without p) ≡ items_of p
items_same p = λ i. map (λ seq. item_same p seq i) (range_with_len 0 (length (same_results p.run i)))

pub records_same : (runs : List Placed) → records_of (all_without runs) ≡ records_of runs
records_same [] = refl
records_same (p ∷ runs) = λ i. records_in (items_same p i) ++ records_same runs i

opened_same : (must : Bool) (run : Data) → opened_of must (without_files run) ≡ opened_of must run
opened_same false run = same_head run
opened_same true run = λ i.
    same_head run i >>= λ head. if same_failing run i then Err NotSuccessful else Ok head

faults_same_at : (p : Placed) → run_faults (placed_without p) ≡ run_faults p
faults_same_at p = λ i.
    opened_or p.source p.number (fault_of (opened_same p.options.must_succeed p.run i)) (items_same p i)

pub faults_same : (runs : List Placed) → faults_of_runs (all_without runs) ≡ faults_of_runs runs
faults_same [] = refl
faults_same (p ∷ runs) = λ i. faults_same_at p i ++ faults_same runs i

pub values_same : (runs : List Placed) → run_values (all_without runs) ≡ map without_files (run_values runs)
values_same [] = refl
values_same (p ∷ runs) = ap (λ rest. without_files p.run ∷ rest) (values_same runs)
