-- Each copy is written as its finding.
use Rattle.std.proofs.Common.{◌≡◌, ◌≤◌, ℕ, zero, suc, true, false, List, [], ◌∷◌, ◌++◌, map, take, drop, length, Option, Some, None, option_map, refl, sym, ap, ap₂, ◌∙◌, ⊎_elim, arith}
use Rattle.std.specs.Prelude.{option_and_then, slice_get, slice_index_or}
use Rattle.std.specs.List.{AllByRecursion, flat_map}
use Rattle.std.proofs.lemmas.List.{length-drop, length-take-le}
use Rattle.serde_json.specs.Data.{Data, null, boolean, number, string, array, object, Items, Members}
use Rattle.serde_json.specs.Find.{as_array}
use Rattle.sarif_copies.specs.Copies.{copies_of, findings_before, findings_of, numbers_of, spread}
use Rattle.sarif_copies.proofs.OneFinding.{alike_if_one, first_and_own}
use Rattle.sarif_entries.specs.File.{File}
use Rattle.sarif_evidence.specs.declared.version.MatchingVersion.{MatchingVersion}
use Rattle.sarif_model.specs.declared.kinds.State.{State}
use Rattle.sarif_model.specs.declared.kinds.State.TheVariants.{New}
use Rattle.sarif_model.specs.declared.record.Record.{Record}
use Rattle.sarif_model.specs.Members.{elements}
use Rattle.sarif_model.specs.Run.{elements_or_none, results_of, results_total}
use Rattle.sarif_model.proofs.Elements.{items_back}
use Rattle.serde_json.proofs.Views.{get_member-put}
use Rattle.sarif_results.specs.Drafts.{IsObject, IsRun, Listing}
use Rattle.sarif_results.proofs.JudgedCounts.{records_of_logs}
use Rattle.sarif_runs.specs.Judging.{faults_of_runs, records_of, run_values, skips}
use Rattle.sarif_runs.specs.Placed.{Placed}
use Rattle.sarif_suppress.specs.Limited.{all_admitted, with_admitted}
use Rattle.sarif_log.specs.LogBy.{listing_of, states_of, taken_of}
use Rattle.sarif_log.specs.MergedRuns.{annotated_items, bare, merged_run, merged_runs, own_results, with_results, written, written_all}
use Rattle.sarif_log.proofs.RunResults.{still_out, taken_out}
use Rattle.json_parts.specs.Without.{without}
use Rattle.serde_json.specs.View.{items_of}
use Rattle.std.specs.Prelude.{codes}
use Rattle.sarif_prepare.specs.By.{inputs_if}
use Rattle.sarif_prepare.specs.Once.{current_once, findings_only, limited_once, admitted_once, states_once, with_each}
use Rattle.sarif_prepare.proofs.Limits.{each_long, once_long}
use Rattle.sarif_once.proofs.Marks.{findings_long}
use Rattle.sarif_once.proofs.Spread.{spread_long}
use Rattle.sarif_inputs.specs.Faults.{faults_of}
use Rattle.sarif_inputs.specs.Inputs.{Inputs, baseline_runs, input_runs, log_sources, reading_checks}
use Rattle.sarif_inputs.proofs.ReadFacts.{log_sides}
use Rattle.sarif_inputs_laws.proofs.Parts.{apart_faults}
use Rattle.sarif_merge.specs.MergedLog.{current_of, file_given}
use Rattle.sarif_merge.specs.OwnResult.{baseline_of}
use Rattle.sarif_merge.proofs.ReadObjects.{objects_in}
use Rattle.sarif_laws_once.specs.CopyOf.{AreWrittenAlike, matched_in, written_at}
use Rattle.sarif_laws_once.proofs.CopiesMore.{alike_same}

-- ---- the results of a written run

found_written : (listed : Listing) (rs : List Record) (ss : List State) (found : Option Items) (ms : Members)
    → length rs ≡ length (elements_or_none found)
    → results_of (object (with_results (annotated_items listed rs ss found) (bare ms))) ≡ written_all listed rs ss (elements_or_none found)
found_written listed [] ss None ms same =
    ap (λ found. elements_or_none (option_and_then as_array found))
    (still_out (codes "results") (codes "baselineGuid") (without (codes "results") ms) (taken_out (codes "results") ms))
found_written listed (r ∷ rs) ss None ms same = absurd (omega (arith, same))
found_written listed rs ss (Some ds) ms same =
    ap (λ found. elements_or_none (option_and_then as_array found))
    (get_member-put (codes "results") (array (items_of (written_all listed rs ss (elements ds)))) (bare ms))
    ∙ items_back (written_all listed rs ss (elements ds))

run_written : (listed : Listing) (rs : List Record) (ss : List State) (run : Data) → IsObject run → length rs ≡ length (results_of run)
    → results_of (merged_run listed rs ss run) ≡ written_all listed rs ss (results_of run)
run_written listed rs ss null is same = absurd is
run_written listed rs ss (boolean b) is same = absurd is
run_written listed rs ss (number n) is same = absurd is
run_written listed rs ss (string t) is same = absurd is
run_written listed rs ss (array ds) is same = absurd is
run_written listed rs ss (object ms) is same = found_written listed rs ss (own_results ms) ms same

all_split : (listed : Listing) (n : ℕ) (rs : List Record) (ss : List State) (ds es : List Data) → length ds ≡ n → n ≤ length rs → length ss ≡ length rs
    → written_all listed (take n rs) (take n ss) ds ++ written_all listed (drop n rs) (drop n ss) es ≡ written_all listed rs ss (ds ++ es)
all_split listed zero rs ss [] es same le same_s = refl
all_split listed zero rs ss (d ∷ ds) es same le same_s = absurd (omega (arith, same))
all_split listed (suc n) rs ss [] es same le same_s = absurd (omega (arith, same))
all_split listed (suc n) [] ss (d ∷ ds) es same le same_s = absurd (omega (arith, le))
all_split listed (suc n) (r ∷ rs) [] (d ∷ ds) es same le same_s = absurd (omega (arith, same_s))
all_split listed (suc n) (r ∷ rs) (s ∷ ss) (d ∷ ds) es same le same_s =
    ap (λ xs. written listed r s d ∷ xs) (all_split listed n rs ss ds es (omega (arith, same)) (omega (arith, le)) (omega (arith, same_s)))

runs_written : (listed : Listing) (rs : List Record) (ss : List State) (runs : List Data) → AllByRecursion IsRun runs
    → length rs ≡ results_total runs → length ss ≡ length rs
    → flat_map results_of (merged_runs listed rs ss runs) ≡ written_all listed rs ss (flat_map results_of runs)
runs_written listed [] ss [] are same same_s = refl
runs_written listed (r ∷ rs) ss [] are same same_s = absurd (omega (arith, same))
runs_written listed rs ss (run ∷ runs) are same same_s =
    let n = length (results_of run) in
    let le : n ≤ length rs = omega (arith, same) in
    ap₂ (λ xs ys. xs ++ ys) (run_written listed (take n rs) (take n ss) run are.0.0 (length-take-le n rs le))
    (runs_written listed (drop n rs) (drop n ss) runs are.1 (omega (arith, length-drop n rs, same)) (omega (arith, length-drop n rs, length-drop n ss, same_s)))
    ∙ all_split listed n rs ss (results_of run) (flat_map results_of runs) refl le same_s

-- ---- one of the results

at_place : (listed : Listing) (rs : List Record) (ss : List State) (ds : List Data) (i : ℕ) (r : Record) (s : State)
    → slice_get rs i ≡ Some r → slice_get ss i ≡ Some s
    → slice_get (written_all listed rs ss ds) i ≡ option_map (written listed r s) (slice_get ds i)
at_place listed [] ss ds i r s is_r is_s = let never : ⊥ = cc in absurd never
at_place listed (q ∷ rs) [] ds i r s is_r is_s = let never : ⊥ = cc in absurd never
at_place listed (q ∷ rs) (t ∷ ss) [] i r s is_r is_s = refl
at_place listed (q ∷ rs) (t ∷ ss) (d ∷ ds) zero r s is_r is_s =
    let same_r : q ≡ r = cc in let same_s : t ≡ s = cc in ap₂ (λ p u. Some (written listed p u d)) same_r same_s
at_place listed (q ∷ rs) (t ∷ ss) (d ∷ ds) (suc i) r s is_r is_s = at_place listed rs ss ds i r s is_r is_s

map_at : {X Y : Type 0} (f : X → Y) (xs : List X) (i : ℕ) → slice_get (map f xs) i ≡ option_map f (slice_get xs i)
map_at f [] i = refl
map_at f (x ∷ xs) zero = refl
map_at f (x ∷ xs) (suc i) = map_at f xs i

each_at : (rs : List Record) (lists : List (List ℕ)) (i : ℕ) (r : Record) (numbers : List ℕ) → slice_get rs i ≡ Some r → slice_get lists i ≡ Some numbers
    → slice_get (with_each rs lists) i ≡ Some (with_admitted r numbers)
each_at [] lists i r numbers is_r is_l = let never : ⊥ = cc in absurd never
each_at (q ∷ rs) [] i r numbers is_r is_l = let never : ⊥ = cc in absurd never
each_at (q ∷ rs) (l ∷ lists) zero r numbers is_r is_l =
    let same_r : q ≡ r = cc in let same_l : l ≡ numbers = cc in ap₂ (λ p m. Some (with_admitted p m)) same_r same_l
each_at (q ∷ rs) (l ∷ lists) (suc i) r numbers is_r is_l = each_at rs lists i r numbers is_r is_l

there_is : {X Y : Type 0} (xs : List X) (ys : List Y) (i : ℕ) (y : Y) → length xs ≡ length ys → slice_get ys i ≡ Some y
    → (x : X) × (slice_get xs i ≡ Some x)
there_is [] [] i y same is = let never : ⊥ = cc in absurd never
there_is [] (z ∷ ys) i y same is = absurd (omega (arith, same))
there_is (x ∷ xs) [] i y same is = absurd (omega (arith, same))
there_is (x ∷ xs) (z ∷ ys) zero y same is = (x, refl)
there_is (x ∷ xs) (z ∷ ys) (suc i) y same is = there_is xs ys i y (omega (arith, same)) is

-- ---- a copy and its finding

module _ (rs : List Record) (i k : ℕ) (is : slice_get (findings_of rs) i ≡ Some k) where
  copy : (a : Record) × (slice_get rs i ≡ Some a)
  copy = there_is rs (findings_of rs) i k (sym (findings_long [] rs)) is

  own : slice_get (findings_of rs) k ≡ Some k
  own = (first_and_own rs i k copy.0 copy.1 is).1

  finding : (a : Record) × (slice_get rs k ≡ Some a)
  finding = there_is rs (findings_of rs) k k (sym (findings_long [] rs)) own

  same_record : slice_get rs k ≡ Some copy.0
  same_record =
      ⊎_elim (λ same. ap (slice_get rs) (sym same) ∙ copy.1)
      (λ alike. finding.1 ∙ ap Some (sym (alike_same copy.0 finding.0 alike)))
      (alike_if_one rs i k k k copy.0 finding.0 copy.1 finding.1 is own refl)

  -- what findings give is the same
  spread_same : {X : Type 0} (none : X) (xs : List X) → slice_get (spread none (numbers_of rs) xs) i ≡ slice_get (spread none (numbers_of rs) xs) k
  spread_same none xs =
      let count : ℕ → ℕ = λ first. slice_index_or (findings_before 0 (copies_of rs)) first 0 in
      let pick = λ (n : ℕ). slice_index_or xs n none in
      let number : slice_get (numbers_of rs) i ≡ slice_get (numbers_of rs) k =
      map_at count (findings_of rs) i ∙ ap (option_map count) (is ∙ sym own) ∙ sym (map_at count (findings_of rs) k) in
      map_at pick (numbers_of rs) i ∙ ap (option_map pick) number ∙ sym (map_at pick (numbers_of rs) k)

-- ---- the written results

module _ (v : MatchingVersion) (file : File) (now before : List Placed) (are : AllByRecursion IsRun (run_values now)) (sound : faults_of_runs now ≡ [])
    (logs : AllByRecursion (λ p. skips p.source ≡ false) now) where
  abbrev cs : List Record
  cs = records_of now

  abbrev bs : List Record
  bs = records_of before

  abbrev states : List State
  states = states_once v cs bs

  abbrev lists : List (List ℕ)
  lists = admitted_once file cs

  all_written : flat_map results_of (current_once v file now before)
      ≡ written_all (listing_of file) (limited_once file cs) states (flat_map results_of (run_values now))
  all_written =
      let long = each_long cs lists (once_long file cs) in
      let records = records_of_logs now sound logs in
      let many = spread_long New cs (states_of v (findings_only cs) (findings_only bs)) in
      runs_written (listing_of file) (limited_once file cs) states (run_values now) are (long ∙ records) (many ∙ sym long)

  pub written_with : (n : ℕ) (r : Record) (numbers : List ℕ) (state : State) → slice_get (records_of now) n ≡ Some r
      → slice_get (admitted_once file (records_of now)) n ≡ Some numbers
      → slice_get (states_once v (records_of now) (records_of before)) n ≡ Some state
      → slice_get (flat_map results_of (current_once v file now before)) n
      ≡ option_map (written (listing_of file) (with_admitted r numbers) state) (slice_get (flat_map results_of (run_values now)) n)
  written_with n r numbers state is_r is_l is_s =
      ap (λ ds. slice_get ds n) all_written
      ∙ at_place (listing_of file) (limited_once file cs) states (flat_map results_of (run_values now)) n (with_admitted r numbers) state
      (each_at cs lists n r numbers is_r is_l) is_s

pub written_alike : (inputs : Inputs) (m n : ℕ) → faults_of inputs ≡ [] → inputs.checks.once ≡ true
    → slice_get (findings_of (current_of inputs)) m ≡ Some n → AreWrittenAlike inputs m n
written_alike inputs m n none once is =
    let v = inputs.checks.matching in
    let file = file_given inputs in
    let now = input_runs inputs in
    let before = baseline_runs inputs in
    let cs = records_of now in
    let bs = records_of before in
    let fine = apart_faults inputs none in
    let admitted = all_admitted file (findings_only cs) in
    let given = states_of v (findings_only cs) (findings_only bs) in
    let record_there = copy cs m n is in
    let numbers_there = there_is (admitted_once file cs) cs m record_there.0 (once_long file cs) record_there.1 in
    let state_there = there_is (states_once v cs bs) cs m record_there.0 (spread_long New cs given) record_there.1 in
    let written_here =
    written_with v file now before (objects_in (log_sources inputs)) fine.log_runs (log_sides (reading_checks inputs) 0 inputs.logs) in
    let as_once : (k : ℕ) → written_at inputs k ≡ slice_get (flat_map results_of (current_once v file now before)) k =
    λ k. ap (λ b. slice_get (flat_map results_of (inputs_if b v file now before)) k) once in
    record {
      r = with_admitted record_there.0 numbers_there.0;
      state = state_there.0;
      first = as_once m ∙ written_here m record_there.0 numbers_there.0 state_there.0 record_there.1 numbers_there.1 state_there.1;
      second =
          as_once n
          ∙ written_here n record_there.0 numbers_there.0 state_there.0 (same_record cs m n is)
          (sym (spread_same cs m n is [] admitted) ∙ numbers_there.1) (sym (spread_same cs m n is New given) ∙ state_there.1);
    }

pub matched_alike : (inputs : Inputs) (m n : ℕ) → slice_get (findings_of (baseline_of inputs)) m ≡ Some n
    → slice_get (matched_in inputs) m ≡ slice_get (matched_in inputs) n
matched_alike inputs m n is =
    spread_same (baseline_of inputs) m n is false
    (taken_of inputs.checks.matching (findings_only (current_of inputs)) (findings_only (baseline_of inputs)))
