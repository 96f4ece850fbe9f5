-- The merge of what was read, from the runs and the suppression file of it.
use Rattle.std.proofs.Common.{◌≡◌, ℕ, ◌≤◌, ◌++◌, List, [], false, Option, Some, Result, length, map, arith, refl, sym, ap, subst, ◌∙◌}
use Rattle.std.proofs.lemmas.List.{length-map}
use Rattle.std.proofs.lemmas.List.Concat.{flat_map-append}
use Rattle.std.specs.Prelude.{nat_lt}
use Rattle.std.proofs.lemmas.Bool.Decides.{nat_tests}
use Rattle.std.specs.declared.alloc.Global.{Global}
use Rattle.std.specs.declared.vec.Vec.{Vec}
use Rattle.json.specs.Token.{Token}
use Rattle.json_parts.specs.declared.indexing.IndexFault.{IndexFault}
use Rattle.sarif_inputs.specs.Internal.Together.{AreIndexed}
use Rattle.json_parts.specs.Mark.{without_mark}
use Rattle.sarif_entries.specs.File.{File}
use Rattle.sarif_suppress.specs.Suppressing.{unused_of}
use Rattle.sarif_model.specs.declared.merge_fault.MergeFault.{MergeFault}
use Rattle.sarif_model.specs.declared.merge_fault.Source.TheVariants.{Log, Baseline}
use Rattle.sarif_options.specs.declared.policy.Policy.{Policy}
use Rattle.sarif_findings.specs.declared.finding.Finding.{Finding}
use Rattle.sarif_findings.specs.declared.reporting.Reporting.{Reporting}
use Rattle.sarif_conditions.specs.declared.facts.PolicyFacts.{PolicyFacts}
use Rattle.sarif_log.specs.Ruled.{gate_ruled}
use Rattle.sarif_policy.specs.declared.condition.GateCondition.{GateCondition}
use Rattle.sarif_scope.specs.declared.gated.GatedChange.{GatedChange}
use Rattle.sarif_runs.specs.Judging.{faults_of_runs, run_faults, run_values}
use Rattle.sarif_runs.specs.Placed.{Placed}
use Rattle.sarif_log.specs.declared.merged.Merged.{Merged}
use Rattle.sarif_log.specs.declared.prepared.Prepared.{Prepared}
use Rattle.sarif_log.specs.Copies.{naming}
use Rattle.sarif_log.specs.Counted.{IsMergedAs}
use Rattle.sarif_log.specs.Internal.Prepared.{IsPreparedAs}
use Rattle.sarif_log.specs.LogBy.{limited_records, runs_without_results}
use Rattle.sarif_log.specs.declared.copies.CopyPlace.{CopyPlace}
use Rattle.sarif_options.specs.declared.checks.Checks.{Checks}
use Rattle.sarif_prepare.specs.By.{copies_if, counted_if, left_if, merge_by, runs_counted_if, written_if, IsPreparedBy}
use Rattle.serde_json.specs.Data.{Data}
use Rattle.sarif_model.specs.FirstFault.{first}
use Rattle.sarif_inputs.specs.Faults.{number_faults}
use Rattle.sarif_entries.specs.Given.{file_or_none}
use Rattle.sarif_inputs.specs.Internal.Indexes.{AreIndexesOf}
use Rattle.sarif_inputs.specs.Inputs.{Inputs, numbered, placed, reading_checks}
use Rattle.sarif_counts.specs.declared.life.Life.{Life}
use Rattle.sarif_options.specs.declared.upkeep.Upkeep.{Upkeep}
use Rattle.sarif_upkeep.specs.Life.{life_faults}
use Rattle.sarif_prepare.specs.Kept.{IsKept}
use Rattle.sarif_choice.specs.declared.choice.Choosing.{Choosing}
use Rattle.sarif_merge.specs.Merged.{IsMerged}
use Rattle.sarif_merge.specs.MergedLog.{change_given, file_in, ruling_given, told_given}
use Rattle.sarif_merge.specs.Internal.Prepared.{IsPreparedFor}
use Rattle.sarif_model.specs.Limits.{most_sources}

-- ---- what is assembled

pub same_runs : (v : Checks) (file : File) (now before xs ys : List Placed) (change : Option GatedChange) (policy : Policy)
    (conditions : Option (List GateCondition)) (asked : Option Reporting)
    (prepared : Prepared) → IsPreparedBy v file now before change policy conditions asked prepared → now ≡ xs → before ≡ ys
    → IsPreparedBy v file xs ys change policy conditions asked prepared
same_runs v file now before xs ys change policy conditions asked prepared h e f =
    subst (λ k. IsPreparedBy v file xs k change policy conditions asked prepared) f
    (subst (λ k. IsPreparedBy v file k before change policy conditions asked prepared) e h)

-- what is for later merges, of the same runs
pub same_kept : (conditions : Option (List GateCondition)) (v : Checks) (file : File) (bytes : Option (List ℕ)) (change : Option GatedChange) (policy : Policy) (choice : Option Choosing)
    (now before xs ys : List Placed) (upkeep : Option Upkeep) (life : Life)
    → IsKept (merge_by conditions v file bytes change policy choice now before) upkeep life → now ≡ xs → before ≡ ys
    → IsKept (merge_by conditions v file bytes change policy choice xs ys) upkeep life
same_kept conditions v file bytes change policy choice now before xs ys upkeep life h e f =
    subst (λ k. IsKept (merge_by conditions v file bytes change policy choice xs k) upkeep life) f
    (subst (λ k. IsKept (merge_by conditions v file bytes change policy choice k before) upkeep life) e h)

pub same_large : (conditions : Option (List GateCondition)) (v : Checks) (file : File) (bytes : Option (List ℕ)) (change : Option GatedChange) (policy : Policy) (choice : Option Choosing)
    (now before xs ys : List Placed) (upkeep : Option Upkeep) (fault : MergeFault)
    → first (life_faults (merge_by conditions v file bytes change policy choice now before) upkeep) ≡ Some fault → now ≡ xs → before ≡ ys
    → first (life_faults (merge_by conditions v file bytes change policy choice xs ys) upkeep) ≡ Some fault
same_large conditions v file bytes change policy choice now before xs ys upkeep fault h e f =
    subst (λ k. first (life_faults (merge_by conditions v file bytes change policy choice xs k) upkeep) ≡ Some fault) f
    (subst (λ k. first (life_faults (merge_by conditions v file bytes change policy choice k before) upkeep) ≡ Some fault) e h)

-- what is assembled of what was prepared for these inputs
pub assembled_is : (inputs : Inputs) (policy : Policy) (asked : Option Reporting) (choice : Option Choosing) (upkeep : Option Upkeep) (prepared : Prepared)
    (merged : Merged) → IsPreparedFor inputs policy asked choice upkeep prepared
    → ((runs counted : List Data) (places : Option (List CopyPlace)) (change : Option GatedChange) (ruling : Option PolicyFacts)
    (bare idle : ℕ) (told : List Finding)
    → IsPreparedAs runs counted places change policy ruling bare idle told prepared
    → IsMergedAs runs counted places change policy ruling bare idle told merged)
    → merged.expired ≡ prepared.expired
    → IsMerged inputs policy asked merged
unfolding ruling_given told_given
assembled_is inputs policy asked choice upkeep prepared merged ready assembled past =
    let checks = inputs.checks in
    let entries = file_in (file_or_none inputs.suppressions inputs.today) in
    let logs = placed (numbered (reading_checks inputs) Log 0 inputs.logs) in
    let baselines = placed (numbered (reading_checks inputs) Baseline 0 inputs.baselines) in
    let counted = runs_counted_if checks.once checks.matching entries logs baselines in
    let places = copies_if checks.once checks.matching logs baselines in
    let bare = runs_without_results (run_values logs) in
    let idle = unused_of entries (limited_records entries (counted_if checks.once logs)) in
    let ruling = ruling_given inputs in
    let made = assembled (written_if checks.once checks.matching entries logs baselines) counted places (change_given inputs) ruling bare idle (told_given inputs asked) ready.written in record {
      faultless = ready.faultless;
      begins = (
        naming places (gate_ruled ruling (change_given inputs) counted policy bare idle),
        left_if checks.once checks.matching logs baselines,
        made.written.log,
      );
      log = made.written.log;
      gate = made.written.gate;
      expired = past ∙ ready.expired;
      told = made.told;
      copies = made.copies;
    }

-- ---- the errors of the runs of logs, and then of those of baselines

pub faults_apart : (xs ys : List Placed) → faults_of_runs (xs ++ ys) ≡ faults_of_runs xs ++ faults_of_runs ys
faults_apart xs ys = flat_map-append run_faults xs ys

pub left_after_first : (xs ys : List Placed) → faults_of_runs xs ≡ [] → faults_of_runs (xs ++ ys) ≡ faults_of_runs ys
left_after_first xs ys none = faults_apart xs ys ∙ ap (λ faults. faults ++ faults_of_runs ys) none

-- ---- the errors of all inputs

-- within the limits the number of sources is not an error
few_sources : (ls : List (List ℕ)) → length ls ≤ most_sources → number_faults Log ls ≡ []
few_sources ls few = let within : nat_lt most_sources (length ls) ≡ false = grind (arith, nat_tests) in rw within refl

few_baselines : (bs : List (List ℕ)) → length bs ≤ most_sources → number_faults Baseline bs ≡ []
few_baselines bs few = let within : nat_lt most_sources (length bs) ≡ false = grind (arith, nat_tests) in rw within refl

pub number_is_no_fault : (ls bs : List (List ℕ)) → length ls ≤ most_sources → length bs ≤ most_sources → (rest : List MergeFault)
    → number_faults Log ls ++ (number_faults Baseline bs ++ rest) ≡ rest
number_is_no_fault ls bs few_ls few_bs rest =
    ap (λ x. x ++ (number_faults Baseline bs ++ rest)) (few_sources ls few_ls) ∙ ap (λ x. x ++ rest) (few_baselines bs few_bs)

-- ---- indexes

-- the indexes of the sources as they are held
pub are_indexes : (ls bs : List (Vec ℕ Global)) (indexes : List (Result (List Token) IndexFault)) (n : ℕ) → n ≡ length ls → length ls ≤ most_sources
    → length bs ≤ most_sources
    → AreIndexed (map without_mark (map (λ v. v.items) ls ++ map (λ v. v.items) bs)) indexes
    → AreIndexesOf (map (λ v. v.items) ls) (map (λ v. v.items) bs) indexes n
are_indexes ls bs indexes n count few_ls few_bs indexed = record {
  count = length-map ls (λ v. v.items) ∙ sym count;
  few_logs = omega (arith, few_ls, length-map ls (λ v. v.items));
  few_baselines = omega (arith, few_bs, length-map bs (λ v. v.items));
  indexed = indexed;
}
