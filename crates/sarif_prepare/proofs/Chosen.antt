-- What is prepared, as the checks say how results are counted.
use Rattle.std.proofs.Common.{◌≡◌, Bool, true, false, ℕ, List, Option, sym, ap, subst}
use Rattle.sarif_entries.specs.File.{File}
use Rattle.sarif_findings.specs.declared.reporting.Reporting.{Reporting}
use Rattle.sarif_log.specs.Internal.Prepared.{IsPrepared, IsPreparedAs}
use Rattle.sarif_log.specs.declared.prepared.Prepared.{Prepared}
use Rattle.sarif_log.proofs.Uncopied.{prepared_all}
use Rattle.sarif_evidence.specs.declared.version.MatchingVersion.{MatchingVersion}
use Rattle.sarif_once.specs.Once.{without_copies}
use Rattle.sarif_options.specs.declared.checks.Checks.{Checks}
use Rattle.sarif_options.specs.declared.policy.Policy.{Policy}
use Rattle.sarif_policy.specs.declared.condition.GateCondition.{GateCondition}
use Rattle.sarif_runs.specs.Placed.{Placed}
use Rattle.sarif_prepare.specs.By.{copies_if, counted_if, merge_by, runs_counted_if, written_if, IsPreparedBy}
use Rattle.sarif_prepare.specs.Chosen.{chosen_merge}
use Rattle.sarif_choice.specs.declared.choice.Choosing.{Choosing}
use Rattle.sarif_prepare.specs.Once.{IsPreparedOnce}
use Rattle.sarif_prepare.specs.Ruled.{matched_in, ruled_by}
use Rattle.sarif_prepare.specs.Told.{told_in}
use Rattle.sarif_log.specs.LogBy.{limited_records, runs_by, runs_without_results}
use Rattle.sarif_runs.specs.Judging.{run_values}
use Rattle.sarif_scope.specs.declared.gated.GatedChange.{GatedChange}
use Rattle.sarif_suppress.specs.Suppressing.{unused_of}

-- by whether each result is counted
abbrev IsPreparedIf : Bool → MatchingVersion → File → List Placed → List Placed → Option GatedChange → Policy → Option (List GateCondition)
    → Option Reporting → Prepared → Type 0
IsPreparedIf once version file now before change policy conditions asked prepared =
    IsPreparedAs (written_if once version file now before) (runs_counted_if once version file now before) (copies_if once version now before) change policy
    (ruled_by conditions version file change (counted_if once now) (counted_if once before)) (runs_without_results (run_values now))
    (unused_of file (limited_records file (counted_if once now)))
    (told_in conditions (matched_in version file change (counted_if once now) (counted_if once before)) asked (runs_counted_if once version file now before))
    prepared

pub counted_all : (checks : Checks) (file : File) (now before : List Placed) (change : Option GatedChange) (policy : Policy)
    (conditions : Option (List GateCondition)) (asked : Option Reporting) → checks.once ≡ false → (prepared : Prepared)
    → IsPrepared checks.matching file now before change policy (ruled_by conditions checks.matching file change now before)
    (told_in conditions (matched_in checks.matching file change now before) asked (runs_by checks.matching file now before)) prepared
    → IsPreparedBy checks file now before change policy conditions asked prepared
counted_all checks file now before change policy conditions asked all prepared h =
    subst (λ once. IsPreparedIf once checks.matching file now before change policy conditions asked prepared) (sym all)
    (prepared_all checks.matching file now before change policy (ruled_by conditions checks.matching file change now before)
    (told_in conditions (matched_in checks.matching file change now before) asked (runs_by checks.matching file now before)) prepared h)

pub counted_once : (checks : Checks) (file : File) (now before : List Placed) (change : Option GatedChange) (policy : Policy)
    (conditions : Option (List GateCondition)) (asked : Option Reporting) → checks.once ≡ true → (prepared : Prepared)
    → IsPreparedOnce checks.matching file now before change policy conditions asked prepared
    → IsPreparedBy checks file now before change policy conditions asked prepared
counted_once checks file now before change policy conditions asked one prepared h =
    subst (λ once. IsPreparedIf once checks.matching file now before change policy conditions asked prepared) (sym one) h

pub merge_all : (conditions : Option (List GateCondition)) (checks : Checks) (file : File) (bytes : Option (List ℕ)) (change : Option GatedChange) (policy : Policy) (choice : Option Choosing) (now before : List Placed)
    → checks.once ≡ false → chosen_merge conditions checks file bytes change policy choice now before ≡ merge_by conditions checks file bytes change policy choice now before
merge_all conditions checks file bytes change policy choice now before all =
    sym (ap (λ once. chosen_merge conditions checks file bytes change policy choice (counted_if once now) (counted_if once before)) all)

pub merge_once : (conditions : Option (List GateCondition)) (checks : Checks) (file : File) (bytes : Option (List ℕ)) (change : Option GatedChange) (policy : Policy) (choice : Option Choosing) (now before : List Placed)
    → checks.once ≡ true
    → chosen_merge conditions checks file bytes change policy choice (without_copies now) (without_copies before)
    ≡ merge_by conditions checks file bytes change policy choice now before
merge_once conditions checks file bytes change policy choice now before one =
    sym (ap (λ once. chosen_merge conditions checks file bytes change policy choice (counted_if once now) (counted_if once before)) one)
