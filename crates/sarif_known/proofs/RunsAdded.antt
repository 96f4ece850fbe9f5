-- Runs and the log, from their parts.
use Rattle.std.proofs.Common.{◌≡◌, ◌==◌, false, length, ℕ, Bool, List, [], ◌∷◌, ◌++◌, map, Some, codes, refl, sym, ap, ◌∙◌, append_assoc}
use Rattle.std.specs.Borrow.{Bor}
use Rattle.json.specs.Layout.{pretty}
use Rattle.json.specs.Token.{Token, begin_array, begin_object, end_array, key}
use Rattle.sarif_model.specs.declared.merge_fault.MergeFault.{MergeFault}
use Rattle.sarif_model.specs.declared.record.Record.{Record}
use Rattle.sarif_known.specs.Chosen.{Chosen, known_as}
use Rattle.sarif_known.specs.KnownLog.{known_log, pretty_text, IsLost}
use Rattle.sarif_model.specs.Written.{list_if_any}
use Rattle.sarif_known.specs.KnownRun.{artifact_at, base_alone, bases_alone, known_run, results_from, with_some}
use Rattle.sarif_known.specs.Internal.Tokens.{data_tokens, each_tokens, log_closing, log_opening, run_closing, run_opening, value_tokens}
use Rattle.sarif_known.proofs.Lost.{part_lost}
use Rattle.sarif_known.proofs.TokensOf.{three, four, list_tokens, run_tokens, log_tokens}

-- records as they become known have the bases of the records
pub bases_as : (regions : Bool) (rs : List Record) → bases_alone (map (known_as regions) rs) ≡ bases_alone rs
bases_as regions [] = refl
bases_as regions (r ∷ rs) = ap (with_some (base_alone r)) (bases_as regions rs)

pub opening_as : (regions : Bool) (rs : List Record) → run_opening (map (known_as regions) rs) ≡ run_opening rs
opening_as regions rs =
    ap
    (λ bases. begin_object
    ∷ (value_tokens (codes "artifacts") (list_if_any (map artifact_at bases)) ++ key (codes "results") ∷ begin_array ∷ []))
    (bases_as regions rs)

pub each_as : (regions : Bool) (rs : List (Bor Record)) → map (λ r. known_as regions r.now) rs ≡ map (known_as regions) (map (λ r. r.now) rs)
each_as regions [] = refl
each_as regions (r ∷ rs) = ap (λ l. known_as regions r.now ∷ l) (each_as regions rs)

-- a run is added by its opening, its results and its closing
pub run_added : (o o1 o2 o3 : List Token) (run : Chosen) (first again : List Record) → first ≡ run.records → again ≡ run.records
    → o1 ≡ o ++ run_opening first → o2 ≡ o1 ++ each_tokens (results_from 0 again) → o3 ≡ o2 ++ run_closing run.tool → o3 ≡ o ++ data_tokens (known_run run)
run_added o o1 o2 o3 run first again same too e1 e2 e3 =
    three o (run_opening run.records) (each_tokens (results_from 0 run.records)) (run_closing run.tool) o1 o2 o3
    (e1 ∙ ap (λ rs. o ++ run_opening rs) same) (e2 ∙ ap (λ rs. o1 ++ each_tokens (results_from 0 rs)) too) e3
    ∙ ap (λ ts. o ++ ts) (sym (run_tokens run))

regrouped : (o a b c : List Token) → ((o ++ a) ++ b) ++ c ≡ o ++ (a ++ (b ++ c))
regrouped o a b c = simp append_assoc

-- one artifact more
pub step_artifacts : (o whole : List Token) (r : Record) (rs : List Record) (base : List ℕ) → base_alone r ≡ Some base
    → o ++ each_tokens (map artifact_at (bases_alone (r ∷ rs))) ≡ whole
    → (o ++ data_tokens (artifact_at base)) ++ each_tokens (map artifact_at (bases_alone rs)) ≡ whole
step_artifacts o whole r rs base alone so_far =
    append_assoc o (data_tokens (artifact_at base)) (each_tokens (map artifact_at (bases_alone rs)))
    ∙ ap (λ b. o ++ each_tokens (map artifact_at (with_some b (bases_alone rs)))) (sym alone)
    ∙ so_far

-- the artifacts of a run are lost where those are that come one by one
pub artifacts_lost : (o o1 o2 : List Token) (bases : List (List ℕ)) (fault : MergeFault) → (length bases == 0) ≡ false
    → o1 ≡ o ++ key (codes "artifacts") ∷ [] → o2 ≡ o1 ++ begin_array ∷ []
    → IsLost (pretty (o2 ++ each_tokens (map artifact_at bases))) fault
    → IsLost (pretty (o ++ value_tokens (codes "artifacts") (list_if_any (map artifact_at bases)))) fault
artifacts_lost o o1 o2 bases fault some e1 e2 lost =
    let each : List Token = each_tokens (map artifact_at bases) in
    part_lost (o2 ++ each) (end_array ∷ []) (o ++ value_tokens (codes "artifacts") (list_if_any (map artifact_at bases))) fault
    (four o (key (codes "artifacts") ∷ []) (begin_array ∷ []) each (end_array ∷ []) o1 o2 (o2 ++ each) ((o2 ++ each) ++ end_array ∷ []) e1 e2 refl refl
    ∙ ap (λ ts. o ++ ts) (sym (list_tokens (codes "artifacts") artifact_at bases some)))
    lost

-- the opening of a run is lost where its artifacts are
pub opening_lost : (o o1 : List Token) (rs : List Record) (fault : MergeFault) → o1 ≡ o ++ begin_object ∷ []
    → IsLost (pretty (o1 ++ value_tokens (codes "artifacts") (list_if_any (map artifact_at (bases_alone rs))))) fault
    → IsLost (pretty (o ++ run_opening rs)) fault
opening_lost o o1 rs fault e1 lost =
    let artifacts : List Token = value_tokens (codes "artifacts") (list_if_any (map artifact_at (bases_alone rs))) in
    let rest : List Token = key (codes "results") ∷ begin_array ∷ [] in
    part_lost (o1 ++ artifacts) rest (o ++ run_opening rs) fault
    (three o (begin_object ∷ []) artifacts rest o1 (o1 ++ artifacts) ((o1 ++ artifacts) ++ rest) e1 refl refl) lost

-- a run is lost where its opening is
pub run_unopened : (o : List Token) (run : Chosen) (first : List Record) (fault : MergeFault) → first ≡ run.records
    → IsLost (pretty (o ++ run_opening first)) fault → IsLost (pretty (o ++ data_tokens (known_run run))) fault
run_unopened o run first fault same lost =
    let rest : List Token = each_tokens (results_from 0 run.records) ++ run_closing run.tool in
    part_lost (o ++ run_opening first) rest (o ++ data_tokens (known_run run)) fault
    (ap (λ rs. (o ++ run_opening rs) ++ rest) same ∙ append_assoc o (run_opening run.records) rest ∙ ap (λ ts. o ++ ts) (sym (run_tokens run)))
    lost

-- a run is lost where its results are
pub run_lost : (o o1 : List Token) (run : Chosen) (first again : List Record) (fault : MergeFault) → first ≡ run.records → again ≡ run.records
    → o1 ≡ o ++ run_opening first → IsLost (pretty (o1 ++ each_tokens (results_from 0 again))) fault → IsLost (pretty (o ++ data_tokens (known_run run))) fault
run_lost o o1 run first again fault same too e1 lost =
    part_lost (o1 ++ each_tokens (results_from 0 again)) (run_closing run.tool) (o ++ data_tokens (known_run run)) fault
    (ap (λ ts. (ts ++ each_tokens (results_from 0 again)) ++ run_closing run.tool) (e1 ∙ ap (λ rs. o ++ run_opening rs) same)
    ∙ ap (λ rs. ((o ++ run_opening run.records) ++ each_tokens (results_from 0 rs)) ++ run_closing run.tool) too
    ∙ regrouped o (run_opening run.records) (each_tokens (results_from 0 run.records)) (run_closing run.tool)
    ∙ ap (λ ts. o ++ ts) (sym (run_tokens run)))
    lost

-- the runs are lost where one of them is
pub runs_lost : (o whole : List Token) (run : Chosen) (more : List Chosen) (fault : MergeFault) → o ++ each_tokens (map known_run (run ∷ more)) ≡ whole
    → IsLost (pretty (o ++ data_tokens (known_run run))) fault → IsLost (pretty whole) fault
runs_lost o whole run more fault is lost =
    part_lost (o ++ data_tokens (known_run run)) (each_tokens (map known_run more)) whole fault
    (append_assoc o (data_tokens (known_run run)) (each_tokens (map known_run more)) ∙ is) lost

-- the log is made of its opening, its runs and its closing
pub log_made : (o1 o2 o3 : List Token) (runs : List Chosen) → o1 ≡ log_opening → o2 ≡ o1 ++ each_tokens (map known_run runs)
    → o3 ≡ o2 ++ log_closing → o3 ≡ data_tokens (known_log runs)
log_made o1 o2 o3 runs e1 e2 e3 = three [] log_opening (each_tokens (map known_run runs)) log_closing o1 o2 o3 e1 e2 e3 ∙ sym (log_tokens runs)

-- the log is lost where its runs are
pub log_lost : (o1 : List Token) (runs : List Chosen) (fault : MergeFault) → o1 ≡ log_opening
    → IsLost (pretty (o1 ++ each_tokens (map known_run runs))) fault → IsLost (pretty_text (known_log runs)) fault
log_lost o1 runs fault e1 lost =
    part_lost (o1 ++ each_tokens (map known_run runs)) log_closing (data_tokens (known_log runs)) fault
    (ap (λ ts. (ts ++ each_tokens (map known_run runs)) ++ log_closing) e1
    ∙ append_assoc log_opening (each_tokens (map known_run runs)) log_closing ∙ sym (log_tokens runs)) lost
