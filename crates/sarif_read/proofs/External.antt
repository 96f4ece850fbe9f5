-- A log whose runs name no external property files is read the same, whether they are allowed or not.
use Rattle.std.proofs.Common.{◌≡◌, ℕ, ◌+◌, List, [], ◌∷◌, true, false, Option, Some, None, Ok, refl, ap, ◌∙◌, sym, codes, unwrap_or, option_map}
use Rattle.std.specs.List.{AllByRecursion}
use Rattle.serde_json.specs.Data.{Data, null, boolean, number, string, array, object, no_members, member}
use Rattle.sarif_model.specs.declared.fault.Fault.TheVariants.{ExternalProperties}
use Rattle.sarif_model.specs.Members.{◌>>=◌, member_at}
use Rattle.sarif_model.specs.Run.{runs_of}
use Rattle.sarif_read.specs.Reading.{at_run, at_whole, check_each, check_external, check_log, check_results, check_run, check_tool, count_results, log_of_value, may_be_named, unless_fault}

passes_too : (found : Option Data) → unless_fault (unwrap_or (option_map (may_be_named false) found) true) ExternalProperties ≡ Ok tt
    → unless_fault (unwrap_or (option_map (may_be_named true) found) true) ExternalProperties ≡ Ok tt
passes_too None h = refl
passes_too (Some null) h = cc
passes_too (Some (boolean b)) h = cc
passes_too (Some (number n)) h = cc
passes_too (Some (string s)) h = cc
passes_too (Some (array ds)) h = cc
passes_too (Some (object no_members)) h = refl
passes_too (Some (object (member k d ms))) h = cc

external_same : (run : Data) → check_external false run ≡ Ok tt → check_external true run ≡ check_external false run
external_same run h = passes_too (member_at (codes "externalPropertyFileReferences") run) h ∙ sym h

run_same : (before : ℕ) (run : Data) → check_external false run ≡ Ok tt → check_run true before run ≡ check_run false before run
unfolding check_run
run_same before run h =
    ap (λ external. check_tool run >>= λ _. external >>= λ _. check_results run >>= λ _. count_results before run) (external_same run h)

each_same : (n before : ℕ) (runs : List Data) → AllByRecursion (λ run. check_external false run ≡ Ok tt) runs
    → check_each true n before runs ≡ check_each false n before runs
unfolding check_each
each_same n before [] h = refl
each_same n before (run ∷ runs) h =
    λ i. at_run n (run_same before run h.0 i) >>= λ now. each_same (n + 1) now runs h.1 i

pub same_runs : (log : Data) → AllByRecursion (λ run. check_external false run ≡ Ok tt) (runs_of log) → log_of_value true log ≡ log_of_value false log
unfolding log_of_value
same_runs log h =
    ap (λ each. at_whole (check_log log) >>= λ _. each >>= λ _. Ok (runs_of log)) (each_same 0 0 (runs_of log) h)
