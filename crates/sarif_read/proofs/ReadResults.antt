-- The results of a run whose form was checked.
use Rattle.std.proofs.Common.{◌≡◌, ℕ, Bool, Option, Some, None, is_some, Result, Ok, refl, ap, ◌∙◌, codes, option_and_then}
use Rattle.std.specs.Prelude.{⊤}
use Rattle.serde_json.specs.Data.{Data, null, boolean, number, string, array, object}
use Rattle.serde_json.specs.Find.{get, as_array}
use Rattle.sarif_model.specs.declared.fault.Fault.{Fault}
use Rattle.sarif_model.specs.declared.fault.Fault.TheVariants.{BadRun}
use Rattle.sarif_model.specs.Members.{◌>>=◌, unless_null, of_kind, elements_of, if_objects}
use Rattle.sarif_model.specs.Members.{member_at}
use Rattle.sarif_model.specs.Run.{results_array}
use Rattle.sarif_read.specs.Reading.{check_run, check_tool, check_external, check_results}
use Rattle.sarif_read.proofs.WholeRuns.{bind_ok}

-- what the check of `results` says about the value there
checked : Option Data → Result ⊤ Fault
checked found = (elements_of (of_kind BadRun as_array (option_and_then unless_null found)) >>= if_objects BadRun) >>= λ _. Ok tt

of_found : (found : Option Data) → checked found ≡ Ok tt → is_some (option_and_then as_array found) ≡ is_some (option_and_then unless_null found)
unfolding checked
of_found None h = refl
of_found (Some null) h = refl
of_found (Some (boolean b)) h = cc
of_found (Some (number n)) h = cc
of_found (Some (string s)) h = cc
of_found (Some (array ds)) h = refl
of_found (Some (object ms)) h = cc

unit : (x : ⊤) → x ≡ tt
unit x = refl

pub results_there : (allow : Bool) (run : Data) (before now : ℕ) → check_run allow before run ≡ Ok now
    → is_some (results_array run) ≡ is_some (member_at (codes "results") run)
unfolding check_run checked
results_there allow run before now h =
    let tool = bind_ok (check_tool run) _ now h in
    let external = bind_ok (check_external allow run) _ now tool.2 in
    let results = bind_ok (check_results run) _ now external.2 in
    of_found (get (codes "results") run) (results.1 ∙ ap Ok (unit results.0))
