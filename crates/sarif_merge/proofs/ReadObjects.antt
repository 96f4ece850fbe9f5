-- The runs of a log that is read are objects, and so are their results.
use Rattle.std.proofs.Common.{◌≡◌, ◌+◌, ℕ, Bool, true, false, List, [], ◌∷◌, ◌++◌, Option, Some, None, Result, Ok, Err, if◌then◌else◌, refl, sym, ap, ◌∙◌, subst, codes, option_and_then}
use Rattle.std.proofs.lemmas.List.{map-append}
use Rattle.std.specs.Prelude.{⊤}
use Rattle.std.specs.List.{AllByRecursion}
use Rattle.serde_json.specs.Data.{Data, null, boolean, number, string, array, object}
use Rattle.serde_json.specs.Find.{get, as_array}
use Rattle.sarif_model.specs.declared.fault.Fault.{Fault}
use Rattle.sarif_model.specs.declared.fault.Fault.TheVariants.{BadRun, NotJson}
use Rattle.sarif_read.specs.declared.read_fault.ReadFault.{ReadFault}
use Rattle.sarif_model.specs.Members.{◌>>=◌, are_objects, elements, elements_of, if_objects, of_kind, unless_null}
use Rattle.sarif_read.specs.Reading.{at_run, at_whole, check_each, check_external, check_log, check_results, check_run, check_tool, log_of, log_of_value, ok_or}
use Rattle.json_parts.specs.Indexed.{json_of}
use Rattle.sarif_model.specs.Run.{runs_of}
use Rattle.json_parts.specs.Mark.{without_mark}
use Rattle.sarif_model.specs.Run.{elements_or_none}
use Rattle.sarif_read.specs.Stripping.{stripped}
use Rattle.sarif_read.proofs.WholeRuns.{bind_ok}
use Rattle.sarif_results.specs.Drafts.{IsObject, IsRun}
use Rattle.sarif_runs.specs.Placed.{Placed}
use Rattle.sarif_runs.specs.Judging.{run_values}
use Rattle.sarif_inputs.specs.Inputs.{Sourced, placed, placed_from, readable, runs_in}
use Rattle.sarif_inputs.proofs.SourceRuns.{data_placed}

each_object : (ds : List Data) → are_objects ds ≡ true → AllByRecursion IsObject ds
each_object [] h = tt
each_object (null ∷ ds) h = cc
each_object (boolean b ∷ ds) h = cc
each_object (number n ∷ ds) h = cc
each_object (string s ∷ ds) h = cc
each_object (array es ∷ ds) h = cc
each_object (object ms ∷ ds) h = (tt, each_object ds h)

passes : (b : Bool) (ds : List Data) (x : ⊤) → ((if b then Ok ds else Err BadRun) >>= λ _. Ok tt) ≡ Ok x → b ≡ true
passes true ds x h = refl
passes false ds x h = cc

-- what the check of `results` says about the value there
checked : Option Data → Result ⊤ Fault
checked found = (elements_of (of_kind BadRun as_array (option_and_then unless_null found)) >>= if_objects BadRun) >>= λ _. Ok tt

of_found : (found : Option Data) (x : ⊤) → checked found ≡ Ok x → AllByRecursion IsObject (elements_or_none (option_and_then as_array found))
unfolding checked
of_found None x h = tt
of_found (Some null) x h = tt
of_found (Some (boolean b)) x h = tt
of_found (Some (number n)) x h = tt
of_found (Some (string s)) x h = tt
of_found (Some (array ds)) x h = each_object (elements ds) (passes (are_objects (elements ds)) (elements ds) x h)
of_found (Some (object ms)) x h = tt

with_tool : (run : Data) (x : ⊤) → check_tool run ≡ Ok x → IsObject run
with_tool null x h = cc
with_tool (boolean b) x h = cc
with_tool (number n) x h = cc
with_tool (string s) x h = cc
with_tool (array ds) x h = cc
with_tool (object ms) x h = tt

run_object : (allow : Bool) (run : Data) (before now : ℕ) → check_run allow before run ≡ Ok now → IsRun run
unfolding check_run checked
run_object allow run before now h =
    let tool = bind_ok (check_tool run) _ now h in
    let external = bind_ok (check_external allow run) _ now tool.2 in
    let results = bind_ok (check_results run) _ now external.2 in
    (with_tool run tool.0 tool.1, of_found (get (codes "results") run) results.0 results.1)

at_run_ok : {A : Type 0} (n : ℕ) (r : Result A Fault) (x : A) → at_run n r ≡ Ok x → r ≡ Ok x
at_run_ok n (Ok y) x h = cc
at_run_ok n (Err fault) x h = cc

each_run : (allow : Bool) (n before : ℕ) (runs : List Data) (x : ⊤) → check_each allow n before runs ≡ Ok x → AllByRecursion IsRun runs
unfolding check_each
each_run allow n before [] x h = tt
each_run allow n before (run ∷ runs) x h =
    let first = bind_ok (at_run n (check_run allow before run)) _ x h in
    (run_object allow run before first.0 (at_run_ok n (check_run allow before run) first.0 first.1), each_run allow (n + 1) first.0 runs x first.2)

log_objects : (allow : Bool) (bytes : List ℕ) (runs : List Data) → log_of allow bytes ≡ Ok runs → AllByRecursion IsRun runs
unfolding log_of log_of_value
log_objects allow bytes runs h =
    let parsed = bind_ok (at_whole (ok_or (json_of (without_mark bytes)) NotJson)) _ runs h in
    let d = stripped parsed.0 in
    let log = bind_ok (at_whole (check_log d)) _ runs parsed.2 in
    let each = bind_ok (check_each allow 0 0 (runs_of d)) _ runs log.2 in
    let same : runs_of d ≡ runs = cc each.2 in
    subst (AllByRecursion IsRun) same (each_run allow 0 0 (runs_of d) each.0 each.1)

readable_objects : (allow : Bool) (bytes : List ℕ) (found : Result (List Data) ReadFault) → log_of allow bytes ≡ found → AllByRecursion IsRun (readable found)
readable_objects allow bytes (Ok runs) is = log_objects allow bytes runs is
readable_objects allow bytes (Err fault) is = tt

all_append : (xs ys : List Data) → AllByRecursion IsRun xs → AllByRecursion IsRun ys → AllByRecursion IsRun (xs ++ ys)
all_append [] ys of_xs of_ys = of_ys
all_append (x ∷ xs) ys of_xs of_ys = (of_xs.0, all_append xs ys of_xs.1 of_ys)

-- all runs of sources
pub objects_in : (sources : List Sourced) → AllByRecursion IsRun (run_values (placed sources))
objects_in [] = tt
objects_in (s ∷ rest) =
    let here = placed_from s.checks s.source 0 (runs_in s) in
    let same =
    map-append (λ (p : Placed). p.run) here (placed rest)
    ∙ ap (λ ds. ds ++ run_values (placed rest)) (data_placed s.checks s.source 0 (runs_in s)) in
    subst (AllByRecursion IsRun) (sym same)
    (all_append (runs_in s) (run_values (placed rest))
    (readable_objects s.checks.allow_external s.bytes (log_of s.checks.allow_external s.bytes) refl) (objects_in rest))
