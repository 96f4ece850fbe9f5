-- The other members are unchanged if a member is left out.
use Rattle.std.proofs.Common.{◌≡◌, ℕ, Bool, List, true, false, refl, true≢false, sym, ap, ◌∙◌, codes, bytes_eq, is_some, unwrap_or, option_map, option_and_then}
use Rattle.std.proofs.lemmas.Slice.Eq.{bytes_eq-Decides}
use Rattle.std.specs.List.{list_any}
use Rattle.serde_json.specs.Data.{Data}
use Rattle.serde_json.specs.Find.{get, as_str, as_array}
use Rattle.json_parts.proofs.Stripped.{get-without_other}
use Rattle.sarif_read.specs.Internal.Bare.{without_member, bare}
use Rattle.sarif_model.specs.Members.{unless_null, member_at}
use Rattle.sarif_model.specs.Driver.{driver_name}
use Rattle.sarif_model.specs.Run.{elements_or_none}
use Rattle.sarif_read.specs.Failed.{is_unsuccessful, invocations_in}
use Rattle.sarif_read.specs.Reading.{check_tool, check_external, unless_fault, may_be_named}
use Rattle.sarif_model.specs.declared.fault.Fault.TheVariants.{BadRun, ExternalProperties}

pub member_beside : (r k : List ℕ) (d : Data) → bytes_eq k r ≡ false → get k (without_member r d) ≡ get k d
member_beside r k d apart = get-without_other k r d (λ same. true≢false (sym ((bytes_eq-Decides k r).1 same) ∙ apart))

-- a run's members except its results are found in the run without its results
pub bare_get : (k : List ℕ) (run : Data) → bytes_eq k (codes "results") ≡ false → get k (bare run) ≡ get k run
bare_get k run apart = member_beside (codes "results") k run apart

pub bare_member : (k : List ℕ) (run : Data) → bytes_eq k (codes "results") ≡ false → member_at k (bare run) ≡ member_at k run
bare_member k run apart = ap (option_and_then unless_null) (bare_get k run apart)

pub bare_driver_name : (run : Data) → driver_name (bare run) ≡ driver_name run
bare_driver_name run =
    ap (λ tool. option_and_then as_str (option_and_then (get (codes "name")) (option_and_then (get (codes "driver")) tool)))
    (bare_get (codes "tool") run refl)

pub bare_check_tool : (run : Data) → check_tool (bare run) ≡ check_tool run
bare_check_tool run = ap (λ name. unless_fault (is_some name) BadRun) (bare_driver_name run)

pub bare_check_external : (allow : Bool) (run : Data) → check_external allow (bare run) ≡ check_external allow run
bare_check_external allow run =
    ap (λ files. unless_fault (unwrap_or (option_map (may_be_named allow) files) true) ExternalProperties)
    (bare_member (codes "externalPropertyFileReferences") run refl)

pub bare_unsuccessful : (run : Data) → list_any is_unsuccessful (invocations_in (bare run)) ≡ list_any is_unsuccessful (invocations_in run)
bare_unsuccessful run =
    ap (λ found. list_any is_unsuccessful (elements_or_none (option_and_then as_array found))) (bare_get (codes "invocations") run refl)
