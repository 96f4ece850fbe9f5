-- Reports link only to addresses.
use Rattle.std.proofs.Common.{◌≡◌, ℕ, Bool, true, false, List, Option, Some, None, IfSome, refl, if◌then◌else◌}
use Rattle.std.specs.Prelude.{option_and_then}
use Rattle.std.specs.List.{All}
use Rattle.std.proofs.lemmas.List.Elements.{All-from_recursion}
use Rattle.serde_json.specs.Data.{Data}
use Rattle.sarif_model.specs.declared.kinds.Level.{Level}
use Rattle.sarif_model.specs.declared.kinds.State.{State}
use Rattle.sarif_links.specs.Address.{is_address}
use Rattle.sarif_findings.specs.declared.reporting.Reporting.{Reporting}
use Rattle.sarif_findings.specs.Lookup.{help_uri}
use Rattle.sarif_findings.specs.Reported.{finding_of, link_of}
use Rattle.sarif_findings.proofs.EachFinding.{each_finding}
use Rattle.sarif_scope.specs.declared.gated.GatedChange.{GatedChange}
use Rattle.sarif_shown.specs.FindingLaws.{HasAddress}
use Rattle.sarif_shown.specs.ReportedInside.{reported_by}
use Rattle.sarif_shown.proofs.FindingsInside.{each_inside}

linked_by : (b : Bool) (uri : List ℕ) → is_address uri ≡ b → IfSome (if b then Some uri else None) (λ help. is_address help ≡ true)
linked_by true uri h = h
linked_by false uri h = tt

linked : (o : Option (List ℕ)) → IfSome (option_and_then link_of o) (λ help. is_address help ≡ true)
linked None = tt
linked (Some uri) = linked_by (is_address uri) uri refl

finding_linked : (reporting : Reporting) (run result : Data) (l : Level) (s : State) → HasAddress (finding_of reporting run result l s)
unfolding finding_of
finding_linked reporting run result l s = linked (help_uri run result)

pub all_linked : (change : Option GatedChange) (reporting : Reporting) (log : Data) → All HasAddress (reported_by change reporting log)
all_linked change reporting log =
    All-from_recursion HasAddress (reported_by change reporting log)
    (each_inside HasAddress change reporting log (each_finding HasAddress reporting (finding_linked reporting) log))
