-- A run whose results are reported may be read in many threads.
use denote.Param.Send.{IsSync, sendable}
use denote.Ref.{NamedLft}
use Rattle.std.proofs.Crossing.{crosses}
use Rattle.std.proofs.MapsCrossing.{crosses as maps}
use Rattle.serde_json.proofs.value.Value.TheLaws.TheKnot as knot
use Rattle.serde_json.specs.contracts.value.Value as Json
use Rattle.sarif_findings.specs.contracts.rules.Rules as Rules
use Rattle.sarif_findings.specs.contracts.named_run.NamedRun as NamedRun

json_sync : IsSync Json.the_row
json_sync = search (knot.crosses, sendable, crosses, maps) depth 60

rules_sync : (κ : NamedLft) → IsSync (Rules.the_row κ)
rules_sync κ = let json = json_sync in search (sendable, crosses, maps) depth 40

pub named_sync : (κ : NamedLft) → IsSync (NamedRun.the_row κ)
named_sync κ = let json = json_sync in let rules = rules_sync κ in search (sendable, crosses, maps) depth 40
