-- A result that is requested may be read in many threads.
use denote.Param.Send.{IsSync, sendable}
use denote.Ref.{NamedLft}
use Rattle.std.proofs.Crossing.{crosses}
use Rattle.std.proofs.MapsCrossing.{crosses as maps}
use Rattle.serde_json.proofs.value.Value.TheLaws.TheKnot as knot
use Rattle.serde_json.specs.contracts.value.Value as Json
use Rattle.sarif_model.proofs.fault.Fault.TheSendSync as fault
use Rattle.sarif_model.proofs.text.Text.TheSendSync as text
use Rattle.sarif_runs.proofs.head.RunHead.TheSendSync as head
use Rattle.sarif_read.specs.contracts.indexed_run.IndexedRun as IndexedRun
use Rattle.sarif_runs.specs.contracts.opened.OpenedRun as OpenedRun
use Rattle.sarif_outside.specs.contracts.asked.AskedResult as AskedResult
use Rattle.sarif_outside.specs.contracts.asked.LookedRun as LookedRun
use Rattle.sarif_outside.proofs.ChangeShared.{known_sync, scoped_sync}

json_sync : IsSync (Json.the_field).row
json_sync = search (knot.crosses, sendable, crosses, maps) depth 60

indexed_sync : (κ λ' : NamedLft) → IsSync (IndexedRun.the_field κ λ').row
indexed_sync κ λ' = search (json_sync, sendable, crosses) depth 40

opened_sync : (κ λ' : NamedLft) → IsSync (OpenedRun.the_row κ λ')
opened_sync κ λ' = search (indexed_sync, text.the_sync, fault.the_sync, head.the_sync, sendable, crosses) depth 40

looked_sync : (κ λ' μ : NamedLft) → IsSync (LookedRun.the_row κ λ' μ)
looked_sync κ λ' μ = search (opened_sync, scoped_sync, known_sync, sendable, crosses) depth 40

pub asked_sync : (a b c d : NamedLft) → IsSync (AskedResult.the_row a b c d)
asked_sync a b c d = search (looked_sync, sendable) depth 40
