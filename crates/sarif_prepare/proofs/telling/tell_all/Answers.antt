use denote.Param.Send.{IsSync, sendable}
use denote.Ref.{NamedLft}
use Rattle.std.proofs.Crossing.{crosses}
use Rattle.std.proofs.MapsCrossing.{crosses as maps}
use Rattle.serde_json.proofs.value.Value.TheLaws.TheKnot as knot
use Rattle.serde_json.specs.contracts.value.Value as Json
use Rattle.sarif_model.proofs.text.Text.TheSendSync as text
use Rattle.sarif_model.proofs.fault.Fault.TheSendSync as fault
use Rattle.sarif_runs.proofs.head.RunHead.TheSendSync as head
use Rattle.sarif_read.specs.contracts.indexed_run.IndexedRun as IndexedRun
use Rattle.sarif_runs.specs.contracts.opened.OpenedRun as OpenedRun
use Rattle.sarif_findings.proofs.Shared.{named_sync}
use Rattle.sarif_prepare.specs.contracts.told.ReportedResult as ReportedResult
use Rattle.sarif_prepare.specs.contracts.told.ReportedRun as ReportedRun
use Rattle.sarif_prepare.specs.Internal.Telling.{told_by}
use Rattle.sarif_prepare.proofs.Shared.{made_of_shown}
use Rattle.sarif_prepare.proofs.telling.tell_all.Goals as goal

json_sync : IsSync (Json.the_field).row
json_sync = search (knot.crosses, sendable, crosses, maps) depth 60

indexed_sync : (κ λ' : NamedLft) → IsSync (IndexedRun.the_field κ λ').row
indexed_sync κ λ' = search (json_sync, sendable, crosses) depth 40

opened_sync : (κ λ' : NamedLft) → IsSync (OpenedRun.the_row κ λ')
opened_sync κ λ' = search (indexed_sync, text.the_sync, fault.the_sync, head.the_sync, sendable, crosses) depth 40

told_sync : (κ λ' μ : NamedLft) → IsSync (ReportedRun.the_row κ λ' μ)
told_sync κ λ' μ = search (named_sync, opened_sync, sendable) depth 40

result_sync : (a b c d : NamedLft) → IsSync (ReportedResult.the_row a b c d)
result_sync a b c d = search (told_sync, sendable) depth 40

pub share_jobs-requires-send-J : goal.share_jobs-requires-send-J
share_jobs-requires-send-J g c κs within = search (result_sync, sendable) depth 12

pub returns : goal.returns
returns g c =
    made_of_shown (told_by c.args.reporting.now) c.in_ok-each.each.items c.args.told.now c.in_ok-findings.findings.items c.in_ok-each.ensures
    c.in_ok-findings.ensures
