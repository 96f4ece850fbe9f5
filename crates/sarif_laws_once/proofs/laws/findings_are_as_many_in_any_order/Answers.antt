use Rattle.sarif_laws_once.proofs.OrderAccepted.{none_in_any_order}
use Rattle.sarif_laws_once.proofs.OrderOfLogs.{as_many_findings}
use Rattle.sarif_laws_once.proofs.laws.findings_are_as_many_in_any_order.Goals as goal

pub returns : goal.returns
returns c = record { faultless = none_in_any_order; findings = as_many_findings }
