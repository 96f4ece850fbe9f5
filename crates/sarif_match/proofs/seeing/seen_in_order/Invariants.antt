use Rattle.std.proofs.Common.{◌≡◌, map, take}
use Rattle.sarif_evidence.specs.Seen.{seen}
use Rattle.sarif_match.proofs.seeing.seen_in_order.Given as goal

abbrev pub invariant-loop-finding : goal.invariant-loop-finding
invariant-loop-finding l = l.seen_findings.items ≡ map seen (take l.finding-index l.findings)
