use Rattle.std.proofs.Common.{◌≡◌, ◌≤◌, ◌+◌, not, is_some, drop}
use Rattle.std.specs.List.{count_by}
use Rattle.sarif_prepare.proofs.run_parts.count_without.Given as goal

abbrev pub invariant-loop-parts : goal.invariant-loop-parts
invariant-loop-parts l = record {
  counted : l.count + count_by (λ parts. not (is_some parts.results)) (drop l.parts-index l.runs) ≡ count_by (λ parts. not (is_some parts.results)) l.runs;
  few : l.count ≤ l.parts-index;
}
