-- The gate of a merged log and its verdict: with a policy, by what its conditions decide.
use Rattle.std.specs.Prelude.{ℕ, List, Option, Some, None}
use Rattle.serde_json.specs.Data.{Data}
use Rattle.sarif_counts.specs.CountOf.{count_of}
use Rattle.sarif_counts.specs.declared.gate_verdict.Verdict.{Verdict}
use Rattle.sarif_options.specs.declared.policy.Policy.{Policy}
use Rattle.sarif_scope.specs.Gate.{gate_by}
use Rattle.sarif_scope.specs.Told.{facts_by}
use Rattle.sarif_scope.specs.declared.gated.GatedChange.{GatedChange}
use Rattle.sarif_conditions.specs.Facts.{verdict_told}
use Rattle.sarif_conditions.specs.Gate.{gate_of_policy}
use Rattle.sarif_conditions.specs.declared.facts.PolicyFacts.{PolicyFacts}

-- the gate of a log whose results in these runs are counted: that of the options, or that of the conditions of a policy
abbrev pub gate_ruled : Option PolicyFacts → Option GatedChange → List Data → Policy → ℕ → ℕ → Data
gate_ruled None gated runs policy without unused = gate_by gated runs policy without unused
gate_ruled (Some facts) gated runs policy without unused =
    gate_of_policy (facts_by gated policy runs) (count_of runs) facts without unused

-- the verdict: this one, which the options give, or that of the conditions of a policy
abbrev pub verdict_ruled : Option PolicyFacts → Verdict → Verdict
verdict_ruled None verdict = verdict
verdict_ruled (Some facts) verdict = verdict_told facts
