-- The gate and the verdict by their facts.
use Rattle.std.proofs.Common.{◌≡◌, ℕ, List, Option, Some, None, refl, ap}
use Rattle.serde_json.specs.Data.{Data}
use Rattle.sarif_counts.specs.CountOf.{count_of}
use Rattle.sarif_options.specs.declared.policy.Policy.{Policy}
use Rattle.sarif_scope.proofs.HitsMore.{gate_from, verdict_from}
use Rattle.sarif_scope.specs.Counted.{verdict_by}
use Rattle.sarif_scope.specs.Told.{facts_by, verdict_told}
use Rattle.sarif_scope.specs.declared.gated.GatedChange.{GatedChange}
use Rattle.sarif_conditions.specs.declared.facts.PolicyFacts.{PolicyFacts}
use Rattle.sarif_log.specs.Internal.Ruled.{gate_said}
use Rattle.sarif_log.specs.Ruled.{gate_ruled, verdict_ruled}

pub gate_is : (ruling : Option PolicyFacts) (change : Option GatedChange) (runs : List Data) (policy : Policy) (without unused : ℕ)
    → gate_ruled ruling change runs policy without unused ≡ gate_said ruling (facts_by change policy runs) (count_of runs) policy without unused
gate_is None change runs policy without unused = gate_from change runs policy without unused
gate_is (Some facts) change runs policy without unused = refl

pub verdict_is : (ruling : Option PolicyFacts) (change : Option GatedChange) (runs : List Data) (policy : Policy)
    → verdict_ruled ruling (verdict_by change policy runs) ≡ verdict_ruled ruling (verdict_told (facts_by change policy runs) (count_of runs) policy)
verdict_is ruling change runs policy = ap (verdict_ruled ruling) (verdict_from change runs policy)
