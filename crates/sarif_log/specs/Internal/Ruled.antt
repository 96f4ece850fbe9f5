-- For the contracts of the writing of the log: the gate by its facts.
use Rattle.std.specs.Prelude.{ℕ, Option, Some, None}
use Rattle.serde_json.specs.Data.{Data}
use Rattle.sarif_counts.specs.Hits.{Count}
use Rattle.sarif_options.specs.declared.policy.Policy.{Policy}
use Rattle.sarif_scope.specs.Told.{gate_told}
use Rattle.sarif_scope.specs.declared.facts.ChangeFacts.{ChangeFacts}
use Rattle.sarif_conditions.specs.Gate.{gate_of_policy}
use Rattle.sarif_conditions.specs.declared.facts.PolicyFacts.{PolicyFacts}

-- the gate for these counts, by what it says about a policy and about a change, if there are any
abbrev pub gate_said : Option PolicyFacts → Option ChangeFacts → Count → Policy → ℕ → ℕ → Data
gate_said None change count policy without unused = gate_told change count policy without unused
gate_said (Some facts) change count policy without unused =
    gate_of_policy change count facts without unused
