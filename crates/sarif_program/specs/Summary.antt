-- The table that is printed after a merge.
use Rattle.std.specs.Prelude.{ℕ, List, Option, Some, None}
use Rattle.sarif_conditions.specs.Summary.{summary_of_policy}
use Rattle.sarif_conditions.specs.declared.facts.PolicyFacts.{PolicyFacts}
use Rattle.sarif_counts.specs.Hits.{Count}
use Rattle.sarif_options.specs.declared.policy.Policy.{Policy}
use Rattle.sarif_scope.specs.Told.{summary_told}
use Rattle.sarif_scope.specs.declared.facts.ChangeFacts.{ChangeFacts}

-- the table for these counts, with what the gate says about a change and about the conditions of a policy, if there are
-- such
abbrev pub summary_for : Option PolicyFacts → Option ChangeFacts → Count → Policy → List ℕ
summary_for None change count policy = summary_told change count policy
summary_for (Some facts) change count policy = summary_of_policy change count facts
