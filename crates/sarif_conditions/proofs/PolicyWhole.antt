-- The gate object of a policy contains only integers.
use Rattle.std.proofs.Common.{◌≡◌, ℕ, false, List, [], ◌∷◌, map, Option, Some, None, refl}
use Rattle.serde_json.specs.View.{items_of}
use Rattle.serde_json.specs.Written.{has_float, items_have_float}
use Rattle.sarif_counts.specs.Hits.{Count}
use Rattle.sarif_scope.specs.declared.facts.ChangeFacts.{ChangeFacts}
use Rattle.sarif_conditions.specs.Gate.{condition_data, condition_with, gate_of_policy}
use Rattle.sarif_conditions.specs.declared.facts.ConditionFacts.{ConditionFacts}
use Rattle.sarif_conditions.specs.declared.facts.PolicyFacts.{PolicyFacts}

condition_whole : (outside : Option ℕ) (c : ConditionFacts) → has_float (condition_with outside c) ≡ false
condition_whole None c = refl
condition_whole (Some outside) c = refl

conditions_whole : (cs : List ConditionFacts) → items_have_float (items_of (map condition_data cs)) ≡ false
conditions_whole [] = refl
conditions_whole (c ∷ cs) = rw (condition_whole c.outside c, conditions_whole cs) refl

pub gate_whole : (change : Option ChangeFacts) (count : Count) (facts : PolicyFacts) (without unused : ℕ)
    → has_float (gate_of_policy change count facts without unused) ≡ false
gate_whole None count facts without unused = rw (conditions_whole facts.conditions) refl
gate_whole (Some change) count facts without unused = rw (conditions_whole facts.conditions) refl
