-- What the conditions of a policy decide about a merge.
use Rattle.std.specs.Prelude.{List}
use Rattle.sarif_conditions.specs.Facts.{decided_of}
use Rattle.sarif_conditions.specs.declared.decided.Decided.{Decided}
use Rattle.sarif_policy.specs.declared.condition.GateCondition.{GateCondition}
use Rattle.sarif_deciding.specs.Matched.{Matched}
use Rattle.sarif_deciding.specs.Results.{results_in}

abbrev pub ruling_in : List GateCondition → Matched → Decided
ruling_in cs m = decided_of cs (results_in cs m)
