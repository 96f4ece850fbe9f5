-- A condition in two parts.
use Rattle.std.specs.Prelude.{[], ◌∷◌, Some}
use Rattle.sarif_entries.specs.declared.entry.Entry.{Entry}
use Rattle.sarif_policy.specs.declared.condition.GateCondition.{GateCondition}

-- the condition for the results that the filter matches
abbrev pub with_only : Entry → GateCondition → GateCondition
with_only f c = record c { only = Some (f ∷ []) }

-- the condition for the results that the filter doesn't match
abbrev pub with_except : Entry → GateCondition → GateCondition
with_except f c = record c { except = f ∷ c.except }
