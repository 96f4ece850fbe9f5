-- What a law says about the filters of a policy.
use Rattle.std.specs.Prelude.{◌≡◌, List, [], None, unwrap_or}
use Rattle.std.specs.List.{AllByRecursion}
use Rattle.sarif_entries.specs.declared.entry.Entry.{Entry}
use Rattle.sarif_policy.specs.declared.condition.GateCondition.{GateCondition}

-- a filter has no `max`
abbrev pub HasNoMax : Entry → Type 0
HasNoMax e = e.limit ≡ None

abbrev pub FiltersHaveNoMax : GateCondition → Type 0
FiltersHaveNoMax c =
    AllByRecursion HasNoMax (unwrap_or c.only []) × AllByRecursion HasNoMax c.except

-- no filter of these conditions has a `max`
abbrev pub HaveNoMax : List GateCondition → Type 0
HaveNoMax cs = AllByRecursion FiltersHaveNoMax cs
