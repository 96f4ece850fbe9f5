-- Which records have the conditions of a set.
use Rattle.std.specs.Prelude.{◌≡◌, List, ◌++◌}
use Rattle.std.specs.List.{list_any}
use Rattle.indexmap.specs.IndexSet.{IndexSet, contains}
use Rattle.sarif_model.specs.declared.record.Record.{Record}
use Rattle.sarif_entries.specs.declared.condition.Condition.{Condition}
use Rattle.sarif_accept.specs.Entry.{conditions_for}
use Rattle.sarif_accept.specs.Adding.{same_conditions, once_each}

-- the set has the conditions of the entries of these records, and nothing else
abbrev pub HasAsked : {S : Type 0} → IndexSet (List Condition) S → List Record → Type 0
HasAsked set records =
    (q : List Condition) → contains same_conditions set q
    ≡ list_any (λ r. same_conditions (conditions_for r) q) records

-- the results so far, each once, and then those of the rest: the same by either beginning
abbrev pub IsSameList : List Record → List Record → List Record → List Record → Type 0
IsSameList new rest old more = new ++ once_each new rest ≡ old ++ once_each old more
