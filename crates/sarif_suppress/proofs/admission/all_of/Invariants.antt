use Rattle.std.proofs.Common.{◌≡◌, ◌++◌, drop, map}
use Rattle.std.specs.Prelude.{option_map}
use Rattle.sarif_entries.specs.declared.entry.Entry.{Entry}
use Rattle.sarif_entries.specs.declared.limit.Limit.{Limit}
use Rattle.sarif_suppress.proofs.admission.all_of.Given as goal

-- the numbers so far, and then those of the entries that are left
abbrev pub invariant-loop-entry : goal.invariant-loop-entry
invariant-loop-entry l =
    l.left.items ++ map (λ (e : Entry). option_map (λ (limit : Limit). limit.most) e.limit) (drop l.entry-index l.entries)
    ≡ map (λ (e : Entry). option_map (λ (limit : Limit). limit.most) e.limit) l.entries
