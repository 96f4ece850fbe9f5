-- Whether the suppression file or the policy compares snippets, and runs whose records have regions and snippets.
use Rattle.std.specs.Prelude.{◌||◌, Bool, true, false, List, Option, is_some, map, if◌then◌else◌}
use Rattle.std.specs.List.{list_any}
use Rattle.std.specs.Option.{option_map_or}
use Rattle.sarif_entries.specs.Condition.{text_in}
use Rattle.sarif_entries.specs.declared.condition.ConditionKind.TheVariants as kinds
use Rattle.sarif_entries.specs.declared.entry.Entry.{Entry}
use Rattle.sarif_entries.specs.File.{File}
use Rattle.sarif_policy.specs.declared.condition.GateCondition.{GateCondition}
use Rattle.sarif_runs.specs.Placed.{Placed}

-- the entry compares snippets
abbrev pub names_snippet : Entry → Bool
names_snippet e = is_some (text_in kinds.Snippet e.conditions)

-- an entry of the file compares snippets
abbrev pub compares_snippets : File → Bool
compares_snippets file = list_any names_snippet file.entries

-- a filter of the condition compares snippets
abbrev pub filters_name_snippet : GateCondition → Bool
filters_name_snippet c =
    option_map_or (list_any names_snippet) c.only false || list_any names_snippet c.except

-- a filter of a condition of the policy compares snippets, if there is a policy
abbrev pub policy_compares_snippets : Option (List GateCondition) → Bool
policy_compares_snippets conditions =
    option_map_or (list_any filters_name_snippet) conditions false

-- a filter of the policy or an entry of the file compares snippets
abbrev pub compare_snippets : Option (List GateCondition) → File → Bool
compare_snippets conditions file =
    policy_compares_snippets conditions || compares_snippets file

-- the run, read with regions and snippets
abbrev pub with_regions : Placed → Placed
with_regions p =
    record p {
      options = record p.options { records = record p.options.records { regions = true } };
    }

-- the runs, with regions and snippets if this is so
abbrev pub with_regions_if : Bool → List Placed → List Placed
with_regions_if wanted runs = if wanted then map with_regions runs else runs
