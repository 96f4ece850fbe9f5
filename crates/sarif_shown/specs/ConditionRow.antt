-- The row of a condition in a table of the conditions of a policy: its name, and then these cells.
use Rattle.std.specs.Prelude.{ℕ, List, [], ◌++◌, Option, Some, None}
use Rattle.std.specs.Fmt.{decimal}
use Rattle.sarif_conditions.specs.Facts.{verdict_if}
use Rattle.sarif_conditions.specs.declared.facts.ConditionFacts.{ConditionFacts}
use Rattle.sarif_counts.specs.Hits.{verdict_name}

-- a cell, between what a format has before it and after it
abbrev pub cell : List ℕ → List ℕ → List ℕ → List ℕ
cell before after text = before ++ (text ++ after)

-- how many results outside of the change would be hits; nothing for a condition that doesn't require the change
abbrev pub outside_number : Option ℕ → List ℕ
outside_number None = []
outside_number (Some n) = decimal n

-- the verdict, the hits, the limit and the results outside
abbrev pub condition_cells : List ℕ → List ℕ → ConditionFacts → List ℕ
condition_cells before after c =
    cell before after (verdict_name (verdict_if c.fails)) ++ (cell before after (decimal c.hits)
    ++ (cell before after (decimal c.limit) ++ cell before after (outside_number c.outside)))
