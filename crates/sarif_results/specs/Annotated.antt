-- An annotated result (SARIF 2.1.0, "result object": "level property", "baselineState property", "suppressions
-- property").
use Rattle.std.specs.Prelude.{codes}
use Rattle.serde_json.specs.Data.{Data, null, boolean, number, string, array, object, Items, Members, put}
use Rattle.serde_json.specs.Find.{get_member}
use Rattle.sarif_model.specs.declared.kinds.Level.{Level}
use Rattle.sarif_model.specs.declared.kinds.State.{State}
use Rattle.sarif_model.specs.Level.{level_name}
use Rattle.sarif_model.specs.State.{state_name}
use Rattle.sarif_counts.specs.CountOf.{items_in}

-- an object with its members changed; a value that is not an object is unchanged
abbrev pub on_members : (Members → Members) → Data → Data
on_members change null = null
on_members change (boolean b) = boolean b
on_members change (number n) = number n
on_members change (string s) = string s
on_members change (array ds) = array ds
on_members change (object ms) = object (change ms)

-- the result's own suppressions, unchanged
abbrev pub own_suppressions : Members → Items
own_suppressions ms = items_in (get_member (codes "suppressions") ms)

-- a result's members with this level, this state and these suppressions; every other member is kept
abbrev pub annotated_members : Level → State → Items → Members → Members
annotated_members level state list ms =
    put (codes "baselineState") (string (state_name state))
    (put (codes "level") (string (level_name level))
    (put (codes "suppressions") (array list) ms))
