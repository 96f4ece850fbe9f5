-- The driver of the tool of a run (SARIF 2.1.0, "run object", "tool object", "toolComponent object").
use Rattle.std.specs.Prelude.{ℕ, List, [], Option, codes, option_and_then, unwrap_or}
use Rattle.serde_json.specs.Data.{Data}
use Rattle.serde_json.specs.Find.{get, as_str}

-- ---- a run

-- the string `name` of the object `driver` of the object `tool`
abbrev pub driver_name : Data → Option (List ℕ)
driver_name run =
    option_and_then as_str
    (option_and_then (get (codes "name"))
    (option_and_then (get (codes "driver")) (get (codes "tool") run)))

-- the name of a run's tool, or the empty string if it is missing
abbrev pub tool_name : Data → List ℕ
tool_name run = unwrap_or (driver_name run) []
