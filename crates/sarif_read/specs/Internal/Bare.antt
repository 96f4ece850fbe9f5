-- A run without its results (SARIF 2.1.0, "run object").
use Rattle.std.specs.Prelude.{Bool, false, not, is_some, codes}
use Rattle.serde_json.specs.Data.{Data, null, boolean, number, string, array, object}
use Rattle.serde_json.specs.Find.{get_member}
use Rattle.json_parts.specs.Without.{without_member}
pub use Rattle.json_parts.specs.Without.{without, without_member}

-- a run without its results
abbrev pub bare : Data → Data
bare run = without_member (codes "results") run

-- an object that has no results
abbrev pub is_bare : Data → Bool
is_bare null = false
is_bare (boolean b) = false
is_bare (number n) = false
is_bare (string s) = false
is_bare (array ds) = false
is_bare (object ms) = not (is_some (get_member (codes "results") ms))
