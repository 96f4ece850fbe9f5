-- The merged log: its gate, and its runs (SARIF 2.1.0, "sarifLog object").
use Rattle.std.specs.Prelude.{List, codes}
use Rattle.serde_json.specs.Data.{Data, string, array, object, no_members, member}
use Rattle.serde_json.specs.View.{items_of}

-- the log with this gate and these runs
abbrev pub log_with : Data → List Data → Data
log_with gate runs = object
    (member (codes "properties") (object (member (codes "gate") gate no_members))
    (member (codes "runs") (array (items_of runs))
    (member (codes "version") (string (codes "2.1.0")) no_members)))
