use Rattle.std.proofs.Common.{rules}
use Rattle.serde_json.proofs.OnLiterals.{serde_json_on_literals}
use Rattle.sarif_log.proofs.results_text.state_text.Goals as goal

pub returns-in-New : goal.returns-in-New
unfolding serde_json_on_literals
returns-in-New c = search rules

pub returns-in-Unchanged : goal.returns-in-Unchanged
unfolding serde_json_on_literals
returns-in-Unchanged c = search rules

pub returns-in-Updated : goal.returns-in-Updated
unfolding serde_json_on_literals
returns-in-Updated c = search rules

pub returns-in-Absent : goal.returns-in-Absent
unfolding serde_json_on_literals
returns-in-Absent c = search rules
