-- What of a run stays the same without some of its results.
use Rattle.std.proofs.Common.{◌≡◌, Bool, false, List, sym, ap, ◌∙◌}
use Rattle.serde_json.specs.Data.{Data}
use Rattle.serde_json.specs.Written.{has_float}
use Rattle.sarif_model.specs.Driver.{tool_name}
use Rattle.sarif_model.specs.Run.{results_of}
use Rattle.sarif_read.specs.Unmarked.{unmarked, with_only, without_marked}
use Rattle.sarif_read.proofs.Only.{bare_only, results_float}
use Rattle.sarif_runs.specs.Head.{head_of}
use Rattle.sarif_runs.proofs.Beside.{bare_head, bare_tool_name}

pub tool_only : (ds : List Data) (run : Data) → tool_name (with_only ds run) ≡ tool_name run
tool_only ds run = sym (bare_tool_name (with_only ds run)) ∙ ap tool_name (bare_only ds run) ∙ bare_tool_name run

pub head_only : (ds : List Data) (run : Data) → head_of (with_only ds run) ≡ head_of run
head_only ds run = sym (bare_head (with_only ds run)) ∙ ap head_of (bare_only ds run) ∙ bare_head run

pub tool_without : (marks : List Bool) (run : Data) → tool_name (without_marked marks run) ≡ tool_name run
tool_without marks run = tool_only (unmarked marks (results_of run)) run

pub head_without : (marks : List Bool) (run : Data) → head_of (without_marked marks run) ≡ head_of run
head_without marks run = head_only (unmarked marks (results_of run)) run

pub whole_without : (marks : List Bool) (run : Data) → has_float run ≡ false → has_float (without_marked marks run) ≡ false
whole_without marks run whole = results_float marks run whole
