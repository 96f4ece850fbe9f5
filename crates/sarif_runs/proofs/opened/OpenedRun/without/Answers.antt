use Rattle.std.proofs.Common.{sym, ap, ◌∙◌}
use Rattle.serde_json.specs.Written.{has_float}
use Rattle.sarif_model.specs.Driver.{tool_name}
use Rattle.sarif_read.specs.Internal.Indexed.{run_of}
use Rattle.sarif_runs.specs.Head.{head_of}
use Rattle.sarif_runs.proofs.Unmarked.{tool_without, head_without, whole_without}
use Rattle.sarif_runs.proofs.opened.OpenedRun.without.Goals as goal

pub invariant_of-result : goal.invariant_of-result
invariant_of-result c =
    let marks = c.args.marked.now in
    let run = run_of c.args.self.run in
    let is = c.in_ok-run.ensures in
    record {
      tool_is = c.args.self.tool_is ∙ sym (ap tool_name is ∙ tool_without marks run);
      head_is = c.args.self.head_is ∙ sym (ap head_of is ∙ head_without marks run);
      whole = ap has_float is ∙ whole_without marks run c.args.self.whole;
    }
