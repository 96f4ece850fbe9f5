use Rattle.std.proofs.Common.{◌≡◌, drop}
use Rattle.serde_json.specs.View.{view}
use Rattle.sarif_model.proofs.ReadEach.{before}
use Rattle.sarif_entries.specs.Entries.{conditions_from}
use Rattle.sarif_entries.proofs.read_condition.conditions_from.Given as goal

-- the conditions so far, followed by the conditions of the kinds that are left, or the first error among these
abbrev pub invariant-loop-kind : goal.invariant-loop-kind
invariant-loop-kind l =
    before l.conditions (conditions_from l.wrong (view l.entry) (drop l.kind-index l.kinds))
    ≡ conditions_from l.wrong (view l.entry) l.kinds
