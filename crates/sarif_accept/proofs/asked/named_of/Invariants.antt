use Rattle.std.proofs.Common.{◌≡◌, ◌++◌, drop}
use Rattle.sarif_accept.specs.Entry.{asked_of, named_by}
use Rattle.sarif_accept.proofs.asked.named_of.Given as goal

-- the conditions so far, followed by the conditions of the kinds that are left
abbrev pub invariant-loop-kind : goal.invariant-loop-kind
invariant-loop-kind l =
    l.conditions ++ named_by (asked_of l.record) (drop l.kind-index l.kinds) ≡ named_by (asked_of l.record) l.kinds
