use Rattle.std.proofs.Common.{arith}
use Rattle.sarif_collect.specs.Slot.{held_of}
use Rattle.sarif_collect.proofs.Runs.{taken, same, why}
use Rattle.sarif_collect.proofs.collector.Collector.accept.Goals as goal

pub returns-clause-ok : goal.returns-clause-ok
returns-clause-ok g c =
    taken held_of c.self.inside.slots.items _ c.self.view_is c.args.piece c.run-run.result c.run-run.ensures
    (omega arith) c.index_mut.result.now c.index_mut.ensures.value c.accept.result c.accept.new.self c.accept.ensures.ok

pub returns-clause-same : goal.returns-clause-same
returns-clause-same g c =
    same held_of c.self.inside.slots.items _ c.self.view_is c.args.piece c.run-run.result c.run-run.ensures
    (omega arith) c.index_mut.result.now c.index_mut.ensures.value c.accept.result c.accept.new.self c.accept.ensures.same

pub returns-clause-why : goal.returns-clause-why
returns-clause-why g c =
    why held_of c.self.inside.slots.items _ c.self.view_is c.args.piece c.run-run.result c.run-run.ensures
    (omega arith) c.index_mut.result.now c.index_mut.ensures.value c.accept.result c.accept.ensures.why
