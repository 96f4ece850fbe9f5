use Rattle.std.proofs.Common.{rules, ◌≡◌, true, bytes_eq}
use Rattle.indexmap.specs.IndexSet.{Updates}
use Rattle.sarif_accept.proofs.HeardMore.{sets_of_failed, sets_of_other}
use Rattle.sarif_accept.proofs.heard.add_run.Goals as goal

pub returns-in_ok-insert-2 : goal.returns-in_ok-insert-2
returns-in_ok-insert-2 g c = λ runs.
    let first : c.in_ok-clone.field-0 ≡ c.args.run.now.tool = search rules in
    let second : c.in_ok-clone-2.field-0 ≡ c.args.run.now.tool = search rules in
    let more : Updates bytes_eq c.args.tools.now c.insert.new.self c.args.run.now.tool true = rw first at c.in_ok-insert.ensures.updates in
    let fails : Updates bytes_eq c.args.failed.now c.insert-then-run.new.self c.args.run.now.tool true = rw second at c.in_ok-insert-2.ensures.updates in
    sets_of_failed c.args.tools.now c.args.failed.now c.insert.new.self c.insert-then-run.new.self c.args.run.now runs more fails c.if-run.true

pub returns-else-run : goal.returns-else-run
returns-else-run g c = λ runs.
    let first : c.in_ok-clone.field-0 ≡ c.args.run.now.tool = search rules in
    let more : Updates bytes_eq c.args.tools.now c.insert.new.self c.args.run.now.tool true = rw first at c.in_ok-insert.ensures.updates in
    sets_of_other c.args.tools.now c.args.failed.now c.insert.new.self c.args.failed.now c.args.run.now runs more c.if-run.false
