use Rattle.std.proofs.Common.{◌++◌, map, ◌∙◌}
use Rattle.serde_json.specs.View.{view}
use Rattle.sarif_suppress.proofs.KeySet.{next_object}
use Rattle.sarif_suppress.proofs.unseen.unseen_objects.Goals as goal

pub loop-number-preserved : goal.loop-number-preserved
loop-number-preserved g c =
    let own = map view c.args.own.now in
    let added = c.in_ok-add_unseen_at.ensures own c.loop-number.invariant.keys in
    record {
      keys = added.1;
      told = next_object (own ++ map view c.loop-number.unseen.items) _ c.args.entries.now c.args.numbers.now c.loop-number.number-index
          c.loop-number-test.true added.0 ∙ c.loop-number.invariant.told;
    }
