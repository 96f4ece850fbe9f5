use Rattle.std.proofs.Common.{refl, ap, ◌∙◌}
use Rattle.sarif_deciding.specs.Ruling.{ruling_in}
use Rattle.sarif_prepare.proofs.RuledSides.{current_are, left_are, matched_is}
use Rattle.sarif_prepare.proofs.ruling.rule_by.Goals as goal

pub decide_merge-requires-clause-current : goal.decide_merge-requires-clause-current
decide_merge-requires-clause-current g c κs within =
    current_are c.args.options.now.checks.matching c.args.rules.now.file.now c.requires.together.0 c.requires.together.1 c.args.sides.now.current
    c.args.sides.now.baselines c.args.sides.now.paired c.requires.together.2 c.requires.paired _ (record {
      runs = c.deref.ensures.value;
      records = c.deref-2.ensures.value;
      drafts = c.deref-3.ensures.value;
      states = c.deref-4.ensures.value;
    })

pub decide_merge-requires-clause-left : goal.decide_merge-requires-clause-left
decide_merge-requires-clause-left g c κs within =
    left_are c.args.options.now.checks.matching c.args.rules.now.file.now c.requires.together.0 c.requires.together.1 c.args.sides.now.current
    c.args.sides.now.baselines c.args.sides.now.paired c.requires.together.2 c.requires.paired _ (record {
      runs = c.deref-5.ensures.value;
      spots = c.deref-6.ensures.value;
      records = c.deref-7.ensures.value;
      taken = c.deref-8.ensures.value;
      left = c.deref-9.ensures.value;
    })

pub returns : goal.returns
returns g c = λ now before h.
    c.in_ok-decided.ensures
    ∙ ap (ruling_in c.args.policy.now.conditions)
    (matched_is c.args.options.now.checks.matching c.args.rules.now.file.now now before c.args.sides.now.current
    c.args.sides.now.baselines c.args.sides.now.paired h c.requires.paired (record {
      current = record { runs = c.deref.result; records = c.deref-2.result; drafts = c.deref-3.result; states = c.deref-4.result };
      before = record {
        runs = c.deref-5.result;
        spots = c.deref-6.result;
        records = c.deref-7.result;
        taken = c.deref-8.result;
        left = c.deref-9.result;
      };
      file = c.args.rules.now.file;
      change = c.args.rules.now.change;
    }) (record {
      runs = c.deref.ensures.value;
      records = c.deref-2.ensures.value;
      drafts = c.deref-3.ensures.value;
      states = c.deref-4.ensures.value;
    }) (record {
      runs = c.deref-5.ensures.value;
      spots = c.deref-6.ensures.value;
      records = c.deref-7.ensures.value;
      taken = c.deref-8.ensures.value;
      left = c.deref-9.ensures.value;
    }) refl)
