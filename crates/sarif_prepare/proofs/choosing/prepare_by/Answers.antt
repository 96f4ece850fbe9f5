use Rattle.std.proofs.Common.{IfErr, IfOk, subst}
use Rattle.std.proofs.lemmas.Result.{IfOk-weaker}
use Rattle.sarif_prepare.specs.Asked.{choice_in, reporting_in, upkeep_in}
use Rattle.sarif_prepare.specs.Kept.{bytes_of, change_in, IsKept, IsUnkept}
use Rattle.sarif_prepare.specs.Ruled.{policy_in}
use Rattle.sarif_results.specs.Internal.Judged.{placed_in}
use Rattle.sarif_log.specs.LogBy.{limited_records}
use Rattle.sarif_prepare.proofs.Chosen.{counted_all, counted_once, merge_all, merge_once}
use Rattle.sarif_prepare.proofs.choosing.prepare_by.Goals as goal

pub returns-then-asked-clause-prepared : goal.returns-then-asked-clause-prepared
returns-then-asked-clause-prepared g c =
    IfOk-weaker c.prepare_once.result _ _
    (counted_once c.args.asked.now.options.now.checks c.args.rules.now.file.now (placed_in c.args.current) (placed_in c.args.baseline)
    (change_in c.args.rules.now) c.args.asked.now.options.now.policy (policy_in c.args.rules.now) (reporting_in c.args.asked.now) c.if-asked.true) c.prepare_once.ensures.prepared

pub returns-then-asked-clause-kept : goal.returns-then-asked-clause-kept
returns-then-asked-clause-kept g c =
    subst (λ m. IfOk c.prepare_once.result (λ prepared. IsKept m (upkeep_in c.args.asked.now) prepared.life))
    (merge_once (policy_in c.args.rules.now) c.args.asked.now.options.now.checks c.args.rules.now.file.now (bytes_of c.args.rules.now) (change_in c.args.rules.now) c.args.asked.now.options.now.policy
    (choice_in c.args.asked.now) (placed_in c.args.current) (placed_in c.args.baseline) c.if-asked.true) c.prepare_once.ensures.kept

pub returns-then-asked-clause-unkept : goal.returns-then-asked-clause-unkept
returns-then-asked-clause-unkept g c =
    subst (λ m. IfErr c.prepare_once.result (IsUnkept m (upkeep_in c.args.asked.now)))
    (merge_once (policy_in c.args.rules.now) c.args.asked.now.options.now.checks c.args.rules.now.file.now (bytes_of c.args.rules.now) (change_in c.args.rules.now) c.args.asked.now.options.now.policy
    (choice_in c.args.asked.now) (placed_in c.args.current) (placed_in c.args.baseline) c.if-asked.true) c.prepare_once.ensures.unkept

pub returns-else-asked-clause-prepared : goal.returns-else-asked-clause-prepared
returns-else-asked-clause-prepared g c =
    IfOk-weaker c.prepare.result _ _
    (counted_all c.args.asked.now.options.now.checks c.args.rules.now.file.now (placed_in c.args.current) (placed_in c.args.baseline)
    (change_in c.args.rules.now) c.args.asked.now.options.now.policy (policy_in c.args.rules.now) (reporting_in c.args.asked.now) c.if-asked.false) c.prepare.ensures.prepared

pub returns-else-asked-clause-kept : goal.returns-else-asked-clause-kept
returns-else-asked-clause-kept g c =
    subst (λ m. IfOk c.prepare.result (λ prepared. IsKept m (upkeep_in c.args.asked.now) prepared.life))
    (merge_all (policy_in c.args.rules.now) c.args.asked.now.options.now.checks c.args.rules.now.file.now (bytes_of c.args.rules.now) (change_in c.args.rules.now) c.args.asked.now.options.now.policy
    (choice_in c.args.asked.now) (placed_in c.args.current) (placed_in c.args.baseline) c.if-asked.false) c.prepare.ensures.kept

pub returns-else-asked-clause-unkept : goal.returns-else-asked-clause-unkept
returns-else-asked-clause-unkept g c =
    subst (λ m. IfErr c.prepare.result (IsUnkept m (upkeep_in c.args.asked.now)))
    (merge_all (policy_in c.args.rules.now) c.args.asked.now.options.now.checks c.args.rules.now.file.now (bytes_of c.args.rules.now) (change_in c.args.rules.now) c.args.asked.now.options.now.policy
    (choice_in c.args.asked.now) (placed_in c.args.current) (placed_in c.args.baseline) c.if-asked.false) c.prepare.ensures.unkept

pub returns-then-asked-clause-expired : goal.returns-then-asked-clause-expired
returns-then-asked-clause-expired g c =
    IfOk-weaker c.prepare_once.result _ _ (λ prepared all. all (limited_records c.args.rules.now.file.now (placed_in c.args.current))) c.prepare_once.ensures.expired

pub returns-else-asked-clause-expired : goal.returns-else-asked-clause-expired
returns-else-asked-clause-expired g c = IfOk-weaker c.prepare.result _ _ (λ prepared is. is.expired) c.prepare.ensures.prepared
