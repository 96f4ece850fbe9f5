use Rattle.std.proofs.Common.{length, sym, ap, ◌∙◌, subst, arith}
use Rattle.std.proofs.lemmas.Result.{err_from_is_err_and}
use Rattle.std.specs.List.{flat_map}
use Rattle.sarif_model.specs.Run.{results_of}
use Rattle.sarif_runs.specs.Judging.{records_of, run_values}
use Rattle.sarif_once.specs.Once.{without_copies}
use Rattle.sarif_log.specs.LogBy.{limited_records, states_of}
use Rattle.sarif_log.proofs.Sides.{taken_long}
use Rattle.sarif_prepare.proofs.MatchedRecords.{limited_results}
use Rattle.sarif_prepare.specs.Asked.{choice_in, upkeep_in}
use Rattle.sarif_prepare.specs.Chosen.{chosen_merge}
use Rattle.sarif_prepare.specs.Kept.{bytes_of, change_in, IsKept}
use Rattle.sarif_prepare.specs.Ruled.{policy_in}
use Rattle.sarif_prepare.specs.Internal.Baselines.{baseline_drafts}
use Rattle.sarif_prepare.specs.Internal.Leftover.{not_taken}
use Rattle.sarif_prepare.specs.Internal.Woven.{AreLeftWoven}
use Rattle.sarif_prepare.proofs.WovenLog.{before_few, before_flags, before_is_side, now_few, now_flags, now_is_side, states_given, taken_given, woven_prepared}
use Rattle.sarif_prepare.proofs.once.prepare_split.Goals as goal

pub pair_sides-requires-clause-found : goal.pair_sides-requires-clause-found
pair_sides-requires-clause-found g c κs within = (
  c.args.rules.now.file.now,
  without_copies c.requires.apart.0,
  without_copies c.requires.apart.1,
  c.requires.apart.2.found,
  c.requires.apart.2.changes,
)

pub report_sides-requires-clause-together : goal.report_sides-requires-clause-together
report_sides-requires-clause-together g c κs within = (
  without_copies c.requires.apart.0,
  without_copies c.requires.apart.1,
  c.in_ok-sides.ensures.together c.args.rules.now.file.now (without_copies c.requires.apart.0) (without_copies c.requires.apart.1)
      c.requires.apart.2.found c.requires.apart.2.changes,
)

pub weave_baselines-requires : goal.weave_baselines-requires
weave_baselines-requires g c = (
  c.requires.apart.0,
  c.requires.apart.1,
  c.requires.apart.2.whole,
  (c.in_ok-sides.ensures.together c.args.rules.now.file.now (without_copies c.requires.apart.0) (without_copies c.requires.apart.1)
      c.requires.apart.2.found c.requires.apart.2.changes).are_baselines,
  c.requires.apart.2.baseline_copies,
)

pub weave_logs-requires : goal.weave_logs-requires
weave_logs-requires g c = (
  c.requires.apart.0,
  (c.in_ok-sides.ensures.together c.args.rules.now.file.now (without_copies c.requires.apart.0) (without_copies c.requires.apart.1) c.requires.apart.2.found
      c.requires.apart.2.changes).is_current,
  c.requires.apart.2.current_copies,
  c.requires.apart.2.whole.few_runs,
)

pub put_together-requires : goal.put_together-requires
put_together-requires g c =
    let file = c.args.rules.now.file.now in
    let now = c.requires.apart.0 in
    let before = c.requires.apart.1 in
    let h = c.requires.apart.2 in
    let t = c.in_ok-sides.ensures.together file (without_copies now) (without_copies before) h.found h.changes in
    let v = c.args.asked.now.options.now.checks.matching in
    let q = c.in_ok-sides.ensures.paired in
    let xs = states_of v (records_of (without_copies now)) (records_of (without_copies before)) in
    let states = c.deref-2.ensures.value ∙ states_given v file now before c.in_ok-sides.sides.current c.in_ok-sides.sides.baselines h.whole t _ q in
    let taken = c.deref.ensures.value ∙ taken_given v file now before c.in_ok-sides.sides.current c.in_ok-sides.sides.baselines h.whole t _ q in
    let left =
    q.left (without_copies before) t.are_baselines
    ∙ ap (λ ts. not_taken ts (baseline_drafts (without_copies before))) (sym c.deref.ensures.value) in
    let long = ap length taken ∙ taken_long v (records_of (without_copies now)) (records_of (without_copies before)) in
    let logs = c.in_ok-here.here in
    let baselines = c.in_ok-there.there in
    let here = c.in_ok-here.ensures.woven xs now before states h.whole t.is_current h.current_copies in
    let there = c.in_ok-there.ensures now before h.whole t.are_baselines h.baseline_copies long left in
    let few = now_few file now before h.whole xs logs.copies.items logs.side.side here in
    let few_left = before_few now before h.whole c.deref.result.now baselines.copies.items baselines.left.side there in record {
      current_is = now_is_side file now before h.whole xs logs.copies.items logs.side.side here;
      baseline_is = before_is_side now before h.whole c.deref.result.now baselines.copies.items baselines.left.side there;
      few = omega (arith, few, few_left);
      flags_of_current = now_flags file now before h.whole xs logs.copies.items logs.side.side here;
      flags_of_baseline = before_flags now before h.whole c.deref.result.now baselines.copies.items baselines.left.side there;
    }

pub returns-clause-prepared : goal.returns-clause-prepared
returns-clause-prepared g c = λ now before h.
    let file = c.args.rules.now.file.now in
    let t = c.in_ok-sides.ensures.together file (without_copies now) (without_copies before) h.found h.changes in
    let v = c.args.asked.now.options.now.checks.matching in
    let q = c.in_ok-sides.ensures.paired in
    let tn = without_copies now in
    let tb = without_copies before in
    let xs = states_of v (records_of tn) (records_of tb) in
    let current = c.in_ok-sides.sides.current in
    let baselines = c.in_ok-sides.sides.baselines in
    let states = c.deref-2.ensures.value ∙ states_given v file now before current baselines h.whole t _ q in
    let taken = c.deref.ensures.value ∙ taken_given v file now before current baselines h.whole t _ q in
    let left =
    q.left tb t.are_baselines ∙ ap (λ ts. not_taken ts (baseline_drafts tb)) (sym c.deref.ensures.value) in
    let long = ap length taken ∙ taken_long v (records_of tn) (records_of tb) in
    let logs = c.in_ok-here.here in
    let other = c.in_ok-there.there in
    let here = c.in_ok-here.ensures.woven xs now before states h.whole t.is_current h.current_copies in
    let there =
    subst (λ ts. AreLeftWoven ts before other.copies.items other.left.side) taken
    (c.in_ok-there.ensures now before h.whole t.are_baselines h.baseline_copies long left) in
    let made = c.put_together.ensures in
    woven_prepared v file now before current baselines h.whole t logs other c.put_together.result (change_in c.args.rules.now) c.args.asked.now.options.now.policy
    (policy_in c.args.rules.now) _ here there made.current made.baseline made.copies
    (made.without ∙ c.in_ok-here.ensures.without now t.is_current h.current_copies)
    (made.unused ∙ c.in_ok-here.ensures.unused (limited_records file tn) (flat_map results_of (run_values tn))
    (limited_results file tn t.current_records) t.is_current.drafts)
    (made.change ∙ c.in_ok-reported.ensures.change tn tb t) (made.ruling ∙ c.in_ok-reported.ensures.ruling tn tb t)
    (ap (λ fs. fs.items) made.findings ∙ c.in_ok-reported.ensures.findings tn tb t)

pub returns-clause-expired : goal.returns-clause-expired
returns-clause-expired g c = λ rs. c.put_together.ensures.expired ∙ c.in_ok-here.ensures.expired rs

pub returns-clause-kept : goal.returns-clause-kept
returns-clause-kept g c = λ now before h.
    let t = c.in_ok-sides.ensures.together c.args.rules.now.file.now (without_copies now) (without_copies before) h.found h.changes in
    let tn = without_copies now in
    let tb = without_copies before in
    let options = c.args.asked.now.options.now in
    let rules = c.args.rules.now in
    let merge = chosen_merge (policy_in rules) options.checks rules.file.now (bytes_of rules) (change_in rules) options.policy (choice_in c.args.asked.now) tn tb in
    subst (λ l. IsKept merge (upkeep_in c.args.asked.now) l) (sym c.put_together.ensures.life) (c.in_ok-reported.ensures.kept tn tb t)

pub returns-in_err-reported-clause-unkept : goal.returns-in_err-reported-clause-unkept
returns-in_err-reported-clause-unkept g c = λ now before h.
    let t = c.in_ok-sides.ensures.together c.args.rules.now.file.now (without_copies now) (without_copies before) h.found h.changes in
    let p = err_from_is_err_and c.from_residual-in_err-reported.result c.from_residual-in_err-reported.ensures.1 in
    rw (p.1, p.2) (c.in_err-reported.ensures.unkept (without_copies now) (without_copies before) t)
