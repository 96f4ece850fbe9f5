use Rattle.std.proofs.Common.{◌≡◌, Err, length, map, option_map, inl, inr, refl, rules, arith, subst}
use Rattle.std.proofs.lemmas.List.{with_items_is}
use Rattle.std.specs.Vec.{with_items}
use Rattle.sarif_streams.specs.AreRead.{AreRead, StopsIn}
use Rattle.sarif_streams.specs.Failing.{NoneFalls}
use Rattle.sarif_model.specs.declared.merge_fault.Source.TheVariants.{Log}
use Rattle.sarif_streams.proofs.ReadersRead.{none_has_fallen}
use Rattle.sarif_streams.proofs.reading.read_sources.Goals as goal

pub returns-in_err-logs-clause-stopped : goal.returns-in_err-logs-clause-stopped
returns-in_err-logs-clause-stopped g c =
    let fault = c.in_err-logs.field-0.0 in
    let is : c.from_residual.result ≡ Err fault = search rules in
    let logs = c.args.readers.now.logs in
    let now = c.read_readers.new.readers in
    let many : length now ≡ logs.len = search rules in
    let given : c.as_mut_slice.result.now ≡ logs.items = search rules in
    let stopped = subst (λ olds. StopsIn g.R.Read.remaining Log 0 olds now fault) given c.in_err-logs.ensures.stopped in
    rw (is, with_items_is logs now many) (inl (stopped, refl, refl, refl, refl))

pub returns-in_err-logs-clause-risen : goal.returns-in_err-logs-clause-risen
returns-in_err-logs-clause-risen g c =
    let logs = c.args.readers.now.logs in
    let now = c.read_readers.new.readers in
    let many : length now ≡ logs.len = search rules in
    let given : c.as_mut_slice.result.now ≡ logs.items = search rules in
    record {
      logs = rw (with_items_is logs now many) (subst (λ olds. NoneFalls olds now) given c.in_err-logs.ensures.risen);
      baselines = none_has_fallen c.args.readers.now.baselines.items;
      suppressions = omega arith;
      policy = omega arith;
      diff = omega arith;
    }

pub returns-in_err-policy-clause-stopped : goal.returns-in_err-policy-clause-stopped
returns-in_err-policy-clause-stopped g c =
    let old = c.args.readers.now in
    let fault = c.in_err-policy.field-0.0 in
    let is : c.from_residual-in_err-policy.result ≡ Err fault = search rules in
    let remaining = g.R.Read.remaining in
    let bytes = map (λ v. v.items) c.in_ok-logs.logs.items in
    let others = map (λ v. v.items) c.in_ok-baselines.baselines.items in
    let file = option_map (λ v. v.items) c.in_ok-suppressions.suppressions in
    let now = c.read_readers.new.readers in
    let many : length now ≡ old.logs.len = search rules in
    let given : c.as_mut_slice.result.now ≡ old.logs.items = search rules in
    let other = c.read_readers-2.new.readers in
    let many_others : length other ≡ old.baselines.len = search rules in
    let given_others : c.as_mut_slice-2.result.now ≡ old.baselines.items = search rules in
    let logs : AreRead remaining old.logs.items (with_items old.logs now).items bytes =
    rw (with_items_is old.logs now many) (subst (λ olds. AreRead remaining olds now bytes) given c.in_ok-logs.ensures.read) in
    let baselines : AreRead remaining old.baselines.items (with_items old.baselines other).items others =
    rw (with_items_is old.baselines other many_others)
    (subst (λ olds. AreRead remaining olds other others) given_others c.in_ok-baselines.ensures.read) in
    rw is (inr (inr (inr (inl (bytes, others, file, logs, baselines, c.in_ok-suppressions.ensures.read, c.in_err-policy.ensures.stopped, refl)))))

pub returns-in_err-diff-clause-stopped : goal.returns-in_err-diff-clause-stopped
returns-in_err-diff-clause-stopped g c =
    let old = c.args.readers.now in
    let fault = c.in_err-diff.field-0.0 in
    let is : c.from_residual-in_err-diff.result ≡ Err fault = search rules in
    let remaining = g.R.Read.remaining in
    let bytes = map (λ v. v.items) c.in_ok-logs.logs.items in
    let others = map (λ v. v.items) c.in_ok-baselines.baselines.items in
    let file = option_map (λ v. v.items) c.in_ok-suppressions.suppressions in
    let now = c.read_readers.new.readers in
    let many : length now ≡ old.logs.len = search rules in
    let given : c.as_mut_slice.result.now ≡ old.logs.items = search rules in
    let other = c.read_readers-2.new.readers in
    let many_others : length other ≡ old.baselines.len = search rules in
    let given_others : c.as_mut_slice-2.result.now ≡ old.baselines.items = search rules in
    let logs : AreRead remaining old.logs.items (with_items old.logs now).items bytes =
    rw (with_items_is old.logs now many) (subst (λ olds. AreRead remaining olds now bytes) given c.in_ok-logs.ensures.read) in
    let baselines : AreRead remaining old.baselines.items (with_items old.baselines other).items others =
    rw (with_items_is old.baselines other many_others)
    (subst (λ olds. AreRead remaining olds other others) given_others c.in_ok-baselines.ensures.read) in
    let policy = option_map (λ v. v.items) c.in_ok-policy.policy in
    rw is (inr (inr (inr (inr (bytes, others, file, policy, logs, baselines, c.in_ok-suppressions.ensures.read, c.in_ok-policy.ensures.read, c.in_err-diff.ensures.stopped)))))
