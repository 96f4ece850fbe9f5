use Rattle.std.proofs.Common.{rules, ◌≡◌, ◌≤◌, ℕ, List, Option, IfOk, length, subst, sym, ◌∙◌}
use Rattle.sarif_model.specs.declared.record.Record.{Record}
use Rattle.sarif_model.specs.Limits.{most_results}
use Rattle.sarif_match.specs.Partners.{partners_after}
use Rattle.sarif_match.proofs.NoBaseline.{nobody_from_end}
use Rattle.sarif_match.proofs.FromEndLemmas.{below_marks, few_baselines, few_currents, few_marks, turned_is}
use Rattle.sarif_match.proofs.matching.match_from_end.Goals as goal

pub returns-then-is_empty : goal.returns-then-is_empty
returns-then-is_empty g c =
    let bs = c.args.baseline.now in
    let short : length bs ≡ 0 = search rules in
    c.of.ensures ∙ c.in_ok-progress.ensures.none ∙ sym (nobody_from_end c.args.current.now bs short)

pub match_tiers-requires-clause-current : goal.match_tiers-requires-clause-current
match_tiers-requires-clause-current g c =
    let same : c.deref.result.now ≡ c.in_ok-short.short.current.items = search rules in
    subst (λ (l : List Record). length l ≤ most_results) (sym same)
    (few_currents c.args.current.now c.args.baseline.now c.in_ok-short.short.current.items c.in_ok-short.short.baseline.items
    c.in_ok-short.ensures most_results c.requires.current)

pub match_tiers-requires-clause-baseline : goal.match_tiers-requires-clause-baseline
match_tiers-requires-clause-baseline g c =
    let same : c.deref-2.result.now ≡ c.in_ok-short.short.baseline.items = search rules in
    subst (λ (l : List Record). length l ≤ most_results) (sym same)
    (few_baselines c.args.current.now c.args.baseline.now c.in_ok-short.short.current.items c.in_ok-short.short.baseline.items
    c.in_ok-short.ensures most_results c.requires.baseline)

pub turned-requires-clause-below : goal.turned-requires-clause-below
turned-requires-clause-below g c =
    let cs = c.in_ok-short.short.current.items in
    let bs = c.in_ok-short.short.baseline.items in
    let tiers = c.in_ok-tiers.tiers.items in
    let progress = c.in_ok-progress-2.progress in
    let told : progress.partners.items ≡ partners_after cs bs tiers = search rules in
    let marked : length progress.taken.items ≡ length bs = search rules in
    below_marks c.args.current.now c.args.baseline.now tiers cs bs progress.partners.items progress.taken.items c.in_ok-short.ensures told marked

pub turned-requires-clause-few : goal.turned-requires-clause-few
turned-requires-clause-few g c =
    let cs = c.in_ok-short.short.current.items in
    let bs = c.in_ok-short.short.baseline.items in
    let tiers = c.in_ok-tiers.tiers.items in
    let progress = c.in_ok-progress-2.progress in
    let told : progress.partners.items ≡ partners_after cs bs tiers = search rules in
    let marked : length progress.taken.items ≡ length bs = search rules in
    few_marks c.args.current.now c.args.baseline.now tiers cs bs progress.partners.items progress.taken.items c.in_ok-short.ensures
    told marked most_results c.requires.baseline

pub returns : goal.returns
returns g c =
    let cs = c.in_ok-short.short.current.items in
    let bs = c.in_ok-short.short.baseline.items in
    let tiers = c.in_ok-tiers.tiers.items in
    let progress = c.in_ok-progress-2.progress in
    let told : progress.partners.items ≡ partners_after cs bs tiers = search rules in
    let marked : length progress.taken.items ≡ length bs = search rules in
    subst (λ (l : List (Option ℕ)). IfOk c.turned.result (λ matching. matching ≡ l))
    (turned_is c.args.current.now c.args.baseline.now tiers cs bs progress.partners.items progress.taken.items c.in_ok-short.ensures
    told marked c.in_ok-tiers.ensures) c.turned.ensures
