use Rattle.std.proofs.Common.{◌≡◌, ◌+◌, ◌-◌, inl, inr, Some, length, map, sym, ap, ◌∙◌, subst, string_bytes, arith}
use Rattle.std.proofs.lemmas.Result.{err_from_is_err_and}
use Rattle.std.specs.Prelude.{◌<◌}
use Rattle.sarif_model.specs.Limits.{most_bytes}
use Rattle.sarif_runs.specs.Judging.{run_values}
use Rattle.sarif_runs.specs.Internal.Opened.{placed_of}
use Rattle.sarif_accept.specs.Heard.{heard_of}
use Rattle.sarif_known.specs.Chosen.{all_chosen, results_among, run_as}
use Rattle.json_parts.specs.Indexed.{json_of}
use Rattle.json_parts.specs.Mark.{without_mark}
use Rattle.sarif_known.specs.KnownLog.{known_log, known_text}
use Rattle.sarif_known.specs.Laws.{CanBeRead}
use Rattle.sarif_runs.specs.declared.run_options.RecordOptions.{RecordOptions}
use Rattle.sarif_known.specs.Order.{known_runs}
use Rattle.sarif_heard.specs.Heard.{tool_run}
use Rattle.sarif_upkeep.specs.Known.{adopts, kept_before, known_now}
use Rattle.sarif_upkeep.proofs.Taken.{before_fewer, before_same, gone_same, now_fewer, now_same, short_enough, too_long_is}
use Rattle.sarif_upkeep.proofs.knowing.remember.Goals as goal

pub count_results-chosen-requires : goal.count_results-chosen-requires
count_results-chosen-requires c =
    let is = c.requires.1 in
    let same = ap (λ runs. results_among (all_chosen runs)) c.deref-2.ensures.value ∙ ap results_among c.in_ok-now.ensures in
    let fewer = now_fewer c.args.matched.now.file.now c.args.matched.now.policy c.adopts.result
    (run_values (map placed_of c.args.matched.now.current.runs.now)) c.args.matched.now.current.records.now
    c.args.matched.now.current.standings.now in
    let long = ap length is.current.records in
    omega (arith, same, fewer, long, is.current.few)

pub count_results-kept-requires : goal.count_results-kept-requires
count_results-kept-requires c =
    let is = c.requires.1 in
    let same = ap (λ runs. results_among (all_chosen runs)) c.deref-3.ensures.value ∙ ap results_among c.in_ok-before.ensures in
    let fewer = before_fewer (heard_of c.in_ok-heard.heard)
    (run_values (map placed_of c.args.matched.now.before.runs.now)) c.args.matched.now.before.records.now c.marks_or-gone.result.now in
    let long = ap length is.before.records in
    omega (arith, same, fewer, long, is.before.few)

pub returns-in_err-text-clause-refused : goal.returns-in_err-text-clause-refused
returns-in_err-text-clause-refused c = λ m is.
    let p = err_from_is_err_and c.from_residual-in_err-text.result c.from_residual-in_err-text.ensures.1 in
    let now_all = c.in_ok-now.ensures
    ∙ now_same m (adopts c.args.knowing) _ _ _ _ _ _ is.file is.policy c.adopts.ensures is.current.runs
    is.current.records is.current.standings in
    let gone_all = c.marks_or-gone.ensures ∙ c.in_ok-list.ensures.gone
    ∙ gone_same m (adopts c.args.knowing) _ _ _ _ is.once (ap all_chosen c.deref.ensures.value ∙ now_all) is.before.records is.before.taken in
    let before_all = c.in_ok-before.ensures
    ∙ before_same m (adopts c.args.knowing) _ _ _ _ (c.in_ok-heard.ensures ∙ ap (map tool_run) is.current.runs) is.before.runs is.before.records gone_all in
    let texts =
    ap (λ v. known_text (map (run_as c.args.matched.now.regions) (known_runs v (all_chosen c.in_ok-now.now.items) (all_chosen c.in_ok-before.before.items)))) is.matching
    ∙ ap (λ b. known_text (map (run_as b) (known_runs m.matching (all_chosen c.in_ok-now.now.items) (all_chosen c.in_ok-before.before.items)))) is.regions
    ∙ ap (λ runs. known_text (map (run_as m.regions) (known_runs m.matching runs (all_chosen c.in_ok-before.before.items)))) now_all
    ∙ ap (λ runs. known_text (map (run_as m.regions) (known_runs m.matching (known_now m (adopts c.args.knowing)) runs))) before_all in
    rw (p.1, p.2) (elim c.in_err-text.ensures.lost [
      | inl out ↦ inl out
      | inr long ↦ inr (too_long_is m c.args.knowing (subst (λ text. most_bytes < length text) texts long.1) ∙ ap (λ fault. Some fault) (sym long.0))
    ])

pub returns-clause-made : goal.returns-clause-made
returns-clause-made c = λ m is.
    let now_all = c.in_ok-now.ensures
    ∙ now_same m (adopts c.args.knowing) _ _ _ _ _ _ is.file is.policy c.adopts.ensures is.current.runs
    is.current.records is.current.standings in
    let gone_all = c.marks_or-gone.ensures ∙ c.in_ok-list.ensures.gone
    ∙ gone_same m (adopts c.args.knowing) _ _ _ _ is.once (ap all_chosen c.deref.ensures.value ∙ now_all) is.before.records is.before.taken in
    let before_all = c.in_ok-before.ensures
    ∙ before_same m (adopts c.args.knowing) _ _ _ _ (c.in_ok-heard.ensures ∙ ap (map tool_run) is.current.runs) is.before.runs is.before.records gone_all in
    let texts =
    ap (λ v. known_text (map (run_as c.args.matched.now.regions) (known_runs v (all_chosen c.in_ok-now.now.items) (all_chosen c.in_ok-before.before.items)))) is.matching
    ∙ ap (λ b. known_text (map (run_as b) (known_runs m.matching (all_chosen c.in_ok-now.now.items) (all_chosen c.in_ok-before.before.items)))) is.regions
    ∙ ap (λ runs. known_text (map (run_as m.regions) (known_runs m.matching runs (all_chosen c.in_ok-before.before.items)))) now_all
    ∙ ap (λ runs. known_text (map (run_as m.regions) (known_runs m.matching (known_now m (adopts c.args.knowing)) runs))) before_all in
    let text = c.in_ok-from_string.ensures ∙ c.in_ok-text.ensures.text ∙ texts in
    let chosen = c.count_results-chosen.ensures.count ∙ ap (λ runs. results_among (all_chosen runs)) c.deref-2.ensures.value ∙ ap results_among now_all in
    let kept = c.count_results-kept.ensures.count ∙ ap (λ runs. results_among (all_chosen runs)) c.deref-3.ensures.value ∙ ap results_among before_all in
    let long = ap length is.current.records in
    let all : c.count_results-chosen.result + c.count_results-kept.result
    ≡ results_among (known_now m (adopts c.args.knowing)) + results_among (kept_before m (adopts c.args.knowing)) = omega (arith, chosen, kept) in
    let left : length c.args.matched.now.current.records.now - c.count_results-chosen.result
    ≡ length m.records - results_among (known_now m (adopts c.args.knowing)) = omega (arith, chosen, long) in
    λ i. record { text = text i; known = all i; left_out = left i; kept = kept i }

pub returns-clause-sound : goal.returns-clause-sound
returns-clause-sound c = λ m is.
    let now_all = c.in_ok-now.ensures
    ∙ now_same m (adopts c.args.knowing) _ _ _ _ _ _ is.file is.policy c.adopts.ensures is.current.runs
    is.current.records is.current.standings in
    let gone_all = c.marks_or-gone.ensures ∙ c.in_ok-list.ensures.gone
    ∙ gone_same m (adopts c.args.knowing) _ _ _ _ is.once (ap all_chosen c.deref.ensures.value ∙ now_all) is.before.records is.before.taken in
    let before_all = c.in_ok-before.ensures
    ∙ before_same m (adopts c.args.knowing) _ _ _ _ (c.in_ok-heard.ensures ∙ ap (map tool_run) is.current.runs) is.before.runs is.before.records gone_all in
    let texts =
    ap (λ v. known_text (map (run_as c.args.matched.now.regions) (known_runs v (all_chosen c.in_ok-now.now.items) (all_chosen c.in_ok-before.before.items)))) is.matching
    ∙ ap (λ b. known_text (map (run_as b) (known_runs m.matching (all_chosen c.in_ok-now.now.items) (all_chosen c.in_ok-before.before.items)))) is.regions
    ∙ ap (λ runs. known_text (map (run_as m.regions) (known_runs m.matching runs (all_chosen c.in_ok-before.before.items)))) now_all
    ∙ ap (λ runs. known_text (map (run_as m.regions) (known_runs m.matching (known_now m (adopts c.args.knowing)) runs))) before_all in
    short_enough m c.args.knowing _ (ap length (c.in_ok-text.ensures.text ∙ texts)) c.in_ok-text.ensures.short

pub overflow_sub-result : goal.overflow_sub-result
overflow_sub-result c =
    let same = ap (λ runs. results_among (all_chosen runs)) c.deref-2.ensures.value ∙ ap results_among c.in_ok-now.ensures in
    let fewer = now_fewer c.args.matched.now.file.now c.args.matched.now.policy c.adopts.result
    (run_values (map placed_of c.args.matched.now.current.runs.now)) c.args.matched.now.current.records.now
    c.args.matched.now.current.standings.now in
    omega (arith, same, fewer, c.count_results-chosen.ensures.count)

pub returns-clause-reads : goal.returns-clause-reads
returns-clause-reads c = λ m is.
    let now_all = c.in_ok-now.ensures
    ∙ now_same m (adopts c.args.knowing) _ _ _ _ _ _ is.file is.policy c.adopts.ensures is.current.runs
    is.current.records is.current.standings in
    let gone_all = c.marks_or-gone.ensures ∙ c.in_ok-list.ensures.gone
    ∙ gone_same m (adopts c.args.knowing) _ _ _ _ is.once (ap all_chosen c.deref.ensures.value ∙ now_all) is.before.records is.before.taken in
    let before_all = c.in_ok-before.ensures
    ∙ before_same m (adopts c.args.knowing) _ _ _ _ (c.in_ok-heard.ensures ∙ ap (map tool_run) is.current.runs) is.before.runs is.before.records gone_all in
    let runs =
    ap (λ v. map (run_as c.args.matched.now.regions) (known_runs v (all_chosen c.in_ok-now.now.items) (all_chosen c.in_ok-before.before.items))) is.matching
    ∙ ap (λ b. map (run_as b) (known_runs m.matching (all_chosen c.in_ok-now.now.items) (all_chosen c.in_ok-before.before.items))) is.regions
    ∙ ap (λ runs. map (run_as m.regions) (known_runs m.matching runs (all_chosen c.in_ok-before.before.items))) now_all
    ∙ ap (λ runs. map (run_as m.regions) (known_runs m.matching (known_now m (adopts c.args.knowing)) runs)) before_all in
    let text = c.in_ok-from_string.ensures in
    let reads =
    subst (λ rs. (options : RecordOptions) → CanBeRead options rs → json_of (without_mark (string_bytes c.in_ok-text.text)) ≡ Some (known_log rs)) runs c.in_ok-text.ensures.reads in
    λ options can. ap (λ t. json_of (without_mark t)) text ∙ reads options can
