use Rattle.std.proofs.Common.{map, length, refl, sym, ap, ◌∙◌, subst, arith}
use Rattle.std.proofs.lemmas.Result.{err_from_is_err_and}
use Rattle.std.specs.List.{flat_map}
use Rattle.sarif_model.specs.Run.{results_of}
use Rattle.sarif_runs.specs.Judging.{records_of, run_values}
use Rattle.sarif_prepare.specs.Internal.Leftover.{not_taken}
use Rattle.sarif_log.specs.Internal.Texts.{own_count, ArePartsOf}
use Rattle.sarif_prepare.specs.Internal.Baselines.{baseline_drafts, IsLeft}
use Rattle.sarif_log.specs.LogBy.{limited_records, taken_of}
use Rattle.sarif_log.proofs.Sides.{taken_long, without_results}
use Rattle.sarif_prepare.specs.Internal.Limiting.{unadmitted}
use Rattle.sarif_prepare.proofs.MatchedRecords.{limited_results, matched_records}
use Rattle.sarif_prepare.proofs.WrittenSides.{current_long, current_side, left_few, left_is_side, written}
use Rattle.sarif_prepare.proofs.preparing.prepare_sides.Goals as goal

pub left_side-requires-clause-taken : goal.left_side-requires-clause-taken
left_side-requires-clause-taken g c =
    ap length (c.deref.ensures.value ∙ c.requires.paired.taken)
    ∙ taken_long c.args.asked.now.options.now.checks.matching (map unadmitted c.args.sides.current.records.items) c.args.sides.baselines.records.items

pub invariant_of-result : goal.invariant_of-result
invariant_of-result g c =
    let h = c.requires.together.2 in
    let file = c.args.rules.now.file.now in
    let now = c.requires.together.0 in
    let before = c.requires.together.1 in
    let q = c.requires.paired in
    let s = c.in_ok-side.field-0.side in
    let t = c.in_ok-unmatched.unmatched.side in
    let taken = c.deref.result.now in
    let left =
    c.in_ok-unmatched.ensures before h.are_baselines
    (q.left before h.are_baselines ∙ ap (λ ts. not_taken ts (baseline_drafts before)) (sym c.deref.ensures.value)) in
    let taken_all =
    ap length (c.deref.ensures.value ∙ q.taken)
    ∙ taken_long c.args.asked.now.options.now.checks.matching (map unadmitted c.args.sides.current.records.items) c.args.sides.baselines.records.items
    ∙ ap length h.are_baselines.records in
    let many = current_long file now before c.args.sides.current c.args.sides.baselines h in
    let drafts = ap length c.in_ok-side.ensures.drafts in
    let fewer = left_few before c.args.sides.baselines taken t h.are_baselines left in record {
      current_is =
          current_side c.args.asked.now.options.now.checks.matching file now before c.args.sides.current c.args.sides.baselines s h
          (subst (λ ps. ArePartsOf own_count s.runs.items (run_values ps)) h.is_current.opened c.in_ok-side.ensures.parts)
          c.in_ok-side.ensures.whole c.in_ok-side.ensures.drafts (c.in_ok-side.ensures.states ∙ q.states);
      baseline_is = left_is_side before c.args.sides.baselines taken t h.are_baselines left taken_all;
      few = omega (arith, many, drafts, fewer, h.few_current, h.few_baseline);
      flags_of_current = refl;
      flags_of_baseline = refl;
    }

pub returns-clause-prepared : goal.returns-clause-prepared
returns-clause-prepared g c = λ now before h.
    let file = c.args.rules.now.file.now in
    let q = c.requires.paired in
    let s = c.in_ok-side.field-0.side in
    let t = c.in_ok-unmatched.unmatched.side in
    let parts = subst (λ ps. ArePartsOf own_count s.runs.items (run_values ps)) h.is_current.opened c.in_ok-side.ensures.parts in
    let left =
    c.in_ok-unmatched.ensures before h.are_baselines
    (q.left before h.are_baselines ∙ ap (λ ts. not_taken ts (baseline_drafts before)) (sym c.deref.ensures.value)) in
    let taken =
    c.deref.ensures.value ∙ q.taken ∙ ap (λ rs. taken_of c.args.asked.now.options.now.checks.matching rs c.args.sides.baselines.records.items) (matched_records file now c.args.sides.current h.is_current)
    ∙ ap (taken_of c.args.asked.now.options.now.checks.matching (records_of now)) h.are_baselines.records in record {
      written =
          written c.args.asked.now.options.now.checks.matching file now before c.args.sides.current c.args.sides.baselines s t h parts
          c.in_ok-side.ensures.drafts (c.in_ok-side.ensures.states ∙ q.states)
          (subst (λ ts. IsLeft before ts t) taken left);
      without = without_results s.runs.items (run_values now) c.in_ok-side.field-0.without parts c.in_ok-side.ensures.without;
      unused =
          c.in_ok-side.ensures.unused (limited_records file now) (flat_map results_of (run_values now))
          (limited_results file now h.current_records) h.is_current.drafts;
      expired = c.in_ok-side.ensures.expired (limited_records file now);
      change = c.in_ok-reported.ensures.change now before h;
      ruling = c.in_ok-reported.ensures.ruling now before h;
      told = c.in_ok-reported.ensures.findings now before h;
      copies = refl;
    }

pub returns-clause-kept : goal.returns-clause-kept
returns-clause-kept g c = λ now before h. c.in_ok-reported.ensures.kept now before h

pub returns-in_err-reported-clause-unkept : goal.returns-in_err-reported-clause-unkept
returns-in_err-reported-clause-unkept g c = λ now before h.
    let p = err_from_is_err_and c.from_residual.result c.from_residual.ensures.1 in
    rw (p.1, p.2) (c.in_err-reported.ensures.unkept now before h)
