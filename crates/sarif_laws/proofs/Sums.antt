-- The log and the counts of a merge by tool are those of its parts.
use Rattle.std.proofs.Common.{◌≡◌, ◌+◌, ℕ, Bool, true, false, not, cond, List, [], ◌++◌, length, is_some, Option, Some, None, refl, ap, ap₂, ◌∙◌, arith, if◌then◌else◌}
use Rattle.std.specs.Prelude.{◌↔◌, count_by, nat_lt}
use Rattle.std.proofs.lemmas.Bool.{ltb-false}
use Rattle.std.proofs.lemmas.List.Sums.{sum_by-append}
use Rattle.serde_json.specs.Data.{Data}
use Rattle.sarif_model.specs.declared.kinds.Level.{Level}
use Rattle.sarif_model.specs.declared.kinds.State.{State}
use Rattle.sarif_model.specs.Run.{results_array, results_total}
use Rattle.sarif_options.specs.declared.policy.Policy.{Policy}
use Rattle.sarif_counts.specs.declared.gate_verdict.Verdict.TheVariants.{Fail, Pass}
use Rattle.sarif_counts.specs.CountOf.{count_of}
use Rattle.sarif_counts.proofs.CountAppend.{count_of-append}
use Rattle.sarif_findings.proofs.HitsCounted.{hits_add, hits_same}
use Rattle.sarif_evidence.specs.declared.version.MatchingVersion.{MatchingVersion}
use Rattle.sarif_match_laws.specs.ByTool.{HaveNoToolInCommon}
use Rattle.sarif_runs.specs.Judging.{run_values}
use Rattle.sarif_results.specs.Drafts.{Listing}
use Rattle.sarif_suppress.specs.Limited.{limited}
use Rattle.sarif_results.proofs.JudgedCounts.{records_of_logs}
use Rattle.sarif_log.specs.Internal.Texts.{present_results}
use Rattle.sarif_log.specs.LogBy.{listing_of, states_of, taken_of}
use Rattle.sarif_log.specs.MergedRuns.{absent_runs, merged_runs}
use Rattle.sarif_log.proofs.Limits.{limited_long}
use Rattle.sarif_log.proofs.Sides.{records_present, states_long, taken_long}
use Rattle.sarif_match.specs.Partners.{partners_in}
use Rattle.sarif_inputs.specs.Faults.{faults_of}
use Rattle.sarif_inputs.specs.Inputs.{Inputs, baseline_runs, input_runs, reading_checks}
use Rattle.sarif_inputs.proofs.ReadFacts.{baseline_sides, log_sides}
use Rattle.sarif_inputs_laws.specs.Parts.{HasParts, IsMatchedAs, baseline_in, current_in, with_sources}
use Rattle.sarif_inputs_laws.proofs.Parts.{accepted_parts, matched_parts}
use Rattle.sarif_merge.specs.MergedLog.{current_of, file_given, limited_of, without_of, written_inputs}
use Rattle.sarif_merge.specs.OwnResult.{baseline_of}
use Rattle.sarif_merge.proofs.OwnResult.{faultless_runs}
use Rattle.sarif_scope.specs.Counted.{hits_by}
use Rattle.sarif_scope.specs.declared.gated.GatedChange.{GatedChange}
use Rattle.sarif_laws.specs.NextMerge.{absent_written}
use Rattle.sarif_laws.specs.Sums.{IsSumOf, Passes, counts_in, hits_in, is_limited_by_tool}
use Rattle.sarif_laws.proofs.Counted.{none_fails}
use Rattle.sarif_laws.proofs.HitsInside.{hits_apart}
use Rattle.sarif_laws.proofs.Joined.{absent_joined, marks_both, merged_joined, states_both}
use Rattle.sarif_laws.proofs.Remembered.{faultless_before}
use Rattle.sarif_laws.proofs.ToolLimits.{first_parts, limited_both}

-- ---- numbers

joined_counts : (w x y z : List Data) (s : State) (l : Level) (b : Bool)
    → count_of ((w ++ x) ++ (y ++ z)) s l b ≡ count_of (w ++ y) s l b + count_of (x ++ z) s l b
joined_counts w x y z s l b =
    let all = count_of-append (w ++ x) (y ++ z) s l b in
    let front = count_of-append w x s l b in
    let back = count_of-append y z s l b in
    let one = count_of-append w y s l b in
    let other = count_of-append x z s l b in
    omega (arith, all, front, back, one, other)

joined_hits : (change : GatedChange) (policy : Policy) (w x y z : List Data)
    → hits_by (Some change) policy ((w ++ x) ++ (y ++ z)) ≡ hits_by (Some change) policy (w ++ y) + hits_by (Some change) policy (x ++ z)
joined_hits change policy w x y z =
    let all = hits_apart policy change (w ++ x) (y ++ z) in
    let front = hits_apart policy change w x in
    let back = hits_apart policy change y z in
    let one = hits_apart policy change w y in
    let other = hits_apart policy change x z in
    omega (arith, all, front, back, one, other)

-- a gate that allows no hit passes only without hits
passes_none : (policy : Policy) (hits : ℕ) → policy.max ≡ 0 → (if nat_lt policy.max hits then Fail else Pass) ≡ Pass → hits ≡ 0
passes_none policy hits none passes = by_test (nat_lt policy.max hits) refl passes
  where
    by_test : (b : Bool) → nat_lt policy.max hits ≡ b → (if b then Fail else Pass) ≡ Pass → hits ≡ 0
    by_test true over is = let never : ⊥ = cc in absurd never
    by_test false over is = let few = ltb-false policy.max hits over in omega (arith, few, none)

-- ---- a merge by tool

module _ (inputs : Inputs) (logs more baselines others : List (List ℕ)) where
  abbrev one : Inputs
  one = with_sources inputs logs baselines

  abbrev other : Inputs
  other = with_sources inputs more others

  abbrev both : Inputs
  both = with_sources inputs (logs ++ more) (baselines ++ others)

  module _ (none : faults_of both ≡ []) (names : is_limited_by_tool (file_given inputs) ≡ true)
      (apart : HaveNoToolInCommon (current_in one ++ baseline_in one) (current_in other ++ baseline_in other)) where
    abbrev v : MatchingVersion
    v = inputs.checks.matching

    abbrev listed : Listing
    listed = listing_of (file_given inputs)

    parts : HasParts one other both
    parts = accepted_parts inputs logs more baselines others none

    matched : IsMatchedAs v one other both
    matched = matched_parts inputs logs more baselines others v apart

    records_long : length (current_of one) ≡ results_total (run_values (input_runs one))
    records_long = records_of_logs (input_runs one) (faultless_runs one parts.first_faultless) (log_sides (reading_checks inputs) 0 logs)

    limited_as_long : length (limited_of one) ≡ results_total (run_values (input_runs one))
    limited_as_long = limited_long (file_given inputs) (current_of one) ∙ records_long

    older_long : length (baseline_of one) ≡ length (present_results (run_values (baseline_runs one)))
    older_long = records_present (baseline_runs one) (faultless_before one parts.first_faultless) (baseline_sides (reading_checks inputs) 0 baselines)

    written_both : written_inputs both ≡ written_inputs one ++ written_inputs other
    written_both =
        ap₂ (λ cs bs. merged_runs listed (limited (file_given inputs) cs) (states_of v cs bs) (run_values (input_runs both))) parts.current parts.baseline
        ∙ ap₂ (λ ss runs. merged_runs listed (limited (file_given inputs) (current_of one ++ current_of other)) ss runs)
        (states_both v (current_of one) (baseline_of one) (current_of other) (baseline_of other) matched.each) parts.logs
        ∙ ap (λ rs. merged_runs listed rs
        (states_of v (current_of one) (baseline_of one) ++ states_of v (current_of other) (baseline_of other))
        (run_values (input_runs one) ++ run_values (input_runs other)))
        (limited_both (file_given inputs) names (current_of one) (current_of other)
        (first_parts (current_of one) (baseline_of one) (current_of other) (baseline_of other) apart))
        ∙ merged_joined listed (limited_of one) (limited_of other) (states_of v (current_of one) (baseline_of one))
        (states_of v (current_of other) (baseline_of other)) (run_values (input_runs one)) (run_values (input_runs other)) limited_as_long
        (states_long v (baseline_of one) (partners_in v (current_of one) (baseline_of one)) 0 (current_of one) ∙ records_long)

    absent_both : absent_written both ≡ absent_written one ++ absent_written other
    absent_both =
        ap₂ (λ cs bs. absent_runs bs (taken_of v cs bs) (run_values (baseline_runs both))) parts.current parts.baseline
        ∙ ap₂ (λ ts runs. absent_runs (baseline_of one ++ baseline_of other) ts runs)
        (marks_both v (current_of one) (baseline_of one) (current_of other) (baseline_of other) matched.each) parts.baselines
        ∙ absent_joined (baseline_of one) (baseline_of other) (taken_of v (current_of one) (baseline_of one))
        (taken_of v (current_of other) (baseline_of other)) (run_values (baseline_runs one)) (run_values (baseline_runs other)) older_long
        (taken_long v (current_of one) (baseline_of one) ∙ older_long)

    counts_both : (s : State) (l : Level) (b : Bool) → counts_in both s l b ≡ counts_in one s l b + counts_in other s l b
    counts_both s l b =
        ap₂ (λ w a. count_of (w ++ a) s l b) written_both absent_both
        ∙ joined_counts (written_inputs one) (written_inputs other) (absent_written one) (absent_written other) s l b

    hits_both : (change : Option GatedChange) (policy : Policy) → hits_in change both policy ≡ hits_in change one policy + hits_in change other policy
    hits_both (Some change) policy =
        ap₂ (λ w a. hits_by (Some change) policy (w ++ a)) written_both absent_both
        ∙ joined_hits change policy (written_inputs one) (written_inputs other) (absent_written one) (absent_written other)
    hits_both None policy =
        hits_same (counts_in both) (λ s l b. counts_in one s l b + counts_in other s l b) policy (λ s l. counts_both s l false)
        ∙ hits_add (counts_in one) (counts_in other) policy

    without_both : without_of both ≡ without_of one + without_of other
    without_both =
        ap (count_by (λ run. not (is_some (results_array run)))) parts.logs
        ∙ sum_by-append (λ run. cond (not (is_some (results_array run))) 1 0) (run_values (input_runs one)) (run_values (input_runs other))

    verdict_both : (change : Option GatedChange) (policy : Policy) → policy.max ≡ 0
        → Passes change both policy ↔ (Passes change one policy × Passes change other policy)
    verdict_both change policy zero =
        let sum = hits_both change policy in (
          λ passes. let all = passes_none policy (hits_in change both policy) zero passes in (
            none_fails policy (hits_in change one policy) (omega (arith, sum, all)),
            none_fails policy (hits_in change other policy) (omega (arith, sum, all)),
          ),
          λ passes. let first = passes_none policy (hits_in change one policy) zero passes.0 in
              let second = passes_none policy (hits_in change other policy) zero passes.1 in
              none_fails policy (hits_in change both policy) (omega (arith, sum, first, second)),
        )

    pub sums_of_parts : IsSumOf one other both
    sums_of_parts = record {
      written = written_both;
      absent = absent_both;
      counts = counts_both;
      without = without_both;
      hits = hits_both;
      verdict = verdict_both;
    }
