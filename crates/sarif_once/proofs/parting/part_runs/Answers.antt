use Rattle.std.proofs.Common.{◌≡◌, ◌≤◌, map, length, sym, ap, ◌∙◌, subst, arith}
use Rattle.std.specs.List.{AllByRecursion}
use Rattle.sarif_model.specs.Limits.{most_results, most_runs}
use Rattle.sarif_model.specs.Run.{results_total}
use Rattle.sarif_read.specs.Unmarked.{unmarked}
use Rattle.sarif_results.specs.Drafts.{IsRun}
use Rattle.sarif_results.specs.Internal.Outcomes.{all_outcomes}
use Rattle.sarif_runs.specs.Internal.Opened.{placed_of}
use Rattle.sarif_runs.specs.Judging.{faults_of_runs, run_values, skips}
use Rattle.sarif_once.specs.Once.{marked}
use Rattle.sarif_once.proofs.Faults.{none_faulty}
use Rattle.sarif_once.proofs.Items.{all_outcomes_left, outcomes_total}
use Rattle.sarif_once.proofs.Parts.{count_left, runs_left, sources_left, total_left}
use Rattle.sarif_once.proofs.parting.part_runs.Goals as goal

pub split_outcomes-requires : goal.split_outcomes-requires
split_outcomes-requires c =
    let ps = map placed_of c.args.judged.runs.items in
    c.requires.marks ∙ sym (ap length c.requires.judged.2.outcomes ∙ outcomes_total c.requires.judged.0 ps)

pub returns : goal.returns
returns c = λ file baseline judged.
    let ps = map placed_of c.args.judged.runs.items in
    let marks = c.args.marks.now in
    let runs = c.in_ok-runs.ensures in
    record {
      judged = record {
        outcomes =
            c.in_ok-rest.ensures.rest ∙ ap (unmarked marks) judged.outcomes ∙ sym (all_outcomes_left file marks ps) ∙ sym (ap (all_outcomes file) runs);
        faultless = ap faults_of_runs runs ∙ none_faulty marks ps judged.faultless;
        sources = subst (AllByRecursion (λ p. skips p.source ≡ baseline)) (sym runs) (sources_left baseline marks ps judged.sources);
        objects = subst (λ qs. AllByRecursion IsRun (run_values qs)) (sym runs) (runs_left marks ps judged.objects);
        few_runs = subst (λ qs. length qs ≤ most_runs) (sym runs) (let same = count_left marks ps in let few = judged.few_runs in omega (arith, same, few));
        few_results =
            subst (λ qs. results_total (run_values qs) ≤ most_results) (sym runs)
            (let fewer = total_left marks ps in let few = judged.few_results in omega (arith, fewer, few));
      };
      without = runs;
      marked = c.in_ok-rest.ensures.marked ∙ ap (marked marks) judged.outcomes;
    }
