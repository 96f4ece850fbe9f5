-- The facts of a merge, as its outputs are made from them, and the lines on what is for later merges.
use Rattle.std.proofs.Common.{◌≡◌, ◌++◌, ◌∙◌, ℕ, [], Option, Some, None, false, ap, length, refl}
use Rattle.std.specs.Prelude.{option_map}
use Rattle.sarif_counts.specs.Counts.{count_at}
use Rattle.sarif_inputs.specs.Inputs.{Inputs, baseline_runs, input_runs}
use Rattle.sarif_log.specs.declared.facts.Facts.{Facts as MergeFacts}
use Rattle.sarif_log.specs.declared.merged.Merged.{Merged}
use Rattle.sarif_log.specs.Beside.{AreFactsOf}
use Rattle.sarif_merge.specs.MergedLog.{copies_in_log}
use Rattle.sarif_prepare.specs.By.{copies_if}
use Rattle.sarif_request.specs.declared.request.Request.{Request}
use Rattle.sarif_program.specs.Notes.{copies_line, happened_if, lines_for, lines_of, lines_with}
use Rattle.sarif_program.specs.Reports.{facts_for, facts_with}

-- the facts of the merge are those that the closure received
pub same_facts : (request : Request) (merged : Merged) (facts : MergeFacts) → AreFactsOf merged facts → facts_with request facts ≡ facts_for request merged
same_facts request merged facts are = λ i. record {
  count = count_at (are.counts i);
  policy = request.options.policy;
  show = request.show;
  link = request.link;
  findings = (are.findings i).items;
  without = are.without i;
  unused = are.unused i;
  life = Some (are.life i);
  change = are.change i;
  ruling = are.ruling i;
}

-- the lines of the merge are those of these facts
pub same_lines : (request : Request) (merged : Merged) (facts : MergeFacts) → AreFactsOf merged facts → lines_with request facts ≡ lines_for request merged
same_lines request merged facts are =
    λ i. lines_of (are.life i) ++ (copies_line (are.copies i) ++ happened_if request.explain (are.without i) (are.unused i) (are.expired i))

-- there is no line on what is not there, and none on what happened without explanations
pub no_lines : (request : Request) (merged : Merged) → merged.life.suppressions ≡ None → merged.life.known ≡ None → merged.copies ≡ None
    → request.explain ≡ false → lines_for request merged ≡ []
no_lines request merged unrenewed unknown counted plain = rw (unrenewed, unknown, counted, plain) refl

-- there are no copies if they are counted
pub no_copies : (inputs : Inputs) (copies : Option ℕ) → copies ≡ option_map length (copies_in_log inputs) → inputs.checks.once ≡ false → copies ≡ None
no_copies inputs copies same counted =
    same ∙ ap (λ once. option_map length (copies_if once inputs.checks.matching (input_runs inputs) (baseline_runs inputs))) counted
