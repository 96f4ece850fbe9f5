use Rattle.std.proofs.Common.{rules, ◌≡◌, ◌⊎◌, ◌+◌, Some, append-nil, ◌++◌, [], ◌∷◌, map, length, sym, ap, ◌∙◌, subst, arith}
use Rattle.std.proofs.lemmas.List.{nil_from_length}
use Rattle.std.proofs.lemmas.Result.{err_from_is_err_and}
use Rattle.sarif_read.specs.Reading.{log_of}
use Rattle.sarif_model.specs.Run.{results_total}
use Rattle.sarif_inputs.specs.Internal.ReadRun.{placed_read}
use Rattle.sarif_model.specs.Internal.SourceKind.{source_of}
use Rattle.sarif_model.specs.FirstFault.{first, IsOutOfResources}
use Rattle.sarif_inputs.specs.Inputs.{numbered, placed, placed_from, readable}
use Rattle.sarif_inputs.specs.Internal.Parsed.{AreParsedFrom}
use Rattle.sarif_inputs.specs.Internal.ReadSoFar.{faults_with}
use Rattle.sarif_inputs.specs.SourceFaults.{source_faults}
use Rattle.sarif_inputs.proofs.ReadParts.{parsed_first, parsed_none}
use Rattle.sarif_model.proofs.SourceAnswers.{still_first}
use Rattle.sarif_inputs.proofs.SourceSteps.{source_step}
use Rattle.sarif_inputs.proofs.sources.ReadSoFar.add_all.Goals as goal

pub add-requires-clause-parsed : goal.add-requires-clause-parsed
add-requires-clause-parsed c =
    let later = c.next.new.self.rest.items in
    let parsed = c.in-Some.parsed in
    let left : c.loop-parsed.parsed-iterator.rest.items ≡ parsed ∷ later = search rules in
    let w = c.loop-parsed.invariant.within in
    let one = parsed_first c.args.checks.now.allow_external w.0 parsed later (subst (λ rs. AreParsedFrom c.args.checks.now.allow_external w.0 rs) left w.1) in
    (one.0, one.3)

pub loop-parsed-preserved : goal.loop-parsed-preserved
loop-parsed-preserved c =
    let i = c.loop-parsed.number in
    let name = source_of c.args.kind in
    let later = c.next.new.self.rest.items in
    let parsed = c.in-Some.parsed in
    let old = c.loop-parsed.self in
    let left : c.loop-parsed.parsed-iterator.rest.items ≡ parsed ∷ later = search rules in
    let around = c.loop-parsed.invariant.within in
    let one = parsed_first c.args.checks.now.allow_external around.0 parsed later
    (subst (λ rs. AreParsedFrom c.args.checks.now.allow_external around.0 rs) left around.1) in
    record {
      number = omega (arith, c.loop-parsed.invariant.number, ap length left);
      counted = search rules;
      within = (one.1, one.4);
      whole = λ sources all.
          let w = c.loop-parsed.invariant.whole sources all in
          let here = parsed_first c.args.checks.now.allow_external w.0 parsed later (subst (λ rs. AreParsedFrom c.args.checks.now.allow_external w.0 rs) left w.1) in
          let runs =
          subst (λ s. map placed_read c.add.new.self.runs.items ≡ map placed_read old.runs.items
          ++ placed_from c.args.checks.now s 0 (readable (log_of c.args.checks.now.allow_external here.0))) c.source.ensures
          (c.in_ok-add.ensures.runs here.0 here.3) in
          let none = subst (λ s. faults_with s (log_of c.args.checks.now.allow_external here.0) (length old.runs.items) old.results ≡ [])
          c.source.ensures (c.in_ok-add.ensures.faults here.0 here.3) in
          let step = source_step c.args.checks.now name i old c.add.new.self here.0 here.1 runs (c.in_ok-add.ensures.results here.0 here.3) none in (
            here.1,
            here.4,
            step.0 ∙ ap (λ bs. map placed_read old.runs.items ++ placed (numbered c.args.checks.now name i bs)) (sym here.2) ∙ w.2,
            step.1 ∙ ap (λ bs. source_faults (length old.runs.items) old.results (numbered c.args.checks.now name i bs)) (sym here.2) ∙ w.3,
          );
    }

pub returns-in_err-add-clause-faults : goal.returns-in_err-add-clause-faults
returns-in_err-add-clause-faults c = λ sources all.
    let i = c.loop-parsed.number in
    let name = source_of c.args.kind in
    let later = c.next.new.self.rest.items in
    let parsed = c.in-Some.parsed in
    let old = c.loop-parsed.self in
    let left : c.loop-parsed.parsed-iterator.rest.items ≡ parsed ∷ later = search rules in
    let w = c.loop-parsed.invariant.whole sources all in
    let here = parsed_first c.args.checks.now.allow_external w.0 parsed later (subst (λ rs. AreParsedFrom c.args.checks.now.allow_external w.0 rs) left w.1) in
    let p = err_from_is_err_and c.from_residual.result c.from_residual.ensures.1 in
    let e = c.in_err-add.field-0.0 in
    let refused =
    subst
    (λ s. IsOutOfResources e ⊎
    (first (faults_with s (log_of c.args.checks.now.allow_external here.0) (length old.runs.items) old.results) ≡ Some e)) c.source.ensures
    (c.in_err-add.ensures.faults here.0 here.3) in
    let runs = readable (log_of c.args.checks.now.allow_external here.0) in
    let more = still_first (faults_with (name i) (log_of c.args.checks.now.allow_external here.0) (length old.runs.items) old.results)
    (source_faults (length old.runs.items + length runs) (old.results + results_total runs)
    (numbered c.args.checks.now name (i + 1) here.1)) e refused in
    let same = ap (λ bs. source_faults (length old.runs.items) old.results (numbered c.args.checks.now name i bs)) (sym here.2) ∙ w.3 in
    rw (p.1, p.2) (subst (λ faults. IsOutOfResources e ⊎ (first faults ≡ Some e)) same more)

pub returns-clause-runs : goal.returns-clause-runs
returns-clause-runs c = λ sources all.
    let name = source_of c.args.kind in
    let w = c.loop-parsed.invariant.whole sources all in
    let end : c.loop-parsed.parsed-iterator.rest.items ≡ [] =
    nil_from_length c.loop-parsed.parsed-iterator.rest.items (search (rules, c.in-None.ensures.steps)) in
    let none = parsed_none c.args.checks.now.allow_external w.0 (subst (λ rs. AreParsedFrom c.args.checks.now.allow_external w.0 rs) end w.1) in
    let runs = map placed_read c.loop-parsed.self.runs.items in
    sym (append-nil runs) ∙ ap (λ bs. runs ++ placed (numbered c.args.checks.now name c.loop-parsed.number bs)) (sym none) ∙ w.2

pub returns-clause-faults : goal.returns-clause-faults
returns-clause-faults c = λ sources all.
    let name = source_of c.args.kind in
    let old = c.loop-parsed.self in
    let w = c.loop-parsed.invariant.whole sources all in
    let end : c.loop-parsed.parsed-iterator.rest.items ≡ [] =
    nil_from_length c.loop-parsed.parsed-iterator.rest.items (search (rules, c.in-None.ensures.steps)) in
    let none = parsed_none c.args.checks.now.allow_external w.0 (subst (λ rs. AreParsedFrom c.args.checks.now.allow_external w.0 rs) end w.1) in
    sym w.3 ∙ ap (λ bs. source_faults (length old.runs.items) old.results (numbered c.args.checks.now name c.loop-parsed.number bs)) none
