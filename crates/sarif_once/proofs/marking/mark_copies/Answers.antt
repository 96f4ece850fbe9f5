use Rattle.std.proofs.Common.{map, length, sym, ap, ◌∙◌}
use Rattle.std.specs.List.{flat_map}
use Rattle.sarif_results.proofs.OutcomeItems.{all_items, all_records}
use Rattle.sarif_results.specs.Internal.Judged.{placed_in}
use Rattle.sarif_runs.specs.Judging.{items_of, records_in, records_of}
use Rattle.sarif_once.specs.Once.{marks_in}
use Rattle.sarif_once.proofs.Marks.{marked_each}
use Rattle.sarif_once.proofs.marking.mark_copies.Goals as goal

pub list_marks-requires : goal.list_marks-requires
list_marks-requires c =
    let ps = placed_in c.args.judged.now in
    ap length (c.deref-2.ensures.value ∙ c.in_ok-apart.ensures.copies) ∙ marked_each (records_of ps)
    ∙ sym (ap length (ap (λ os. records_in (map (λ o. o.item) os)) (c.deref.ensures.value ∙ c.requires.2.outcomes) ∙ all_records c.requires.0 ps))

pub returns : goal.returns
returns c =
    let ps = placed_in c.args.judged.now in
    record {
      marks =
          c.in_ok-marks.ensures.marks
          ∙ ap (λ os. marks_in (map (λ o. o.item) os) c.deref-2.result.now) (c.deref.ensures.value ∙ c.requires.2.outcomes)
          ∙ ap (λ items. marks_in items c.deref-2.result.now) (all_items c.requires.0 ps)
          ∙ ap (marks_in (flat_map items_of ps)) (c.deref-2.ensures.value ∙ c.in_ok-apart.ensures.copies);
      copies = c.in_ok-apart.ensures.copies;
      numbers = c.in_ok-apart.ensures.numbers;
    }
