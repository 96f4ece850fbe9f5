use Rattle.std.proofs.Common.{true, map, length, sym, ap, ◌∙◌}
use Rattle.std.specs.List.{flat_map}
use Rattle.sarif_results.proofs.OutcomeItems.{all_items}
use Rattle.sarif_results.specs.Internal.Judged.{placed_in}
use Rattle.sarif_runs.specs.Internal.Opened.{placed_of}
use Rattle.sarif_runs.specs.Judging.{items_of}
use Rattle.sarif_runs.specs.Unmarked.{runs_without}
use Rattle.sarif_prepare.specs.Internal.LeftParts.{present_counts}
use Rattle.sarif_prepare.proofs.CopyDrafts.{marks_total}
use Rattle.sarif_prepare.proofs.copies.split_baselines.Goals as goal

pub mark_copies-requires : goal.mark_copies-requires
mark_copies-requires g c = (c.requires.judged.0, true, c.requires.judged.1)

pub count_present-requires-clause-judged : goal.count_present-requires-clause-judged
count_present-requires-clause-judged g c =
    ap (map (λ o. o.item)) (c.deref-2.ensures.value ∙ c.requires.judged.1.outcomes) ∙ all_items c.requires.judged.0 (placed_in c.args.judged)
    ∙ sym (ap (λ rs. flat_map items_of (map placed_of rs)) c.deref.ensures.value)

pub part_runs-requires-clause-judged : goal.part_runs-requires-clause-judged
part_runs-requires-clause-judged g c = (c.requires.judged.0, true, c.requires.judged.1)

pub part_runs-requires-clause-marks : goal.part_runs-requires-clause-marks
part_runs-requires-clause-marks g c =
    ap length (c.deref-4.ensures.value ∙ c.in_ok-marks.ensures.marks) ∙ marks_total c.requires.judged.0 (placed_in c.args.judged)

pub returns : goal.returns
returns g c = λ file judged.
    let ps = placed_in c.args.judged in
    let found = c.in_ok-marks.ensures in
    let parted = c.in_ok-rest.ensures file true judged in
    record {
      judged = parted.judged;
      rest = parted.without ∙ ap (λ ms. runs_without ms ps) (c.deref-4.ensures.value ∙ found.marks);
      copies = record {
        marks = found.copies;
        numbers = found.numbers;
        counts = c.in_ok-counts.ensures ∙ ap (λ rs. present_counts (map placed_of rs)) c.deref.ensures.value;
        drafts = c.in_ok-drafts.ensures;
      };
    }
