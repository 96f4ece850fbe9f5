use Rattle.std.proofs.Common.{false, map, length, ap, ◌∙◌}
use Rattle.sarif_results.specs.Internal.Judged.{placed_in}
use Rattle.sarif_runs.specs.Internal.Opened.{placed_of}
use Rattle.sarif_runs.specs.Unmarked.{runs_without}
use Rattle.sarif_once.specs.Once.{marked}
use Rattle.sarif_results.specs.Internal.Outcomes.{all_outcomes}
use Rattle.sarif_prepare.specs.Internal.Apart.{own_counts}
use Rattle.sarif_prepare.specs.Internal.Halves.{drafts_in}
use Rattle.sarif_prepare.specs.Internal.Limiting.{put_drafts}
use Rattle.sarif_prepare.proofs.CopyDrafts.{copied_drafts, marks_total}
use Rattle.sarif_prepare.proofs.copies.split_logs.Goals as goal

pub mark_copies-requires : goal.mark_copies-requires
mark_copies-requires c = (c.args.file.now, false, c.requires)

pub part_runs-requires-clause-judged : goal.part_runs-requires-clause-judged
part_runs-requires-clause-judged c = (c.args.file.now, false, c.requires)

pub part_runs-requires-clause-marks : goal.part_runs-requires-clause-marks
part_runs-requires-clause-marks c =
    ap length (c.deref-2.ensures.value ∙ c.in_ok-marks.ensures.marks) ∙ marks_total c.args.file.now (placed_in c.args.judged)

pub returns : goal.returns
returns c =
    let file = c.args.file.now in
    let judged = c.requires in
    let ps = placed_in c.args.judged in
    let found = c.in_ok-marks.ensures in
    let parted = c.in_ok-rest.ensures file false judged in
    let marks = c.deref-2.ensures.value ∙ found.marks in
    let changes = c.in_ok-findings.ensures in
    record {
      changes = changes.findings;
      judged = parted.judged;
      rest = parted.without ∙ ap (λ ms. runs_without ms ps) marks;
      copies = record {
        marks = found.copies;
        numbers = found.numbers;
        counts = c.in_ok-counts.ensures ∙ ap (λ rs. own_counts (map placed_of rs)) c.deref.ensures.value;
        drafts =
            c.in_ok-drafts-2.ensures
            ∙ ap (λ ds. put_drafts ds c.in_ok-findings.field-0.copies.items)
            (c.in_ok-drafts.ensures ∙ ap drafts_in (parted.marked ∙ ap (λ ms. marked ms (all_outcomes file ps)) marks)
            ∙ copied_drafts file ps judged.faultless judged.sources)
            ∙ changes.copies;
      };
    }
