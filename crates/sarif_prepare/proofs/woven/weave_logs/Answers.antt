use Rattle.std.proofs.Common.{◌≡◌, map, length, Some, sym, ap, ◌∙◌, arith}
use Rattle.std.proofs.lemmas.List.{length-map}
use Rattle.std.specs.List.{count_by}
use Rattle.std.specs.Prelude.{not, is_some}
use Rattle.sarif_copies.specs.Copies.{copies_of, numbers_of, spread}
use Rattle.sarif_log.proofs.Sides.{without_results}
use Rattle.sarif_log.specs.Internal.Texts.{own_count}
use Rattle.sarif_log.specs.declared.run_parts.RunParts.{RunParts}
use Rattle.sarif_model.specs.declared.kinds.State.TheVariants.{New}
use Rattle.sarif_once.specs.Once.{copy_marks, without_copies, woven}
use Rattle.sarif_once.proofs.Lists.{woven_back}
use Rattle.sarif_once.proofs.Marks.{marked_each}
use Rattle.sarif_once.proofs.Parts.{count_left}
use Rattle.sarif_read.specs.Unmarked.{unmarked}
use Rattle.sarif_runs.specs.Internal.Opened.{placed_of}
use Rattle.sarif_runs.specs.Judging.{records_of, run_values}
use Rattle.sarif_runs.specs.Placed.{Placed}
use Rattle.sarif_prepare.specs.Internal.Apart.{current_drafts}
use Rattle.sarif_prepare.proofs.CopyDrafts.{found_drafts}
use Rattle.sarif_prepare.proofs.KeptSides.{states_there}
use Rattle.sarif_prepare.proofs.WovenLog.{current_long}
use Rattle.sarif_prepare.proofs.WovenParts.{members_left, opened_members, parts_of_all}
use Rattle.sarif_prepare.proofs.woven.weave_logs.Goals as goal

-- as many runs as counts
pub parts_with-requires : goal.parts_with-requires
parts_with-requires c =
    let runs = c.requires.0 in
    let is = c.requires.1 in
    let copies = c.requires.2 in
    ap length (c.deref-2.ensures.value ∙ copies.counts) ∙ length-map runs (λ (p : Placed). own_count p.run) ∙ sym (count_left (copy_marks runs) runs)
    ∙ sym (ap length is.opened) ∙ length-map c.args.current.runs.items placed_of

pub count_without-without-requires : goal.count_without-without-requires
count_without-without-requires c =
    let runs = c.requires.0 in
    let copies = c.requires.2 in
    let held = ap length c.deref-3.ensures.value in
    let few = c.requires.3 in
    let same : length c.in_ok-runs.runs.items ≡ length runs =
    sym (length-map c.in_ok-runs.runs.items (λ (p : RunParts). p.results))
    ∙ ap length (c.in_ok-runs.ensures.results ∙ c.deref-2.ensures.value ∙ copies.counts)
    ∙ length-map runs (λ (p : Placed). own_count p.run) in
    record { few = omega (arith, held, same, few) }

pub returns-clause-woven : goal.returns-clause-woven
returns-clause-woven c = λ xs now before states w is copies.
    let file = c.args.file.now in
    let rs = records_of now in
    let marks = c.deref-4.ensures.value ∙ copies.marks in
    let members =
    c.in_ok-runs.ensures.members ∙ opened_members c.args.current.runs.items (without_copies now) is.opened ∙ members_left (copy_marks now) now in
    record {
      parts = parts_of_all c.in_ok-runs.runs.items now members (c.in_ok-runs.ensures.results ∙ c.deref-2.ensures.value ∙ copies.counts);
      whole = c.in_ok-runs.ensures.whole;
      drafts =
          c.in_ok-drafts.ensures
          ∙ ap (λ ms. woven ms c.args.current.drafts.items c.args.copies.drafts.items) marks
          ∙ ap (λ ds. woven (copies_of rs) ds c.args.copies.drafts.items) (is.drafts ∙ found_drafts file now w.current_faultless w.current_sources)
          ∙ ap (woven (copies_of rs) (unmarked (copies_of rs) (current_drafts file now))) copies.drafts
          ∙ woven_back (copies_of rs) (current_drafts file now) (marked_each rs ∙ sym (current_long file now before w));
      states =
          c.in_ok-states.ensures
          ∙ ap (λ ns. map Some (spread New ns c.deref-6.result.now)) (c.deref-5.ensures.value ∙ copies.numbers)
          ∙ ap (λ ss. map Some (spread New (numbers_of rs) ss)) (c.deref-6.ensures.value ∙ c.in_ok-found.ensures ∙ states_there c.args.states.now xs states);
      copies = copies.marks;
    }

pub returns-clause-without : goal.returns-clause-without
returns-clause-without c = λ now is copies.
    let members =
    c.in_ok-runs.ensures.members ∙ opened_members c.args.current.runs.items (without_copies now) is.opened ∙ members_left (copy_marks now) now in
    let parts = parts_of_all c.in_ok-runs.runs.items now members (c.in_ok-runs.ensures.results ∙ c.deref-2.ensures.value ∙ copies.counts) in
    without_results c.in_ok-runs.runs.items (run_values now) c.count_without-without.result parts
    (c.count_without-without.ensures ∙ ap (count_by (λ parts. not (is_some parts.results))) c.deref-3.ensures.value)
