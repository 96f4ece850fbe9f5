use Rattle.std.proofs.Common.{false, List, Some, length, map, sym, ap, ap₂, ◌∙◌}
use Rattle.std.proofs.lemmas.List.{length-map}
use Rattle.sarif_copies.specs.Copies.{copies_of, numbers_of, spread}
use Rattle.sarif_once.specs.Once.{copy_marks, marked, without_copies}
use Rattle.sarif_once.proofs.Marks.{findings_left, marked_each}
use Rattle.sarif_once.proofs.Parts.{count_left}
use Rattle.sarif_once.proofs.Spread.{spread_found, spread_long}
use Rattle.sarif_once.proofs.WovenLists.{marked_long}
use Rattle.sarif_model.specs.declared.kinds.State.TheVariants.{Absent}
use Rattle.sarif_model.specs.Run.{present, results_of}
use Rattle.sarif_read.specs.Unmarked.{unmarked}
use Rattle.sarif_results.specs.declared.draft.Draft.{Draft}
use Rattle.sarif_runs.specs.Internal.Opened.{placed_of}
use Rattle.sarif_runs.specs.Judging.{records_of}
use Rattle.sarif_runs.specs.Placed.{Placed}
use Rattle.sarif_prepare.specs.Internal.Apart.{left_counts, total}
use Rattle.sarif_prepare.specs.Internal.Baselines.{baseline_drafts}
use Rattle.sarif_prepare.specs.Internal.LeftParts.{present_counts}
use Rattle.sarif_prepare.proofs.CopyDrafts.{found_before}
use Rattle.sarif_prepare.proofs.Untaken.{untaken_is}
use Rattle.sarif_prepare.proofs.WovenLog.{before_long}
use Rattle.sarif_prepare.proofs.WovenParts.{counts_long, left_of_all, members_left, opened_members, total_present}
use Rattle.sarif_prepare.proofs.woven.weave_baselines.Goals as goal

-- which of all results are matched
pub list_left-requires : goal.list_left-requires
list_left-requires c =
    let before = c.requires.1 in
    let w = c.requires.2 in
    let copies = c.requires.4 in
    ap total (c.deref-2.ensures.value ∙ copies.counts) ∙ total_present before ∙ sym w.baseline_records
    ∙ sym (ap length (c.deref-3.ensures.value ∙ c.in_ok-taken.ensures
    ∙ ap (λ ns. spread false ns c.args.taken.now) (c.deref.ensures.value ∙ copies.numbers))
    ∙ spread_long false (records_of before) c.args.taken.now)

pub parts_with-requires : goal.parts_with-requires
parts_with-requires c =
    let before = c.requires.1 in
    let copies = c.requires.4 in
    ap length (c.deref-4.ensures.value ∙ c.in_ok-left.ensures) ∙ counts_long c.deref-2.result.now c.deref-3.result.now
    ∙ ap length (c.deref-2.ensures.value ∙ copies.counts) ∙ length-map before (λ (p : Placed). length (present (results_of p.run))) ∙ sym (count_left (copy_marks before) before)
    ∙ sym (ap length c.requires.3.opened) ∙ length-map c.args.baselines.runs.items placed_of

pub weave_left-requires-clause-taken : goal.weave_left-requires-clause-taken
weave_left-requires-clause-taken c =
    let before = c.requires.1 in
    let copies = c.requires.4 in
    ap length (c.deref-6.ensures.value ∙ c.in_ok-taken.ensures ∙ ap (λ ns. spread false ns c.args.taken.now) (c.deref.ensures.value ∙ copies.numbers))
    ∙ spread_long false (records_of before) c.args.taken.now
    ∙ sym (ap length (c.deref-5.ensures.value ∙ copies.marks) ∙ marked_each (records_of before))

pub weave_left-requires-clause-copied : goal.weave_left-requires-clause-copied
weave_left-requires-clause-copied c =
    let before = c.requires.1 in
    let w = c.requires.2 in
    let copies = c.requires.4 in
    let rs = records_of before in
    let ts = spread false (numbers_of rs) c.args.taken.now in
    let taken =
    c.deref-6.ensures.value ∙ c.in_ok-taken.ensures ∙ ap (λ ns. spread false ns c.args.taken.now) (c.deref.ensures.value ∙ copies.numbers) in
    let marks = c.deref-5.ensures.value ∙ copies.marks in
    ap length copies.drafts
    ∙ sym (marked_long (copies_of rs) (baseline_drafts before) ts (before_long c.requires.0 before w ∙ sym (marked_each rs))
    (spread_long false rs c.args.taken.now ∙ sym (marked_each rs)))
    ∙ sym (ap₂ (λ ms us. length (marked ms us)) marks taken)

pub returns : goal.returns
returns c = λ now before w is copies long left.
    let rs = records_of before in
    let taken =
    c.in_ok-taken.ensures ∙ ap (λ ns. spread false ns c.args.taken.now) (c.deref.ensures.value ∙ copies.numbers) in
    let ts = spread false (numbers_of rs) c.args.taken.now in
    let marks = c.deref-5.ensures.value ∙ copies.marks in
    let members =
    c.in_ok-runs.ensures.members ∙ opened_members c.args.baselines.runs.items (without_copies before) is.opened ∙ members_left (copy_marks before) before in
    let results =
    c.in_ok-runs.ensures.results ∙ c.deref-4.ensures.value ∙ c.in_ok-left.ensures
    ∙ ap (λ ns. left_counts ns c.deref-3.result.now) (c.deref-2.ensures.value ∙ copies.counts)
    ∙ ap (left_counts (present_counts before)) (c.deref-3.ensures.value ∙ taken) in
    let all = baseline_drafts before in
    let taken_all = c.deref-6.ensures.value ∙ taken in
    let many = before_long now before w ∙ sym (marked_each rs) in
    let found =
    left ∙ untaken_is c.args.taken.now (baseline_drafts (without_copies before))
    ∙ ap (unmarked c.args.taken.now) (found_before before w.baseline_faultless w.baseline_sources)
    ∙ sym (ap (λ us. unmarked us (unmarked (copies_of rs) (baseline_drafts before))) (spread_found false rs c.args.taken.now (long ∙ ap length (findings_left before)))) in
    record {
      left = record {
        parts = left_of_all c.in_ok-runs.runs.items ts before members results;
        whole = c.in_ok-runs.ensures.whole;
        drafts =
            c.in_ok-drafts.ensures.drafts all (many ∙ sym (ap length marks))
            (found ∙ sym (ap₂ (λ ms us. unmarked (unmarked ms us) (unmarked ms all)) marks taken_all))
            (copies.drafts ∙ sym (ap (λ ms. marked ms all) marks))
            ∙ ap (λ us. unmarked us all) taken_all ∙ sym (untaken_is ts all);
        states = c.in_ok-states.ensures ∙ ap (λ (ds : List Draft). map (λ _. Some Absent) ds) c.deref-7.ensures.value;
      };
      copies = c.in_ok-drafts.ensures.copies ∙ ap₂ unmarked taken_all marks;
    }
