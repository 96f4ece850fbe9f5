use Rattle.std.proofs.Common.{length, map, sym, ap, ◌∙◌}
use Rattle.std.proofs.lemmas.List.{length-map}
use Rattle.sarif_conditions.specs.Judged.{judged_of}
use Rattle.sarif_model.specs.declared.kinds.State.TheVariants.{Absent}
use Rattle.sarif_deciding.specs.Internal.Looked.{seen_of}
use Rattle.sarif_deciding.proofs.Lengths.{absent_seen_long, each_long, left_records_long}
use Rattle.sarif_deciding.proofs.SideBySide.{judged_long}
use Rattle.sarif_deciding.proofs.absent.judge_absent.Goals as goal

pub judge_all-requires-clause-states : goal.judge_all-requires-clause-states
judge_all-requires-clause-states c =
    let left = c.args.merge.now.before.left.now in
    let records =
    sym (length-map c.args.looked.now.records.items (λ r. r.now)) ∙ ap length c.requires.looked.1.records
    ∙ left_records_long c.requires.looked.0 c.args.merge.now c.requires.left in
    ap length (c.deref-2.ensures.value ∙ c.in_ok-states.ensures) ∙ each_long Absent left ∙ sym records ∙ sym (ap length c.deref.ensures.value)

pub judge_all-requires-clause-drafts : goal.judge_all-requires-clause-drafts
judge_all-requires-clause-drafts c =
    let records =
    sym (length-map c.args.looked.now.records.items (λ r. r.now)) ∙ ap length c.requires.looked.1.records
    ∙ left_records_long c.requires.looked.0 c.args.merge.now c.requires.left in
    sym records ∙ sym (ap length c.deref.ensures.value)

pub judge_all-requires-clause-seen : goal.judge_all-requires-clause-seen
judge_all-requires-clause-seen c =
    let records =
    sym (length-map c.args.looked.now.records.items (λ r. r.now)) ∙ ap length c.requires.looked.1.records
    ∙ left_records_long c.requires.looked.0 c.args.merge.now c.requires.left in
    ap length c.deref-3.ensures.value ∙ sym (length-map c.in_ok-seen.seen.items seen_of)
    ∙ ap length (c.in_ok-seen.ensures c.requires.looked.0 c.requires.looked.1)
    ∙ absent_seen_long c.requires.looked.0 c.args.merge.now c.requires.left ∙ sym records ∙ sym (ap length c.deref.ensures.value)

pub returns-clause-count : goal.returns-clause-count
returns-clause-count c =
    let left = c.args.merge.now.before.left.now in
    let rs = map (λ r. r.now) c.deref.result.now in
    let held = length-map c.deref.result.now (λ r. r.now) in
    let records =
    sym (length-map c.args.looked.now.records.items (λ r. r.now)) ∙ ap length c.requires.looked.1.records
    ∙ left_records_long c.requires.looked.0 c.args.merge.now c.requires.left in
    let all = held ∙ ap length c.deref.ensures.value ∙ records in
    let states = ap length (c.deref-2.ensures.value ∙ c.in_ok-states.ensures) ∙ each_long Absent left in
    let seen =
    length-map c.deref-3.result.now seen_of ∙ ap length c.deref-3.ensures.value ∙ sym (length-map c.in_ok-seen.seen.items seen_of)
    ∙ ap length (c.in_ok-seen.ensures c.requires.looked.0 c.requires.looked.1)
    ∙ absent_seen_long c.requires.looked.0 c.args.merge.now c.requires.left in
    sym (length-map c.in_ok-judged.judged.items judged_of) ∙ ap length c.in_ok-judged.ensures
    ∙ judged_long rs c.deref-2.result.now left (map seen_of c.deref-3.result.now) (states ∙ sym all) (sym all) (seen ∙ sym all)
    ∙ all
