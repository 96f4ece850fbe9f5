use Rattle.std.proofs.Common.{length, map, sym, ap, ◌∙◌}
use Rattle.std.proofs.lemmas.List.{length-map}
use Rattle.sarif_conditions.specs.Judged.{judged_of}
use Rattle.sarif_deciding.specs.Internal.Looked.{seen_of}
use Rattle.sarif_deciding.specs.Merge.{matched_of, state_in}
use Rattle.sarif_deciding.proofs.Lengths.{current_seen_long}
use Rattle.sarif_deciding.proofs.SideBySide.{judged_long}
use Rattle.sarif_deciding.proofs.current.judge_current.Goals as goal

pub judge_all-requires-clause-seen : goal.judge_all-requires-clause-seen
judge_all-requires-clause-seen c =
    let m = matched_of c.args.merge.now in
    let records =
    ap length c.deref.ensures.value ∙ sym (length-map c.in_ok-records.records.items (λ r. r.now)) ∙ ap length c.in_ok-records.ensures
    ∙ c.requires.current.records in
    ap length c.deref-3.ensures.value ∙ sym (length-map c.in_ok-seen.seen.items seen_of)
    ∙ ap length (c.in_ok-seen.ensures c.requires.looked.0 c.requires.looked.1)
    ∙ current_seen_long c.requires.looked.0 m c.requires.current.drafts ∙ sym records

pub returns-clause-count : goal.returns-clause-count
returns-clause-count c =
    let m = matched_of c.args.merge.now in
    let rs = map (λ r. r.now) c.deref.result.now in
    let all =
    length-map c.deref.result.now (λ r. r.now) ∙ ap length c.deref.ensures.value
    ∙ sym (length-map c.in_ok-records.records.items (λ r. r.now)) ∙ ap length c.in_ok-records.ensures ∙ c.requires.current.records in
    let states =
    ap length (c.deref-2.ensures.value ∙ c.in_ok-states.ensures) ∙ length-map c.args.merge.now.current.states.now state_in
    ∙ c.requires.current.states in
    let seen =
    length-map c.deref-3.result.now seen_of ∙ ap length c.deref-3.ensures.value ∙ sym (length-map c.in_ok-seen.seen.items seen_of)
    ∙ ap length (c.in_ok-seen.ensures c.requires.looked.0 c.requires.looked.1)
    ∙ current_seen_long c.requires.looked.0 m c.requires.current.drafts in
    sym (length-map c.in_ok-judged.judged.items judged_of) ∙ ap length c.in_ok-judged.ensures
    ∙ judged_long rs c.deref-2.result.now m.drafts (map seen_of c.deref-3.result.now) (states ∙ sym all) (sym all) (seen ∙ sym all)
    ∙ all
