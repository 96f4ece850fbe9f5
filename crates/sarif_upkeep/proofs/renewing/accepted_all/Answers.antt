use Rattle.std.proofs.Common.{length, map, sym, ap, ◌∙◌}
use Rattle.std.proofs.lemmas.List.{length-map}
use Rattle.sarif_results.specs.Drafts.{applied_of}
use Rattle.std.proofs.lemmas.Result.{IfOk-weaker}
use Rattle.sarif_upkeep.proofs.OthersCounted.{accepted_all, accepted_some, marks_long}
use Rattle.sarif_upkeep.proofs.renewing.accepted_all.Goals as goal

pub accepted_among-requires-clause-drafts : goal.accepted_among-requires-clause-drafts
accepted_among-requires-clause-drafts c =
    let m = c.requires.0 in
    let is = c.requires.1.current in
    let drafts = c.args.matched.now.current.drafts.now in
    sym (length-map drafts (λ draft. draft.applied)) ∙ ap length is.drafts ∙ length-map m.records (applied_of m.file) ∙ sym (ap length is.records)

pub accepted_among-requires-clause-states : goal.accepted_among-requires-clause-states
accepted_among-requires-clause-states c =
    let is = c.requires.1.current in
    ap length is.states ∙ is.states_long ∙ sym (ap length is.records)

pub accepted_marked-requires-clause-drafts : goal.accepted_marked-requires-clause-drafts
accepted_marked-requires-clause-drafts c =
    let m = c.requires.0 in
    let is = c.requires.1.current in
    let drafts = c.args.matched.now.current.drafts.now in
    sym (length-map drafts (λ draft. draft.applied)) ∙ ap length is.drafts ∙ length-map m.records (applied_of m.file) ∙ sym (ap length is.records)

pub accepted_marked-requires-clause-states : goal.accepted_marked-requires-clause-states
accepted_marked-requires-clause-states c =
    let is = c.requires.1.current in
    ap length is.states ∙ is.states_long ∙ sym (ap length is.records)

pub accepted_marked-requires-clause-marks : goal.accepted_marked-requires-clause-marks
accepted_marked-requires-clause-marks c = marks_long c.requires.0 c.args.matched.now c.requires.1 _ c.in-Some.is

pub returns-in-None-clause-accepted : goal.returns-in-None-clause-accepted
returns-in-None-clause-accepted c = λ m is shown.
    IfOk-weaker c.accepted_among.result _ _
    (λ accepted found. found ∙ accepted_all m c.args.matched.now is shown c.in-None.is)
    (c.accepted_among.ensures.accepted m.file (is.current.drafts ∙ sym (ap (map (applied_of m.file)) is.current.records)))

pub returns-in-Some-clause-accepted : goal.returns-in-Some-clause-accepted
returns-in-Some-clause-accepted c = λ m is shown.
    IfOk-weaker c.accepted_marked.result _ _
    (λ accepted found. found ∙ accepted_some m c.args.matched.now is shown _ c.in-Some.is)
    (c.accepted_marked.ensures.accepted m.file (is.current.drafts ∙ sym (ap (map (applied_of m.file)) is.current.records)))
