use Rattle.std.proofs.Common.{Some, length, map, sym, ap, ◌∙◌}
use Rattle.std.proofs.lemmas.List.{length-map}
use Rattle.sarif_results.specs.Drafts.{applied_of}
use Rattle.std.proofs.lemmas.Result.{IfOk-weaker}
use Rattle.sarif_accept.specs.Adding.{may_hit}
use Rattle.sarif_accept.specs.Choosing.{accepted_by}
use Rattle.sarif_upkeep.proofs.OthersCounted.{accepted_unless, hidden_as_chosen, looked_as_records}
use Rattle.sarif_upkeep.proofs.renewing.accepted_shown.Goals as goal

pub mark_looked_at-requires : goal.mark_looked_at-requires
mark_looked_at-requires c = hidden_as_chosen c.requires.0 c.args.matched.now c.requires.1 c.args.hidden.now c.requires.2

pub accepted_marked-requires-clause-drafts : goal.accepted_marked-requires-clause-drafts
accepted_marked-requires-clause-drafts c =
    let m = c.requires.0 in
    let is = c.requires.1.current in
    let drafts = c.args.matched.now.current.drafts.now in
    sym (length-map drafts (λ draft. draft.applied)) ∙ ap length is.drafts ∙ length-map m.records (applied_of m.file) ∙ sym (ap length is.records)

pub accepted_marked-requires-clause-states : goal.accepted_marked-requires-clause-states
accepted_marked-requires-clause-states c =
    let is = c.requires.1.current in
    ap length is.states ∙ is.states_long ∙ sym (ap length is.records)

pub accepted_marked-requires-clause-marks : goal.accepted_marked-requires-clause-marks
accepted_marked-requires-clause-marks c =
    ap length (c.deref.ensures.value ∙ c.in_ok-marks.ensures)
    ∙ looked_as_records c.requires.0 c.args.matched.now c.requires.1 c.args.hidden.now c.requires.2

pub returns-clause-accepted : goal.returns-clause-accepted
returns-clause-accepted c = λ m is some.
    let matched = c.args.matched.now in
    IfOk-weaker c.accepted_marked.result _ _
    (λ accepted found. found
    ∙ ap (λ l. accepted_by (Some l) (may_hit matched.policy) m.file matched.current.records.now matched.current.states.now)
    (c.deref.ensures.value ∙ c.in_ok-marks.ensures)
    ∙ accepted_unless m matched is c.args.hidden.now some)
    (c.accepted_marked.ensures.accepted m.file (is.current.drafts ∙ sym (ap (map (applied_of m.file)) is.current.records)))
