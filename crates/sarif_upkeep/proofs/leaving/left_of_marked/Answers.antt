use Rattle.std.proofs.Common.{map, length, sym, ap, ◌∙◌}
use Rattle.std.proofs.lemmas.List.{length-map}
use Rattle.std.proofs.lemmas.Result.{IfOk-weaker}
use Rattle.sarif_results.specs.Drafts.{applied_of}
use Rattle.sarif_upkeep.specs.Internal.Hiding.{lent}
use Rattle.sarif_accept.specs.Adding.{entry_read}
use Rattle.sarif_upkeep.proofs.OthersCounted.{alike_same, entries_lent, hidden_long, others_same}
use Rattle.sarif_upkeep.proofs.leaving.left_of_marked.Goals as goal

pub count_others-requires-clause-drafts : goal.count_others-requires-clause-drafts
count_others-requires-clause-drafts c =
    let m = c.requires.matched.0 in
    let is = c.requires.matched.1.current in
    let drafts = c.args.matched.now.current.drafts.now in
    sym (length-map drafts (λ draft. draft.applied)) ∙ ap length is.drafts ∙ length-map m.records (applied_of m.file) ∙ sym (ap length is.records)

pub count_others-requires-clause-states : goal.count_others-requires-clause-states
count_others-requires-clause-states c =
    let is = c.requires.matched.1.current in
    ap length is.states ∙ is.states_long ∙ sym (ap length is.records)

pub count_others-requires-clause-hidden : goal.count_others-requires-clause-hidden
count_others-requires-clause-hidden c = hidden_long c.requires.matched.0 c.args.matched.now c.requires.matched.1

pub returns-clause-alike : goal.returns-clause-alike
returns-clause-alike c = λ m is added_are.
    let renewal = c.args.renewal.now in
    let rules = c.in_ok-rules.ensures in
    let entries = ap (λ f. f.entries) rules ∙ entries_lent renewal.reason renewal.until c.args.added.now
    ∙ ap (map (λ r. entry_read r renewal.reason renewal.until)) added_are in
    let day = sym (ap (λ f. f.today) is.file) ∙ sym c.today.ensures ∙ sym (ap (λ f. f.today) rules) in
    IfOk-weaker c.count_others.result _ _
    (λ others found. found
    ∙ alike_same m renewal c.args.matched.now.policy _ (lent c.args.matched.now.hidden) c.args.marks.now
    c.args.matched.now.current.records.now c.args.matched.now.current.states.now is.policy entries is.hidden is.current.records is.current.states)
    (c.count_others.ensures.alike m.file (is.current.drafts ∙ sym (ap (map (applied_of m.file)) is.current.records)) day)

pub returns-clause-left : goal.returns-clause-left
returns-clause-left c = λ m is added_are.
    let renewal = c.args.renewal.now in
    let rules = c.in_ok-rules.ensures in
    let entries = ap (λ f. f.entries) rules ∙ entries_lent renewal.reason renewal.until c.args.added.now
    ∙ ap (map (λ r. entry_read r renewal.reason renewal.until)) added_are in
    let day = sym (ap (λ f. f.today) is.file) ∙ sym c.today.ensures ∙ sym (ap (λ f. f.today) rules) in
    IfOk-weaker c.count_others.result _ _
    (λ others found. found
    ∙ others_same m renewal c.args.matched.now.policy _ (lent c.args.matched.now.hidden) c.args.marks.now
    c.args.matched.now.current.records.now c.args.matched.now.current.states.now is.policy entries is.hidden is.current.records is.current.states)
    (c.count_others.ensures.left m.file (is.current.drafts ∙ sym (ap (map (applied_of m.file)) is.current.records)) day)
