use Rattle.std.proofs.Common.{length, map, sym, ap, ◌∙◌}
use Rattle.std.proofs.lemmas.List.{length-map}
use Rattle.sarif_results.specs.Drafts.{applied_of}
use Rattle.sarif_upkeep.proofs.OthersCounted.{hidden_long, staying_same}
use Rattle.sarif_upkeep.proofs.leaving.left_of_all.Goals as goal

pub staying_among-requires-clause-drafts : goal.staying_among-requires-clause-drafts
staying_among-requires-clause-drafts c =
    let m = c.requires.0 in
    let is = c.requires.1.current in
    let drafts = c.args.matched.now.current.drafts.now in
    sym (length-map drafts (λ draft. draft.applied)) ∙ ap length is.drafts ∙ length-map m.records (applied_of m.file) ∙ sym (ap length is.records)

pub staying_among-requires-clause-states : goal.staying_among-requires-clause-states
staying_among-requires-clause-states c =
    let is = c.requires.1.current in
    ap length is.states ∙ is.states_long ∙ sym (ap length is.records)

pub staying_among-requires-clause-hidden : goal.staying_among-requires-clause-hidden
staying_among-requires-clause-hidden c = hidden_long c.requires.0 c.args.matched.now c.requires.1

pub returns-clause-count : goal.returns-clause-count
returns-clause-count c = λ m is.
    c.staying_among.ensures.count m.file (is.current.drafts ∙ sym (ap (map (applied_of m.file)) is.current.records))
    ∙ staying_same m c.args.matched.now is
