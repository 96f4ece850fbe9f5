use Rattle.std.proofs.Common.{◌≡◌, ◌∷◌, ◌++◌, [], List, replicate, sym, ap, ◌∙◌, subst, arith, append_assoc, append-nil}
use Rattle.std.proofs.lemmas.List.{length_push, nil_from_length}
use Rattle.std.specs.Vec.Iter.{into_iter_items}
use Rattle.sarif_collect.specs.Collecting.{refusal_of, with_piece, IsReason}
use Rattle.sarif_collect.specs.Held.{Held, empty_run, first_open}
use Rattle.sarif_collect.specs.declared.piece.Why.TheVariants.{Unclosed}
use Rattle.sarif_collect.proofs.AllRuns.{told_lists, told_fault}
use Rattle.sarif_collect.proofs.Arrived.{accepted_push, first_refused, left_open}
use Rattle.sarif_collect.proofs.Parcels.{all_after_push}
use Rattle.sarif_collect.proofs.whole.collect.Goals as goal

pub returns-in-Err-clause-first : goal.returns-in-Err-clause-first
returns-in-Err-clause-first g c =
    let was = c.loop-piece.invariant in
    let piece = c.in-Some.piece in
    let steps = c.in-Some.ensures.steps.0 in
    first_refused (replicate c.args.runs empty_run) c.args.arrivals.items c.loop-piece.yielded piece (into_iter_items c.next.new.self)
    (was.2 ∙ ap (λ l. c.loop-piece.yielded ++ l) steps) c.loop-piece.at was.3 was.5 c.in-Err.field-0.why
    (subst (λ (k : List (Held g.row.T.Denot g.row.C.Denot)). IsReason (refusal_of k piece) c.in-Err.field-0.why) was.4 c.in-Err.ensures.why)

pub loop-piece-preserved : goal.loop-piece-preserved
loop-piece-preserved g c =
    let was = c.loop-piece.invariant in
    let piece = c.in-Some.piece in
    let yielded = c.loop-piece.yielded in
    let steps = c.in-Some.ensures.steps.0 in
    let ok = c.in_default-accept.ensures.ok in (
      tt,
      tt,
      was.2 ∙ ap (λ l. yielded ++ l) steps ∙ sym (append_assoc yielded (piece ∷ []) (into_iter_items c.next.new.self)),
      omega (arith, was.3, length_push yielded piece),
      ok.1 ∙ ap (λ k. with_piece k piece) was.4 ∙ sym (all_after_push (replicate c.args.runs empty_run) yielded piece),
      accepted_push (replicate c.args.runs empty_run) yielded piece was.5 (ap (λ k. refusal_of k piece) (sym was.4) ∙ ok.0),
    )

pub returns-in-Err-clause-unlawful : goal.returns-in-Err-clause-unlawful
returns-in-Err-clause-unlawful g c = told_fault c.args.runs c.args.arrivals.items c.loop-piece.at c.in-Err.field-0.why (returns-in-Err-clause-first g c)

pub returns-in-Ok-finish-clause-lawful : goal.returns-in-Ok-finish-clause-lawful
returns-in-Ok-finish-clause-lawful g c =
    let was = c.loop-piece.invariant in
    let yielded = c.loop-piece.yielded in
    let none : into_iter_items c.loop-piece.piece-iterator ≡ [] =
    nil_from_length (into_iter_items c.loop-piece.piece-iterator) (sym c.loop-piece.piece-iterator.rest.ok.0 ∙ c.in-None.ensures.steps.0) in
    told_lists c.args.runs c.args.arrivals.items yielded
    (was.2 ∙ ap (λ l. yielded ++ l) none ∙ append-nil yielded) c.in-Ok-finish.lists was.5 (sym was.4 ∙ c.in-Ok-finish.ensures.ok)

pub returns-clause-unlawful : goal.returns-clause-unlawful
returns-clause-unlawful g c =
    let was = c.loop-piece.invariant in
    let yielded = c.loop-piece.yielded in
    let none : into_iter_items c.loop-piece.piece-iterator ≡ [] =
    nil_from_length (into_iter_items c.loop-piece.piece-iterator) (sym c.loop-piece.piece-iterator.rest.ok.0 ∙ c.in-None.ensures.steps.0) in
    told_fault c.args.runs c.args.arrivals.items c.loop-piece.at (Unclosed c.in-Err-finish.run')
    (left_open (replicate c.args.runs empty_run) c.args.arrivals.items yielded
    (was.2 ∙ ap (λ l. yielded ++ l) none ∙ append-nil yielded) c.loop-piece.at was.3 was.5 c.in-Err-finish.run'
    (ap first_open (sym was.4) ∙ c.in-Err-finish.ensures.err.1))
