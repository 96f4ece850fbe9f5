use Rattle.std.proofs.Common.{◌<◌, map, take, length, sym, ap, ◌∙◌, arith}
use Rattle.std.proofs.lemmas.List.{get_or-map, length-map}
use Rattle.std.specs.Borrow.{Bor}
use Rattle.sarif_model.specs.declared.record.Record.{Record}
use Rattle.sarif_suppress.proofs.Limits.{admitted_next}
use Rattle.sarif_suppress.proofs.admission.Admission.count_all.Goals as goal

pub loop-found-preserved : goal.loop-found-preserved
loop-found-preserved g c =
    let file = c.args.file.now in
    let now = λ (r : Bor Record). r.now in
    let records = c.args.records.now in
    let n = c.loop-found.found-index in
    let found = c.found-item.result in
    let many = length-map records now in
    let within : n < length (map now records) = let inside = c.loop-found-test.true in omega (arith, inside, many) in
    let is = ap now c.found-item.is ∙ sym (get_or-map now records n found found.now c.loop-found-test.true) in
    admitted_next file (map now records) n found.now _ _ c.loop-found.lists.items _ _ c.in_ok-count.field-0 within is
    (c.in_ok-count.ensures.admitted file) (c.in_ok-count.ensures.counted file) c.in_ok-push.ensures.items
    (c.in_ok-tidy.ensures (take n (map now records)) c.loop-found.invariant.0) c.loop-found.invariant.1
