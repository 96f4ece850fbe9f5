use Rattle.std.proofs.Common.{◌<◌, map, length, get_or, sym, ap, ◌∙◌, arith}
use Rattle.std.proofs.lemmas.List.{get_or-map, length-map}
use Rattle.serde_json.specs.Data.{null}
use Rattle.sarif_model.specs.Run.{result_at}
use Rattle.sarif_model.specs.declared.record.Record.{Record}
use Rattle.std.specs.Borrow.{Bor}
use Rattle.sarif_prepare.specs.Internal.Leftover.{found_at}
use Rattle.sarif_prepare.proofs.Limits.{again_next}
use Rattle.sarif_runs.specs.declared.spots.Spot.{Spot}
use Rattle.sarif_runs.specs.Internal.Opened.{placed_of}
use Rattle.sarif_runs.specs.Internal.Spots.{no_run}
use Rattle.sarif_runs.specs.Placed.{Placed}
use Rattle.sarif_prepare.proofs.limiting.list_drafts.Goals as goal

pub loop-number-preserved : goal.loop-number-preserved
loop-number-preserved c =
    let n = c.loop-number.number in
    let runs = c.args.runs.now in
    let spots = c.args.spots.now in
    let records = c.args.records.now in
    let lists = c.args.lists.now in
    let none : Spot = record { run = 0; seq = 0 } in
    let within : n < length spots = c.loop-number-test.true in
    let spot = get_or spots n none in
    let run = c.index-runs-spot.result in
    let many = length-map runs placed_of in
    let inside : spot.run < length runs = let in_runs = (c.requires.within n none within).0 in omega (arith, in_runs, many) in
    let found = c.index-records-number.result in
    let now = λ (r : Bor Record). r.now in
    let in_records : n < length records = omega (arith, within, c.requires.records) in
    let records_many = length-map records now in
    let spots_many = length-map spots (found_at (map placed_of runs)) in
    let placed = ap placed_of c.index-runs-spot.is ∙ sym (get_or-map placed_of runs spot.run run no_run inside) in
    again_next c.args.file.now (map now records) lists (map (found_at (map placed_of runs)) spots) n found.now found.now c.as_slice.result.now _
    (result_at (placed_of run).run spot.seq) null _ c.loop-number.drafts.items _ _
    (omega (arith, in_records, records_many)) (omega (arith, within, c.requires.lists)) (omega (arith, within, spots_many))
    (ap now c.index-records-number.is ∙ sym (get_or-map now records n found found.now in_records))
    (c.as_slice.ensures ∙ c.index-lists-number.is)
    (ap (λ (p : Placed). result_at p.run spot.seq) placed ∙ sym (get_or-map (found_at (map placed_of runs)) spots n none null within))
    c.in_ok-limited_draft.ensures c.in_ok-push.ensures.items c.loop-number.invariant
