use Rattle.std.proofs.Common.{map, sym, ap, ◌∙◌}
use Rattle.std.proofs.Crossing.{crosses}
use Rattle.std.proofs.lemmas.Simd.{map-map}
use Rattle.std.proofs.lemmas.Slice.Zip.{AllZip-map}
use denote.Param.Send.{sendable}
use Rattle.sarif_outside.specs.Internal.Asked.{mark_by}
use Rattle.sarif_outside.proofs.ResultsShared.{asked_sync}
use Rattle.sarif_outside.proofs.marking.mark_all.Goals as goal

pub share_jobs-requires-send-J : goal.share_jobs-requires-send-J
share_jobs-requires-send-J g c κs within = search (asked_sync, sendable, crosses) depth 20

pub returns : goal.returns
returns g c =
    let each = c.in_ok-each.each.items in
    AllZip-map (λ p. mark_by p.now) each c.in_ok-marks.marks.items c.in_ok-marks.ensures
    ∙ sym (map-map mark_by (λ p. p.now) each)
    ∙ ap (map mark_by) c.in_ok-each.ensures
