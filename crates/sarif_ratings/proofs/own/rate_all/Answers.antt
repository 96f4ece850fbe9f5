use Rattle.std.proofs.Common.{map, sym, ap, ◌∙◌}
use Rattle.std.proofs.lemmas.Simd.{map-map}
use Rattle.std.proofs.lemmas.Slice.Zip.{AllZip-map}
use Rattle.sarif_ratings.specs.Internal.Listed.{own_of}
use Rattle.sarif_ratings.proofs.own.rate_all.Goals as goal

pub returns : goal.returns
returns g c =
    let each = c.in_ok-each.each.items in
    AllZip-map (λ p. own_of p.now) each c.in_ok-ratings.ratings.items c.in_ok-ratings.ensures
    ∙ sym (map-map own_of (λ p. p.now) each)
    ∙ ap (map own_of) c.in_ok-each.ensures
