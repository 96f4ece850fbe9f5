use Rattle.std.proofs.Common.{rules, arith, ◌≡◌, length, refl, ap, sym, subst, drop, ◌∙◌, vec_len, slice_index_or}
use native.Mathlib.Nat.{zero-mul}
use Rattle.std.specs.Fork.{GivesChunk}
use Rattle.sarif_share.specs.Sharing.{GivesParts}
use Rattle.sarif_share.proofs.Sharings.{chunks_accepted, chunks_given, cut, cut_some, cut_whole, spans}
use Rattle.sarif_share.proofs.sharing.share_parts.Goals as goal

pub map_chunks-requires-clause-accepts : goal.map_chunks-requires-clause-accepts
map_chunks-requires-clause-accepts g c κs within = chunks_accepted g.F.Fn c.args.part.now c.part_size-size.result c.args.items.now c.requires

pub returns : goal.returns
returns g c =
    let xs = c.args.items.now in
    let f = c.args.part.now in
    let size = c.part_size-size.result in
    let made = c.in_ok-made.made in
    let rs = made.items in
    let long : vec_len made ≡ length rs = search rules in
    let told = c.in_ok-made.ensures in
    let span = spans (length rs) (length xs) size c.part_size-size.ensures (sym long ∙ told.len) in record {
      parts = cut g.F.Fn f size (length rs) xs;
      whole = cut_whole g.F.Fn f size (length rs) xs span.0;
      some = cut_some g.F.Fn f size (length rs) xs c.part_size-size.ensures span.1;
      given = subst (λ k. GivesParts g.F.Fn f k (cut g.F.Fn f size (length rs) xs) rs) (zero-mul size)
          (chunks_given g.F.Fn f size (length rs) 0 xs xs rs (ap (λ k. drop k xs) (sym (zero-mul size))) refl span.1
          (λ i d l. subst (λ k. GivesChunk g.F.Fn f size xs k (slice_index_or rs i d)) {x = i} (omega arith) (told.each i d l).1));
    }
