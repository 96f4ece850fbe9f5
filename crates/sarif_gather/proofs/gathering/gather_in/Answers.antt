use Rattle.std.proofs.Common.{◌≡◌, ◌<◌, ℕ, false, Some, length, get_or, refl, sym, ap, ◌∙◌, subst, arith}
use Rattle.std.specs.Prelude.{slice_get}
use Rattle.std.specs.List.{list_any}
use Rattle.std.proofs.lemmas.Option.{slice_get_within, slice_get_read, get_or_from_slice_get}
use Rattle.sarif_collect.specs.declared.piece.Parcel.{Parcel}
use Rattle.sarif_gather.specs.declared.gathering.worker.Back.{Back}
use Rattle.sarif_gather.specs.Internal.Served.{IsServed}
use Rattle.sarif_dispatch.proofs.Places.{none_passes}
use Rattle.sarif_gather.proofs.gathering.gather_in.Goals as goal

pub returns : goal.returns
returns g c =
    let backs = c.in-Ok.backs.items in
    let handles = c.in_ok-handles.handles.items in
    let started = c.if-started-workers.false in
    let P : Type 0 = Parcel g.row.W-Item.Denot g.row.W-Tail.Denot in
    let place = c.args.place.now in
    let short : (k : ℕ) (back : Back P) → slice_get backs k ≡ Some back → back.short ≡ false = λ k back at.
    none_passes (λ b. b.short) backs
    (ap (λ l. list_any (λ (b : Back P). b.short) l) (sym c.as_slice.ensures.value) ∙ sym c.is_short.ensures
    ∙ c.if-is_short.false) k back at in
    record {
      desk_of = c.receive-is_whole.ensures.desk;
      ends = c.receive-is_whole.ensures.ends ∙ omega arith;
      collected = c.if-not-is_whole.ensures.all;
      backs = omega (arith, c.in-Ok.ensures.len);
      each = λ k back at.
          let within = slice_get_within backs k back at in
          let lt : k < length handles = omega (arith, c.in-Ok.ensures.len) in
          let keeps = (c.in-Ok.ensures.each k back (omega (arith, lt))).1 in
          let made = c.in_ok-handles.ensures.each k keeps.handle (slice_get_read handles (length handles) k keeps.handle refl lt keeps.handle_is) in
          let p = keeps.handle.promise in
          let here =
          subst
          (λ q. IsServed (g.W.Work.count q.work.now) (g.W.Work.item q.work.now) (g.W.Work.end q.work.now) q.mailbox.now q.deal.now p.worker
          (get_or backs k back)) made.0 keeps.kept in
          let one =
          subst
          (λ n. IsServed (g.W.Work.count place.work.now) (g.W.Work.item place.work.now)
          (g.W.Work.end place.work.now) place.mailbox.now place.deal.now n (get_or backs k back)) made.1 here in (
            subst
                (λ b. IsServed (g.W.Work.count place.work.now) (g.W.Work.item place.work.now)
                (g.W.Work.end place.work.now) place.mailbox.now place.deal.now k b) (get_or_from_slice_get backs k back back at) one,
            short k back at,
          );
    }
