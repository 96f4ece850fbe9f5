use Rattle.std.proofs.Common.{◌≡◌, ℕ, ◌-◌, [], false, refl, sym, ap, ◌∙◌, subst, ⊎_elim, arith, Some}
use Rattle.std.specs.Prelude.{slice_get}
use Rattle.sarif_dispatch.specs.declared.deal.hand.Hand.{Hand}
use Rattle.sarif_dispatch.specs.Claims.{hand_view}
use Rattle.sarif_dispatch.specs.Hands.{IsSeatOf, drawn_by, is_marked}
use Rattle.sarif_dispatch.proofs.DealSteps.{splits}
use Rattle.sarif_dispatch.proofs.Places.{slice_get_push}
use Rattle.sarif_dispatch.proofs.deal.state.Deal.new.Goals as goal

pub split_seat-requires : goal.split_seat-requires
split_seat-requires c =
    let was = c.loop.invariant in
    let words = c.in_ok-claims.ensures.0 in
    let parts = ap (λ v. v.parts) was.4 in (
      was.2.table,
      omega arith,
      splits c.in_ok-claims.claims.shared.key c.loop.first.id c.loop.first.me.0 (omega arith) (ap (λ v. v.marks) was.4)
          (ap (λ v. v.drawn) was.4),
    )

pub loop-preserved : goal.loop-preserved
loop-preserved c =
    let was = c.loop.invariant in
    let split = c.split_seat.ensures in
    let made = c.new.ensures in
    let F : Hand → Type 0 = λ hand. IsSeatOf c.in_ok-claims.claims hand.seat × (drawn_by hand ≡ []) × (is_marked hand ≡ false) in
    let hand : F c.new.result = (
      record {
        table = ap (λ s. s.table_id) made.0 ∙ split.3 ∙ was.2.table;
        runs = ap (λ s. s.me.0.runs) made.0 ∙ ap (λ m. m.0.runs) split.4 ∙ was.2.runs;
        hands = ap (λ s. s.me.0.hands) made.0 ∙ ap (λ m. m.0.hands) split.4 ∙ was.2.hands;
      },
      ap (λ s. s.me.0.drawn) made.0 ∙ ap (λ m. m.0.drawn) split.4,
      made.1,
    ) in (
      omega arith,
      c.push_reserved.ensures.capacity ∙ was.1,
      record {
        table = split.0 ∙ was.2.table;
        runs = ap (λ m. m.0.runs) split.2 ∙ was.2.runs;
        hands = ap (λ m. m.0.hands) split.2 ∙ was.2.hands;
      },
      ap (λ m. m.1) split.2 ∙ was.3,
      ap (λ m. m.0) split.2 ∙ ap (λ v. hand_view v.runs v.hands (v.parts - 1) v.marks v.drawn) was.4
          ∙ ap (λ n. hand_view c.args.runs c.args.hands n 0 []) (omega arith),
      λ i h at. ⊎_elim (λ e. was.5 i h e) (λ e. subst F e.1 hand)
          (slice_get_push c.loop.all.items c.new.result i h (ap (λ l. slice_get l i) (sym c.push_reserved.ensures.items) ∙ at)),
    )

pub returns : goal.returns
returns c =
    let was = c.loop.invariant in
    let made = c.new-2.ensures in
    let key = c.in_ok-claims.ensures.5 in
    let F : Hand → Type 0 = λ hand. IsSeatOf c.in_ok-claims.claims hand.seat × (drawn_by hand ≡ []) × (is_marked hand ≡ false) in
    let last : F c.new-2.result = (
      record {
        table = ap (λ s. s.table_id) made.0 ∙ was.2.table;
        runs = ap (λ s. s.me.0.runs) made.0 ∙ was.2.runs;
        hands = ap (λ s. s.me.0.hands) made.0 ∙ was.2.hands;
      },
      ap (λ s. s.me.0.drawn) made.0 ∙ ap (λ v. v.drawn) was.4,
      made.1,
    ) in
    let each : (i : ℕ) (h : Hand) → slice_get c.push_reserved-2.new.self.items i ≡ Some h → F h = λ i h at. ⊎_elim (λ e. was.5 i h e) (λ e. subst F e.1 last)
    (slice_get_push c.loop.all.items c.new-2.result i h (ap (λ l. slice_get l i) (sym c.push_reserved-2.ensures.items) ∙ at)) in
    let end = c.loop-test.false in
    let near = c.loop.auto.counter-end in
    record {
      runs_are = refl;
      hands_are = ap (λ k. k.hands) key;
      all_of = record { each = λ i h at. (each i h at).0; count = (let k = ap (λ k. k.hands) key in let len = c.push_reserved-2.ensures.len in omega arith) };
      fresh = λ i h at. ((each i h at).1, (each i h at).2);
    }
