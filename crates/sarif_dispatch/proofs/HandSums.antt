-- What a hand knows that took in others.
use Rattle.std.proofs.Common.{◌≡◌, ℕ, ◌+◌, ◌≤◌, cond, min, true, List, [], ◌∷◌, ◌++◌, length, refl, ap, ◌∙◌, arith}
use mathlib.Core.Option.{some}
use lib.ListN.{get_elem?}
use Rattle.sarif_dispatch.specs.declared.deal.hand.Hand.{Hand}
use Rattle.sarif_dispatch.specs.declared.deal.rule.HandView.{HandView}
use Rattle.sarif_dispatch.specs.Claims.{times, total, once_below, hand_view, Learns}
use Rattle.sarif_dispatch.specs.Hands.{joined, drawn_by}
use Rattle.sarif_dispatch.proofs.DealSteps.{times-append, total_push, total_at}

pub joined-runs : (v : HandView) (hs : List Hand) → (joined v hs).runs ≡ v.runs
joined-runs v [] = refl
joined-runs v (h ∷ hs) = joined-runs (hand_view v.runs v.hands (v.parts + h.seat.me.0.parts) (v.marks + h.seat.me.0.marks) (v.drawn ++ drawn_by h)) hs

pub joined-hands : (v : HandView) (hs : List Hand) → (joined v hs).hands ≡ v.hands
joined-hands v [] = refl
joined-hands v (h ∷ hs) = joined-hands (hand_view v.runs v.hands (v.parts + h.seat.me.0.parts) (v.marks + h.seat.me.0.marks) (v.drawn ++ drawn_by h)) hs

pub joined-parts : (v : HandView) (hs : List Hand) → (joined v hs).parts ≡ v.parts + length hs
joined-parts v [] = omega arith
joined-parts v (h ∷ hs) =
    let rest = joined-parts (hand_view v.runs v.hands (v.parts + h.seat.me.0.parts) (v.marks + h.seat.me.0.marks) (v.drawn ++ drawn_by h))
    hs in let one = h.one in omega arith

pub joined-marks : (v : HandView) (hs : List Hand) → (joined v hs).marks ≡ v.marks + total (λ h. h.seat.me.0.marks) hs
joined-marks v [] = omega arith
joined-marks v (h ∷ hs) = let rest =
    joined-marks
    (hand_view v.runs v.hands (v.parts + h.seat.me.0.parts) (v.marks + h.seat.me.0.marks) (v.drawn ++ drawn_by h)) hs in omega arith

pub joined-times : (x : ℕ) (v : HandView) (hs : List Hand) → times x (joined v hs).drawn ≡ times x v.drawn + total (λ h. times x (drawn_by h)) hs
joined-times x v [] = omega arith
joined-times x v (h ∷ hs) =
    let rest = joined-times x (hand_view v.runs v.hands (v.parts + h.seat.me.0.parts) (v.marks + h.seat.me.0.marks) (v.drawn ++ drawn_by h)) hs in
    let more = times-append x v.drawn (drawn_by h) in
    omega arith

-- What the hand knows that took in all others, and looked at the word
module _ (rest : List Hand) (last : Hand) (word : ℕ) (learns : Learns (joined last.seat.me.0 rest) word) where
  pub all_drawn : length rest + 1 ≡ last.seat.me.0.hands → (x : ℕ)
      → total (λ h. times x (drawn_by h)) (rest ++ last ∷ []) ≡ once_below x (min word last.seat.me.0.runs)
  all_drawn all x =
      let one = last.one in
      let parts = joined-parts last.seat.me.0 rest in
      let hands = joined-hands last.seat.me.0 rest in
      let known = learns.drawn (omega arith) (omega arith) x in
      let sum = joined-times x last.seat.me.0 rest in
      let push = total_push (λ h. times x (drawn_by h)) rest last in
      let here : total (λ h. times x (drawn_by h)) (rest ++ last ∷ []) ≡ times x (joined last.seat.me.0 rest).drawn = omega arith in
      here ∙ known ∙ ap (λ n. once_below x (min word n)) (joined-runs last.seat.me.0 rest)

  pub all_marked : (i : ℕ) (h : Hand) → get_elem? (rest ++ last ∷ []) i ≡ some h → h.spent ≡ true → last.seat.me.0.runs ≤ word
  all_marked i h at marked =
      let mark : h.seat.me.0.marks ≡ 1 = h.marks ∙ ap (λ b. cond b 1 0) marked in
      let among = total_at (λ h. h.seat.me.0.marks) (rest ++ last ∷ []) i h at in
      let push = total_push (λ h. h.seat.me.0.marks) rest last in
      let sum = joined-marks last.seat.me.0 rest in
      let runs = joined-runs last.seat.me.0 rest in
      let spent = learns.spent (omega arith) in
      omega arith
