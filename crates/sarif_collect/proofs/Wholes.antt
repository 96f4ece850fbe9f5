-- Closed runs in a collector.
use Rattle.std.proofs.Common.{◌≡◌, ℕ, ◌+◌, Bool, true, false, List, [], ◌∷◌, map, Option, Some, None, cond, refl, sym, ap, ◌∙◌, zero, suc}
use Rattle.std.specs.Prelude.{slice_get, is_none}
use Rattle.std.specs.List.{enumerate_from, position_from}
use Rattle.sarif_collect.specs.Held.{Held, Whole, closed_run, first_open}

closed_head : (b : Bool) (n : ℕ) (o : Option ℕ) → cond b (Some n) o ≡ None → b ≡ false
closed_head true n o e = absurd (cc)
closed_head false n o e = refl

closed_rest : (b : Bool) (n : ℕ) (o : Option ℕ) → cond b (Some n) o ≡ None → o ≡ None
closed_rest true n o e = absurd (cc)
closed_rest false n o e = e

module _ {T : Type 0} where
  items_again : (a : ℕ) (xs ys : List T) → enumerate_from a xs ≡ enumerate_from a ys → xs ≡ ys
  items_again a [] [] e = refl
  items_again a [] (y ∷ ys) e = absurd (cc)
  items_again a (x ∷ xs) [] e = absurd (cc)
  items_again a (x ∷ xs) (y ∷ ys) e =
      let head : ◌≡◌ {A = ℕ × T} (a, x) (a, y) = cc in
      let tail : enumerate_from (a + 1) xs ≡ enumerate_from (a + 1) ys = cc in
      λ i. (head i).1 ∷ items_again (a + 1) xs ys tail i

module _ {T C : Type 0} where
  -- a closed run in a collector determines the run
  closed_again : (v w : Whole T C) → closed_run v ≡ closed_run w → v ≡ w
  closed_again v w e =
      let items = items_again 0 v.items w.items (ap (λ h. h.bodies) e) in
      let some_tail : Some v.tail ≡ Some w.tail = ap (λ h. h.tail) e in
      let tail : v.tail ≡ w.tail = cc in
      λ i. record { items = items i; tail = tail i }

  pub wholes_again : (vs ws : List (Whole T C)) → map closed_run vs ≡ map closed_run ws → vs ≡ ws
  wholes_again [] [] e = refl
  wholes_again [] (w ∷ ws) e = absurd (cc)
  wholes_again (v ∷ vs) [] e = absurd (cc)
  wholes_again (v ∷ vs) (w ∷ ws) e =
      let head : closed_run v ≡ closed_run w = cc in
      let tail : map closed_run vs ≡ map closed_run ws = cc in
      λ i. closed_again v w head i ∷ wholes_again vs ws tail i

  none_open : (n : ℕ) (ws : List (Whole T C)) → position_from (λ (h : Held T C). is_none h.tail) n (map closed_run ws) ≡ None
  none_open n [] = refl
  none_open n (w ∷ ws) = none_open (n + 1) ws

  pub no_open : (ws : List (Whole T C)) → first_open (map closed_run ws) ≡ None
  no_open ws = none_open 0 ws

  -- if no run is open, each is closed
  pub closed_at : (n : ℕ) (hs : List (Held T C)) → position_from (λ h. is_none h.tail) n hs ≡ None → (k : ℕ) (h : Held T C)
      → slice_get hs k ≡ Some h → is_none h.tail ≡ false
  closed_at n [] none k h at = absurd (cc)
  closed_at n (g ∷ hs) none zero h at = let same : g ≡ h = cc in ap (λ r. is_none r.tail) (sym same)
      ∙ closed_head (is_none g.tail) n (position_from (λ r. is_none r.tail) (n + 1) hs) none
  closed_at n (g ∷ hs) none (suc k) h at = closed_at (n + 1) hs (closed_rest (is_none g.tail) n (position_from (λ r. is_none r.tail) (n + 1) hs) none) k h at
