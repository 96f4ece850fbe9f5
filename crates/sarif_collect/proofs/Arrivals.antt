-- What arrives of each run, where each is sent by one worker.
use Rattle.std.proofs.Common.{◌≡◌, ◌≢◌, ℕ, zero, suc, cond, eqb, false, List, [], ◌∷◌, ◌++◌, map, Some, refl, sym, ap, ◌∙◌, subst, ⊎_elim, arith, append-nil, eq-eqb, ne_eqb}
use Rattle.std.specs.Prelude.{slice_get}
use Rattle.std.specs.List.{range_with_len}
use Rattle.std.proofs.lemmas.Bool.{cases_eq}
use Rattle.sarif_collect.specs.declared.piece.Piece.{Piece}
use Rattle.sarif_collect.specs.declared.piece.Piece.TheVariants.{Item, Close}
use Rattle.sarif_collect.specs.declared.piece.Parcel.{Parcel}
use Rattle.sarif_collect.specs.declared.piece.Parcel.TheVariants.{Carry, End}
use Rattle.sarif_dispatch.specs.Claims.{times, total}
use Rattle.sarif_collect.specs.Pieces.{on_run, pieces_of, pieces_of_runs, parcels_of, carried, parcels_in}
use Rattle.sarif_dispatch.specs.Senders.{of_sender}
use Rattle.sarif_dispatch.proofs.Deliveries.{of_same, of_other}
use Rattle.sarif_collect.proofs.RunByRun.{on_same, on_other, on_run-append}

nil_left : {A : Type 0} (a b : List A) → a ++ b ≡ [] → a ≡ []
nil_left [] b e = refl
nil_left (x ∷ a) b e = absurd (cc)

nil_right : {A : Type 0} (a b : List A) → a ++ b ≡ [] → b ≡ []
nil_right [] b e = e
nil_right (x ∷ a) b e = absurd (cc)

module _ {T C : Type 0} where
  on_cons : (run : ℕ) (q : Parcel T C) (ps : List (Parcel T C)) → on_run run (carried (q ∷ ps)) ≡ on_run run (carried (q ∷ [])) ++ on_run run (carried ps)
  on_cons run (Carry p) ps = on_run-append run (p ∷ []) (carried ps)
  on_cons run (End s) ps = refl

  -- a run's pieces come from the one sender that has any of it
  pub from_one : (run k : ℕ) (h : List (ℕ × Parcel T C)) → ((j : ℕ) → j ≢ k → on_run run (carried (of_sender j h)) ≡ [])
      → on_run run (carried (parcels_in h)) ≡ on_run run (carried (of_sender k h))
  from_one run k [] none = refl
  from_one run k (x ∷ h) none = ⊎_elim
      (λ (e : x.0 ≡ k).
      let others : (j : ℕ) → j ≢ k → on_run run (carried (of_sender j h)) ≡ [] =
      λ j n. ap (λ l. on_run run (carried l)) (sym (of_other x.0 j x.1 h (λ q. n (sym q ∙ e)))) ∙ none j n in
      let here : of_sender k (x ∷ h) ≡ x.1 ∷ of_sender k h = subst (λ j. of_sender j (x ∷ h) ≡ x.1 ∷ of_sender j h) e (of_same x.0 x.1 h) in
      on_cons run x.1 (parcels_in h) ∙ ap (λ l. on_run run (carried (x.1 ∷ [])) ++ l) (from_one run k h others)
      ∙ sym (on_cons run x.1 (of_sender k h)) ∙ ap (λ l. on_run run (carried l)) (sym here))
      (λ (n : x.0 ≡ k → ⊥).
      let mine : on_run run (carried (x.1 ∷ [])) ++ on_run run (carried (of_sender x.0 h)) ≡ [] = sym (on_cons run x.1 (of_sender x.0 h))
      ∙ ap (λ l. on_run run (carried l)) (sym (of_same x.0 x.1 h)) ∙ none x.0 n in
      let others : (j : ℕ) → j ≢ k → on_run run (carried (of_sender j h)) ≡ [] = λ j m. ⊎_elim
      (λ (q : x.0 ≡ j). ap (λ i. on_run run (carried (of_sender i h))) (sym q)
      ∙ nil_right (on_run run (carried (x.1 ∷ []))) (on_run run (carried (of_sender x.0 h))) mine)
      (λ (q : x.0 ≡ j → ⊥). ap (λ l. on_run run (carried l)) (sym (of_other x.0 j x.1 h q)) ∙ none j m)
      (cases_eq x.0 j) in
      on_cons run x.1 (parcels_in h)
      ∙ ap (λ l. l ++ on_run run (carried (parcels_in h)))
      (nil_left (on_run run (carried (x.1 ∷ []))) (on_run run (carried (of_sender x.0 h))) mine)
      ∙ from_one run k h others ∙ ap (λ l. on_run run (carried l)) (sym (of_other x.0 k x.1 h n)))
      (cases_eq x.0 k)

  -- what a worker carries
  carried-map : (ps : List (Piece T C)) → carried (map Carry ps ++ End false ∷ []) ≡ ps
  carried-map [] = refl
  carried-map (p ∷ ps) = ap (λ l. p ∷ l) (carried-map ps)

  items_same : (run : ℕ) (item : ℕ → T) (l : List ℕ) → on_run {C = C} run (map (λ s. Item run s (item s)) l) ≡ map (λ s. Item run s (item s)) l
  items_same run item [] = refl
  items_same run item (s ∷ l) = on_same run (Item run s (item s)) (map (λ s. Item run s (item s)) l) refl
      ∙ ap (λ r. Item run s (item s) ∷ r) (items_same run item l)

  items_other : (run other : ℕ) (item : ℕ → T) (l : List ℕ) → other ≢ run → on_run {C = C} run (map (λ s. Item other s (item s)) l) ≡ []
  items_other run other item [] n = refl
  items_other run other item (s ∷ l) n = on_other run (Item other s (item s)) (map (λ s. Item other s (item s)) l) n ∙ items_other run other item l n

  pieces_same : (run : ℕ) (item : ℕ → T) (count : ℕ) (end : C) → on_run run (pieces_of run item count end) ≡ pieces_of run item count end
  pieces_same run item count end =
      on_run-append run (map (λ s. Item run s (item s)) (range_with_len 0 count)) (Close run count end ∷ [])
      ∙ (λ i. items_same run item (range_with_len 0 count) i ++ on_same run (Close run count end) [] refl i)

  pieces_other : (run other : ℕ) (item : ℕ → T) (count : ℕ) (end : C) → other ≢ run → on_run run (pieces_of other item count end) ≡ []
  pieces_other run other item count end n =
      on_run-append run (map (λ s. Item other s (item s)) (range_with_len 0 count)) (Close other count end ∷ [])
      ∙ (λ i. items_other run other item (range_with_len 0 count) n i ++ on_other run (Close other count end) [] n i)

module _ {T C : Type 0} (count : ℕ → ℕ) (item : ℕ → ℕ → T) (end : ℕ → C) where
  not_drawn : (run : ℕ) (rs : List ℕ) → times run rs ≡ 0 → on_run run (pieces_of_runs count item end rs) ≡ []
  not_drawn run [] none = refl
  not_drawn run (r ∷ rs) none = ⊎_elim
      (λ (e : r ≡ run). absurd (let one : ◌≡◌ {A = ℕ} (cond (eqb r run) 1 0) 1 = ap (λ b. cond b 1 0) (eq-eqb r run e) in omega arith))
      (λ (n : r ≡ run → ⊥). on_run-append run (pieces_of r (item r) (count r) (end r)) (pieces_of_runs count item end rs)
      ∙ (λ i. pieces_other run r (item r) (count r) (end r) n i
      ++ not_drawn run rs (let zero_here : ◌≡◌ {A = ℕ} (cond (eqb r run) 1 0) 0 = ap (λ b. cond b 1 0) (ne_eqb r run n) in omega arith) i))
      (cases_eq r run)

  drawn_once : (run : ℕ) (rs : List ℕ) → times run rs ≡ 1 → on_run run (pieces_of_runs count item end rs) ≡ pieces_of run (item run) (count run) (end run)
  drawn_once run [] once = absurd (omega arith)
  drawn_once run (r ∷ rs) once = ⊎_elim
      (λ (e : r ≡ run). let one : ◌≡◌ {A = ℕ} (cond (eqb r run) 1 0) 1 = ap (λ b. cond b 1 0) (eq-eqb r run e) in
      on_run-append run (pieces_of r (item r) (count r) (end r)) (pieces_of_runs count item end rs)
      ∙ (λ i. on_run run (pieces_of (e i) (item (e i)) (count (e i)) (end (e i))) ++ not_drawn run rs (omega arith) i)
      ∙ append-nil (on_run run (pieces_of run (item run) (count run) (end run)))
      ∙ pieces_same run (item run) (count run) (end run))
      (λ (n : r ≡ run → ⊥). on_run-append run (pieces_of r (item r) (count r) (end r)) (pieces_of_runs count item end rs)
      ∙ (λ i. pieces_other run r (item r) (count r) (end r) n i
      ++ drawn_once run rs (let zero_here : ◌≡◌ {A = ℕ} (cond (eqb r run) 1 0) 0 = ap (λ b. cond b 1 0) (ne_eqb r run n) in omega arith) i))
      (cases_eq r run)

  -- the pieces of a run that the worker didn't draw, and of one that it drew
  pub not_mine : (run : ℕ) (rs : List ℕ) → times run rs ≡ 0 → on_run run (carried (parcels_of count item end rs)) ≡ []
  not_mine run rs none = ap (on_run run) (carried-map (pieces_of_runs count item end rs)) ∙ not_drawn run rs none

  pub mine : (run : ℕ) (rs : List ℕ) → times run rs ≡ 1 → on_run run (carried (parcels_of count item end rs)) ≡ pieces_of run (item run) (count run) (end run)
  mine run rs once = ap (on_run run) (carried-map (pieces_of_runs count item end rs)) ∙ drawn_once run rs once

pub none_of : {A : Type 0} (f : A → ℕ) (xs : List A) → total f xs ≡ 0 → (j : ℕ) (y : A) → slice_get xs j ≡ Some y → f y ≡ 0
none_of f [] none j y at = absurd (cc)
none_of f (x ∷ xs) none zero y at = let same : x ≡ y = cc in ap f (sym same) ∙ omega arith
none_of f (x ∷ xs) none (suc j) y at = none_of f xs (omega arith) j y at

others_later : {A : Type 0} (f : A → ℕ) (x : A) (xs : List A) (k : ℕ) → f x ≡ 0
    → ((j : ℕ) (y : A) → j ≢ k → slice_get xs j ≡ Some y → f y ≡ 0) → (j : ℕ) (y : A) → j ≢ suc k → slice_get (x ∷ xs) j ≡ Some y → f y ≡ 0
others_later f x xs k z rest zero y n at = let same : x ≡ y = cc in ap f (sym same) ∙ z
others_later f x xs k z rest (suc j) y n at = rest j y (λ e. n (ap suc e)) at

others_first : {A : Type 0} (f : A → ℕ) (x : A) (xs : List A) → total f xs ≡ 0 → (j : ℕ) (y : A) → j ≢ zero → slice_get (x ∷ xs) j ≡ Some y → f y ≡ 0
others_first f x xs none zero y n at = absurd (n refl)
others_first f x xs none (suc j) y n at = none_of f xs none j y at

-- the one that has it, if there is exactly one
pub the_one : {A : Type 0} (f : A → ℕ) (xs : List A) → total f xs ≡ 1
    → (k : ℕ) × (x : A) × (slice_get xs k ≡ Some x) × (f x ≡ 1) × ((j : ℕ) (y : A) → j ≢ k → slice_get xs j ≡ Some y → f y ≡ 0)
the_one f [] one = absurd (omega arith)
the_one f (x ∷ xs) one = ⊎_elim
    (λ (z : f x ≡ 0). let r = the_one f xs (omega arith) in (suc r.0, r.1, r.2, r.3, others_later f x xs r.0 z r.4))
    (λ (p : f x ≡ 0 → ⊥). (zero, x, refl, omega (arith, p), others_first f x xs (omega (arith, p))))
    (cases_eq (f x) 0)
