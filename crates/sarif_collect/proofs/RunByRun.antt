-- A collector goes run by run: each run ends as its own pieces leave it.
use Rattle.std.proofs.Common.{◌≡◌, ℕ, zero, suc, ◌+◌, cond, List, [], ◌∷◌, ◌++◌, map, length, set, Option, Some, None, refl, sym, ap, ◌∙◌, ⊎_elim, append-nil, append_assoc, length-set, eq-eqb, ne_eqb}
use Rattle.std.specs.Prelude.{slice_get}
use Rattle.std.specs.List.{range_with_len, enumerate_from}
use Rattle.std.specs.Ordering.{nat_cmp}
use Rattle.std.specs.BTreeMap.{insert_entry}
use Rattle.std.proofs.lemmas.Bool.{cases_eq}
use Rattle.std.proofs.lemmas.List.{length_push}
use Rattle.sarif_collect.specs.declared.piece.Piece.{Piece}
use Rattle.sarif_collect.specs.declared.piece.Piece.TheVariants.{Item, Close}
use Rattle.sarif_collect.specs.Held.{Held, empty_run, closed_run}
use Rattle.sarif_collect.specs.Piece.{run_in}
use Rattle.sarif_collect.specs.Pieces.{on_run, pieces_of, whole_run}
use Rattle.sarif_collect.specs.Collecting.{step_at, set_in, with_piece, run_after, all_after}
use Rattle.sarif_collect.proofs.Numbering.{insert_next}

module _ {A : Type 0} where
  pub slice_get-set_same : (xs : List A) (i : ℕ) (x y : A) → slice_get xs i ≡ Some y → slice_get (set xs i x) i ≡ Some x
  slice_get-set_same [] i x y e = absurd (cc)
  slice_get-set_same (z ∷ zs) zero x y e = refl
  slice_get-set_same (z ∷ zs) (suc i) x y e = slice_get-set_same zs i x y e

  pub slice_get-set_other : (xs : List A) (i j : ℕ) (x : A) → (i ≡ j → ⊥) → slice_get (set xs i x) j ≡ slice_get xs j
  slice_get-set_other [] i j x n = refl
  slice_get-set_other (z ∷ zs) zero zero x n = absurd (n refl)
  slice_get-set_other (z ∷ zs) zero (suc j) x n = refl
  slice_get-set_other (z ∷ zs) (suc i) zero x n = refl
  slice_get-set_other (z ∷ zs) (suc i) (suc j) x n = slice_get-set_other zs i j x (λ e. n (ap suc e))

module _ {T C : Type 0} where
  pub on_same : (run : ℕ) (p : Piece T C) (ps : List (Piece T C)) → run_in p ≡ run → on_run run (p ∷ ps) ≡ p ∷ on_run run ps
  on_same run p ps e = ap (λ b. cond b (p ∷ on_run run ps) (on_run run ps)) (eq-eqb (run_in p) run e)

  pub on_other : (run : ℕ) (p : Piece T C) (ps : List (Piece T C)) → (run_in p ≡ run → ⊥) → on_run run (p ∷ ps) ≡ on_run run ps
  on_other run p ps n = ap (λ b. cond b (p ∷ on_run run ps) (on_run run ps)) (ne_eqb (run_in p) run n)

  pub on_run-append : (run : ℕ) (a b : List (Piece T C)) → on_run run (a ++ b) ≡ on_run run a ++ on_run run b
  on_run-append run [] b = refl
  on_run-append run (p ∷ a) b = ⊎_elim
      (λ (e : run_in p ≡ run). on_same run p (a ++ b) e ∙ ap (λ l. p ∷ l) (on_run-append run a b) ∙ ap (λ l. l ++ on_run run b) (sym (on_same run p a e)))
      (λ (n : run_in p ≡ run → ⊥). on_other run p (a ++ b) n ∙ on_run-append run a b ∙ ap (λ l. l ++ on_run run b) (sym (on_other run p a n)))
      (cases_eq (run_in p) run)

  -- one piece
  pub with_same : (runs : List (Held T C)) (p : Piece T C) (h : Held T C) → slice_get runs (run_in p) ≡ Some h
      → slice_get (with_piece runs p) (run_in p) ≡ Some (step_at h p)
  with_same runs p h at = ap (λ o. slice_get (set_in runs o p) (run_in p)) at ∙ slice_get-set_same runs (run_in p) (step_at h p) h at

  pub with_other_by : (runs : List (Held T C)) (p : Piece T C) (o : Option (Held T C)) (run : ℕ) → (run_in p ≡ run → ⊥)
      → slice_get (set_in runs o p) run ≡ slice_get runs run
  with_other_by runs p None run n = refl
  with_other_by runs p (Some h) run n = slice_get-set_other runs (run_in p) run (step_at h p) n

  pub length_by : (runs : List (Held T C)) (p : Piece T C) (o : Option (Held T C)) → length (set_in runs o p) ≡ length runs
  length_by runs p None = refl
  length_by runs p (Some h) = length-set runs (run_in p) (step_at h p)

  -- all pieces: each run ends as its own pieces leave it
  pub run_by_run : (runs : List (Held T C)) (ps : List (Piece T C)) (run : ℕ) (h : Held T C) → slice_get runs run ≡ Some h
      → slice_get (all_after runs ps) run ≡ Some (run_after h (on_run run ps))
  run_by_run runs [] run h at = at
  run_by_run runs (p ∷ ps) run h at = ⊎_elim
      (λ (e : run_in p ≡ run).
      let there : slice_get runs (run_in p) ≡ Some h = ap (slice_get runs) e ∙ at in
      run_by_run (with_piece runs p) ps run (step_at h p) (ap (slice_get (with_piece runs p)) (sym e) ∙ with_same runs p h there)
      ∙ ap (λ l. Some (run_after h l)) (sym (on_same run p ps e)))
      (λ (n : run_in p ≡ run → ⊥).
      run_by_run (with_piece runs p) ps run h (with_other_by runs p (slice_get runs (run_in p)) run n ∙ at)
      ∙ ap (λ l. Some (run_after h l)) (sym (on_other run p ps n)))
      (cases_eq (run_in p) run)

  pub length-all_after : (runs : List (Held T C)) (ps : List (Piece T C)) → length (all_after runs ps) ≡ length runs
  length-all_after runs [] = refl
  length-all_after runs (p ∷ ps) = length-all_after (with_piece runs p) ps ∙ length_by runs p (slice_get runs (run_in p))

  pub run_after-append : (h : Held T C) (a b : List (Piece T C)) → run_after h (a ++ b) ≡ run_after (run_after h a) b
  run_after-append h [] b = refl
  run_after-append h (p ∷ a) b = run_after-append (step_at h p) a b

  -- one more item in order
  item_after : (run : ℕ) (x : T) (xs : List T)
      → step_at {C = C} (record { bodies = enumerate_from 0 xs; tail = None }) (Item run (length xs) x)
      ≡ record { bodies = enumerate_from 0 (xs ++ x ∷ []); tail = None }
  item_after run x xs =
      ap (λ l. record { bodies = l; tail = None })
      (ap (λ l. insert_entry nat_cmp l (length xs) x) (sym (append-nil (enumerate_from 0 xs)))
      ∙ insert_next (length xs) x xs [] refl refl refl ∙ append-nil (enumerate_from 0 (xs ++ x ∷ [])))

  -- the items of a run, in their order, from any number on
  items_after : (run : ℕ) (item : ℕ → T) (n a : ℕ) (xs : List T) → a ≡ length xs
      → run_after {C = C} (record { bodies = enumerate_from 0 xs; tail = None }) (map (λ s. Item run s (item s)) (range_with_len a n))
      ≡ record { bodies = enumerate_from 0 (xs ++ map item (range_with_len a n)); tail = None }
  items_after run item zero a xs is = ap (λ l. record { bodies = enumerate_from 0 l; tail = None }) (sym (append-nil xs))
  items_after run item (suc n) a xs is =
      ap (λ h. run_after h (map (λ s. Item run s (item s)) (range_with_len (a + 1) n)))
      (ap (λ k. step_at {C = C} (record { bodies = enumerate_from 0 xs; tail = None }) (Item run k (item a))) is ∙ item_after run (item a) xs)
      ∙ items_after run item n (a + 1) (xs ++ item a ∷ []) (ap (λ k. k + 1) is ∙ sym (length_push xs (item a)))
      ∙ ap (λ l. record { bodies = enumerate_from 0 l; tail = None }) (append_assoc xs (item a ∷ []) (map item (range_with_len (a + 1) n)))

  -- a run's own pieces, as a work sends them, close it with its items and its tail
  pub run_after-pieces : (run : ℕ) (item : ℕ → T) (count : ℕ) (end : C)
      → run_after empty_run (pieces_of run item count end) ≡ closed_run (whole_run count item end)
  run_after-pieces run item count end =
      run_after-append empty_run (map (λ s. Item run s (item s)) (range_with_len 0 count)) (Close run count end ∷ [])
      ∙ ap (λ h. run_after h (Close run count end ∷ [])) (items_after run item count 0 [] refl)
