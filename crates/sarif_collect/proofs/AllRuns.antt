-- All runs: arrivals are accepted, and close every run, if and only if they are lawful.
use Rattle.std.proofs.Common.{◌≡◌, ℕ, zero, suc, ◌+◌, ◌<◌, ◌≤◌, List, [], ◌∷◌, ◌++◌, map, length, replicate, Some, None, refl, sym, ap, ◌∙◌, subst, ⊎_elim, arith, zero-add}
use Rattle.std.specs.Prelude.{slice_get}
use Rattle.std.specs.List.{range_with_len, flat_map}
use Rattle.std.proofs.lemmas.Bool.{cases_eq, cases_lt}
use Rattle.std.proofs.lemmas.List.{length-map, length-replicate}
use Rattle.std.proofs.lemmas.Option.{slice_get_past, slice_get_within}
use Rattle.sarif_collect.specs.declared.piece.Piece.{Piece}
use Rattle.sarif_collect.specs.declared.piece.Why.{Why}
use Rattle.sarif_collect.specs.declared.piece.Why.TheVariants.{Stranger, OutOfMemory}
use Rattle.sarif_collect.specs.Arriving.{AllAccepted, IsFirstFault}
use Rattle.sarif_collect.specs.Collecting.{refusal_at, refusal_in, step_at, with_piece, run_after, all_after}
use Rattle.sarif_collect.specs.Held.{Held, Whole, empty_run, closed_run, first_open}
use Rattle.sarif_collect.specs.Lawful.{IsLawful, assembled_run, assembled}
use Rattle.sarif_collect.specs.Piece.{run_in}
use Rattle.sarif_collect.specs.Pieces.{on_run}
use Rattle.sarif_collect.proofs.Arrived.{taken_lacks}
use Rattle.sarif_collect.proofs.Lawfulness.{Accepted, AreOf, ends, whole_after, lawful_run, assembles, accepts_lawful}
use Rattle.sarif_dispatch.proofs.Places.{at_below, at_replicate, same_places, into_mapped}
use Rattle.sarif_collect.proofs.RunByRun.{on_same, on_other, with_same, with_other_by, length_by, run_by_run, length-all_after}
use Rattle.sarif_collect.proofs.Wholes.{closed_at, no_open, wholes_again}

module _ {T C : Type 0} where
  on_mine : (run : ℕ) (ps : List (Piece T C)) → AreOf run (on_run run ps)
  on_mine run [] = tt
  on_mine run (p ∷ ps) = ⊎_elim
      (λ (e : run_in p ≡ run). subst (AreOf run) (sym (on_same run p ps e)) (e, on_mine run ps))
      (λ (n : run_in p ≡ run → ⊥). subst (AreOf run) (sym (on_other run p ps n)) (on_mine run ps))
      (cases_eq (run_in p) run)

  -- if no arrival is rejected, no piece of any run is, and no arrival belongs to an unknown run
  run_accepted : (runs : List (Held T C)) (ps : List (Piece T C)) (run : ℕ) (h : Held T C) → slice_get runs run ≡ Some h
      → AllAccepted runs ps → Accepted h (on_run run ps)
  run_accepted runs [] run h at all = tt
  run_accepted runs (p ∷ ps) run h at all = ⊎_elim
      (λ (e : run_in p ≡ run).
      let there : slice_get runs (run_in p) ≡ Some h = ap (slice_get runs) e ∙ at in
      let first : refusal_at h p ≡ None = ap (λ o. refusal_in o p) (sym there) ∙ all.0 in
      let later : slice_get (with_piece runs p) run ≡ Some (step_at h p) = ap (slice_get (with_piece runs p)) (sym e) ∙ with_same runs p h there in
      subst (Accepted h) (sym (on_same run p ps e)) (first, run_accepted (with_piece runs p) ps run (step_at h p) later all.1))
      (λ (n : run_in p ≡ run → ⊥). subst (Accepted h) (sym (on_other run p ps n))
      (run_accepted (with_piece runs p) ps run h (with_other_by runs p (slice_get runs (run_in p)) run n ∙ at) all.1))
      (cases_eq (run_in p) run)

  no_stranger : (runs : List (Held T C)) (ps : List (Piece T C)) → AllAccepted runs ps → (run : ℕ) → length runs ≤ run → on_run run ps ≡ []
  no_stranger runs [] all run le = refl
  no_stranger runs (p ∷ ps) all run le = ⊎_elim
      (λ (e : run_in p ≡ run). absurd
      (let refused : Some Stranger ≡ None = ap (λ o. refusal_in o p) (sym (slice_get_past runs (run_in p) (omega (arith, e)))) ∙ all.0 in cc))
      (λ (n : run_in p ≡ run → ⊥). on_other run p ps n
      ∙ no_stranger (with_piece runs p) ps all.1 run (let same = length_by runs p (slice_get runs (run_in p)) in omega (arith, same)))
      (cases_eq (run_in p) run)

  -- if no piece of any run is rejected, and no arrival belongs to an unknown run, no arrival is rejected
  all_accepted : (runs : List (Held T C)) (ps : List (Piece T C)) → ((run : ℕ) → length runs ≤ run → on_run run ps ≡ [])
      → ((run : ℕ) (h : Held T C) → slice_get runs run ≡ Some h → Accepted h (on_run run ps)) → AllAccepted runs ps
  all_accepted runs [] known each = tt
  all_accepted runs (p ∷ ps) known each =
      let below : run_in p < length runs = ⊎_elim (λ (h : run_in p < length runs). h)
      (λ (h : length runs ≤ run_in p). absurd
      (let none : p ∷ on_run (run_in p) ps ≡ [] = sym (on_same (run_in p) p ps refl) ∙ known (run_in p) h in cc))
      (cases_lt (run_in p) (length runs)) in
      let here = at_below runs (run_in p) below in
      let mine : Accepted here.0 (p ∷ on_run (run_in p) ps) = subst (Accepted here.0) (on_same (run_in p) p ps refl) (each (run_in p) here.0 here.1) in
      let same = length_by runs p (slice_get runs (run_in p)) in (
        ap (λ o. refusal_in o p) here.1 ∙ mine.0,
        all_accepted (with_piece runs p) ps
            (λ run le. sym (on_other run p ps (λ q. omega (arith, same, below, q))) ∙ known run (omega (arith, same)))
            (λ run g at. ⊎_elim
            (λ (e : run_in p ≡ run).
            let now : Some g ≡ Some (step_at here.0 p) = sym at ∙ ap (slice_get (with_piece runs p)) (sym e) ∙ with_same runs p here.0 here.1 in
            let is : g ≡ step_at here.0 p = cc in
            subst (λ r. Accepted g (on_run r ps)) e (subst (λ k. Accepted k (on_run (run_in p) ps)) (sym is) mine.1))
            (λ (n : run_in p ≡ run → ⊥). subst (Accepted g) (on_other run p ps n)
            (each run g (sym (with_other_by runs p (slice_get runs (run_in p)) run n) ∙ at)))
            (cases_eq (run_in p) run)),
      )

-- one list element for each number
module _ {A : Type 0} (f : ℕ → List A) where
  ones_length : (n a : ℕ) → ((r : ℕ) → a ≤ r → r < a + n → (w : A) × (f r ≡ w ∷ [])) → length (flat_map f (range_with_len a n)) ≡ n
  ones_length zero a each = refl
  ones_length (suc n) a each =
      let first = each a (omega arith) (omega arith) in
      ap (λ l. length (l ++ flat_map f (range_with_len (a + 1) n))) first.1 ∙ ap suc (ones_length n (a + 1) (λ r low high. each r (omega arith) (omega arith)))

  ones_at : (n a : ℕ) → ((r : ℕ) → a ≤ r → r < a + n → (w : A) × (f r ≡ w ∷ [])) → (k : ℕ) (w : A) → k < n → f (a + k) ≡ w ∷ []
      → slice_get (flat_map f (range_with_len a n)) k ≡ Some w
  ones_at zero a each k w lt is = absurd (omega arith)
  ones_at (suc n) a each zero w lt is =
      let at_a : a + 0 ≡ a = omega arith in
      ap (λ l. slice_get (l ++ flat_map f (range_with_len (a + 1) n)) 0) (ap f (sym at_a) ∙ is)
  ones_at (suc n) a each (suc k) w lt is =
      let first = each a (omega arith) (omega arith) in
      let next : a + 1 + k ≡ a + suc k = omega arith in
      ap (λ l. slice_get (l ++ flat_map f (range_with_len (a + 1) n)) (suc k)) first.1
      ∙ ones_at n (a + 1) (λ r low high. each r (omega arith) (omega arith)) k w (omega arith) (ap f next ∙ is)

module _ {T C : Type 0} (runs : ℕ) (arrivals : List (Piece T C)) where
  empty_at : (run : ℕ) (h : Held T C) → slice_get (replicate runs empty_run) run ≡ Some h → (run < runs) × (h ≡ empty_run)
  empty_at run h at =
      let low : run < runs =
      (let within = slice_get_within (replicate runs empty_run) run h at in let len =
      length-replicate {A = Held T C} runs empty_run in omega (arith, within, len)) in
      let same : Some h ≡ Some empty_run = sym at ∙ at_replicate runs run empty_run low in
      (low, cc)

  -- accepted arrivals that close every run are lawful
  pub accepted_lawful : AllAccepted (replicate runs empty_run) arrivals → first_open (all_after (replicate runs empty_run) arrivals) ≡ None
      → IsLawful runs arrivals
  accepted_lawful all closed = record {
    strangers = λ run le. no_stranger (replicate runs empty_run) arrivals all run
        (let len = length-replicate {A = Held T C} runs empty_run in omega (arith, len));
    each = λ run lt.
        let at = at_replicate {A = Held T C} runs run empty_run lt in
        let ok = run_accepted (replicate runs empty_run) arrivals run empty_run at all in
        let last = run_by_run (replicate runs empty_run) arrivals run empty_run at in
        let whole = whole_after [] (on_run run arrivals) ok
        (closed_at 0 (all_after (replicate runs empty_run) arrivals) closed run (run_after empty_run (on_run run arrivals)) last) in
        lawful_run run (on_run run arrivals) whole.0
        (ends run [] [] (on_run run arrivals) whole.0 (record { len = refl; at = λ k. refl }) (on_mine run arrivals) ok whole.1);
  }

  module _ (lawful : IsLawful runs arrivals) where
    -- lawful arrivals are accepted
    pub lawful_accepted : AllAccepted (replicate runs empty_run) arrivals
    lawful_accepted = all_accepted (replicate runs empty_run) arrivals
        (λ run le. lawful.strangers run (let len = length-replicate {A = Held T C} runs empty_run in omega (arith, len)))
        (λ run h at. let e = empty_at run h at in subst (λ k. Accepted k (on_run run arrivals)) (sym e.1)
        (accepts_lawful run (on_run run arrivals) (lawful.each run e.0)).0)

    -- and leave each run closed, as it is assembled
    whole : (run : ℕ) → run < runs
        → (w : Whole T C) × (run_after empty_run (on_run run arrivals) ≡ closed_run w) × (assembled_run (on_run run arrivals) ≡ w ∷ [])
    whole run lt =
        let ok = accepts_lawful run (on_run run arrivals) (lawful.each run lt) in
        let w = whole_after [] (on_run run arrivals) ok.0 ok.1 in
        let e = ends run [] [] (on_run run arrivals) w.0 (record { len = refl; at = λ k. refl }) (on_mine run arrivals) ok.0 w.1 in
        (w.0, w.1, assembles run (on_run run arrivals) w.0 e)

    pub lawful_held : all_after (replicate runs empty_run) arrivals ≡ map closed_run (assembled runs arrivals)
    lawful_held =
        let own : ℕ → List (Whole T C) = λ run. assembled_run (on_run run arrivals) in
        let each : (r : ℕ) → 0 ≤ r → r < 0 + runs → (w : Whole T C) × (own r ≡ w ∷ []) = λ r low high. let w = whole r (omega arith) in (w.0, w.2) in
        let len : length (all_after (replicate runs empty_run) arrivals) ≡ runs = length-all_after (replicate runs empty_run) arrivals
        ∙ length-replicate runs empty_run in
        same_places (all_after (replicate runs empty_run) arrivals) (map closed_run (assembled runs arrivals))
        (len ∙ sym (length-map (assembled runs arrivals) closed_run ∙ ones_length own runs 0 each))
        (λ run lt. let low : run < runs = omega (arith, len) in
        let w = whole run low in
        let place : 0 + run ≡ run = zero-add run in
        run_by_run (replicate runs empty_run) arrivals run empty_run (at_replicate runs run empty_run low)
        ∙ ap (λ h. Some h) w.1
        ∙ sym (into_mapped closed_run (assembled runs arrivals) run w.0 (ones_at own runs 0 each run w.0 low (ap own place ∙ w.2))))

    pub lawful_closed : first_open (all_after (replicate runs empty_run) arrivals) ≡ None
    lawful_closed = ap first_open lawful_held ∙ no_open (assembled runs arrivals)

-- properties of arrivals
module _ {T C : Type 0} (runs : ℕ) (arrivals ps : List (Piece T C)) (is : arrivals ≡ ps) where
  pub told_lists : (lists : List (Whole T C)) → AllAccepted (replicate runs empty_run) ps
      → all_after (replicate runs empty_run) ps ≡ map closed_run lists → IsLawful runs arrivals × (lists ≡ assembled runs arrivals)
  told_lists lists all held =
      let lawful = accepted_lawful runs arrivals (subst (AllAccepted (replicate runs empty_run)) (sym is) all)
      (ap (λ l. first_open (all_after (replicate runs empty_run) l)) is ∙ ap first_open held ∙ no_open lists) in
      (lawful, wholes_again lists (assembled runs arrivals) (sym held ∙ ap (all_after (replicate runs empty_run)) (sym is) ∙ lawful_held runs arrivals lawful))

module _ {T C : Type 0} (runs : ℕ) (arrivals : List (Piece T C)) where
  pub told_fault : (at : ℕ) (why : Why) → IsFirstFault (replicate runs empty_run) arrivals at why → IsLawful runs arrivals → why ≡ OutOfMemory
  told_fault at why first lawful =
      taken_lacks (replicate runs empty_run) arrivals at why (lawful_accepted runs arrivals lawful)
      (lawful_closed runs arrivals lawful) first.here
