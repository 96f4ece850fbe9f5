-- Arrivals at a collector, in order.
use Rattle.std.proofs.Common.{◌≡◌, inr, ℕ, zero, suc, cond, Bool, true, false, List, [], ◌∷◌, ◌++◌, length, take, Option, Some, None, refl, sym, ap, ◌∙◌, subst, arith}
use Rattle.std.specs.Prelude.{slice_get}
use Rattle.std.proofs.lemmas.List.{take_at, take_all}
use Rattle.sarif_collect.specs.declared.piece.Piece.{Piece}
use Rattle.sarif_collect.specs.declared.piece.Piece.TheVariants.{Item, Close}
use Rattle.sarif_collect.specs.declared.piece.Why.{Why}
use Rattle.sarif_collect.specs.declared.piece.Why.TheVariants.{Stranger, AfterClose, Double, Short, OutOfMemory, Unclosed}
use Rattle.sarif_collect.specs.Arriving.{AllAccepted, RefusesAt, FaultHere, IsFirstFault}
use Rattle.sarif_collect.specs.Collecting.{refusal_of, refusal_in, refusal_by_tail, refusal_of_open, with_piece, all_after, IsReason}
use Rattle.sarif_collect.specs.Held.{Held, first_open}
use Rattle.sarif_collect.specs.Numbers.{has_number, counts_up}
use Rattle.sarif_collect.specs.Piece.{run_in}

-- the reasons that no piece has
abbrev Later : Why → Type 0
Later Stranger = ⊥
Later AfterClose = ⊥
Later Double = ⊥
Later Short = ⊥
Later OutOfMemory = Unit {0}
Later (Unclosed n) = Unit {0}

never_is : (x w : Why) → (Later x → ⊥) → Later w → Some x ≡ Some w → ⊥
never_is x w none late e = let same : x ≡ w = cc in none (subst Later (sym same) late)

never_by : (b : Bool) (w : Why) → Later w → cond b (Some Double) None ≡ Some w → ⊥
never_by true w late e = never_is Double w (λ l. l) late e
never_by false w late e = cc

never_short : (b : Bool) (w : Why) → Later w → cond b None (Some Short) ≡ Some w → ⊥
never_short true w late e = cc
never_short false w late e = never_is Short w (λ l. l) late e

module _ {T C : Type 0} where
  pub accepted_push : (runs : List (Held T C)) (ps : List (Piece T C)) (p : Piece T C) → AllAccepted runs ps
      → refusal_of (all_after runs ps) p ≡ None → AllAccepted runs (ps ++ p ∷ [])
  accepted_push runs [] p all none = (none, tt)
  accepted_push runs (q ∷ ps) p all none = (all.0, accepted_push (with_piece runs q) ps p all.1 none)

  at_length : (ps : List (Piece T C)) (p : Piece T C) (rest : List (Piece T C)) → slice_get (ps ++ p ∷ rest) (length ps) ≡ Some p
  at_length [] p rest = refl
  at_length (q ∷ ps) p rest = at_length ps p rest

  -- a reason against a piece is neither that memory ran out nor that a run has no close
  never_open : (bodies : List (ℕ × T)) (p : Piece T C) (w : Why) → Later w → refusal_of_open bodies p ≡ Some w → ⊥
  never_open bodies (Item run seq body) w late e = never_by (has_number seq bodies) w late e
  never_open bodies (Close run count tail) w late e = never_short (counts_up 0 count bodies) w late e

  never_tail : (t : Option C) (bodies : List (ℕ × T)) (p : Piece T C) (w : Why) → Later w → refusal_by_tail t bodies p ≡ Some w → ⊥
  never_tail None bodies p w late e = never_open bodies p w late e
  never_tail (Some t) bodies p w late e = never_is AfterClose w (λ l. l) late e

  never : (o : Option (Held T C)) (p : Piece T C) (w : Why) → Later w → refusal_in o p ≡ Some w → ⊥
  never None p w late e = never_is Stranger w (λ l. l) late e
  never (Some h) p w late e = never_tail h.tail h.bodies p w late e

  -- the first rejected arrival
  module _ (runs : List (Held T C)) (arrivals ps : List (Piece T C)) (p : Piece T C) (rest : List (Piece T C))
      (is : arrivals ≡ ps ++ p ∷ rest) (at : ℕ) (len : at ≡ length ps) (all : AllAccepted runs ps) where
    taken_before : take at arrivals ≡ ps
    taken_before = ap (take at) is ∙ take_at ps (p ∷ rest) at (sym len)

    there : slice_get arrivals at ≡ Some p
    there = (λ i. slice_get (is i) (len i)) ∙ at_length ps p rest

    refused_as : (why : Why) → refusal_of (all_after runs ps) p ≡ Some why → RefusesAt runs arrivals at why
    refused_as why e = (p, there, ap (λ l. refusal_of (all_after runs l) p) taken_before ∙ e)

    here : (why : Why) → refusal_of (all_after runs ps) p ≡ Some why → FaultHere runs arrivals at why
    here Stranger e = refused_as Stranger e
    here AfterClose e = refused_as AfterClose e
    here Double e = refused_as Double e
    here Short e = refused_as Short e
    here OutOfMemory e = absurd (never (slice_get (all_after runs ps) (run_in p)) p OutOfMemory tt e)
    here (Unclosed n) e = absurd (never (slice_get (all_after runs ps) (run_in p)) p (Unclosed n) tt e)

    by_reason : (o : Option Why) (why : Why) → refusal_of (all_after runs ps) p ≡ o → IsReason o why → FaultHere runs arrivals at why
    by_reason None why e r = subst (FaultHere runs arrivals at) (sym r) (inr (p, there, ap (λ l. refusal_of (all_after runs l) p) taken_before ∙ e))
    by_reason (Some x) why e r = subst (FaultHere runs arrivals at) (sym r) (here x e)

    pub first_refused : (why : Why) → IsReason (refusal_of (all_after runs ps) p) why → IsFirstFault runs arrivals at why
    first_refused why r = record {
      before = subst (AllAccepted runs) (sym taken_before) all;
      here = by_reason (refusal_of (all_after runs ps) p) why refl r;
    }

  -- all were accepted, and a run has no close
  pub left_open : (runs : List (Held T C)) (arrivals ps : List (Piece T C)) → arrivals ≡ ps → (at : ℕ) → at ≡ length ps
      → AllAccepted runs ps → (run : ℕ) → first_open (all_after runs ps) ≡ Some run → IsFirstFault runs arrivals at (Unclosed run)
  left_open runs arrivals ps is at len all run open_run = record {
    before = subst (AllAccepted runs) (sym (ap (take at) is ∙ take_all at ps (omega arith))) all;
    here = (len ∙ ap length (sym is), ap (λ l. first_open (all_after runs l)) is ∙ open_run);
  }

  -- if all are accepted, none is rejected at any position
  taken_at : (runs : List (Held T C)) (arrivals : List (Piece T C)) (at : ℕ) (why : Why) → AllAccepted runs arrivals → RefusesAt runs arrivals at why → ⊥
  taken_at runs [] at why all refused = let e = refused.1 in cc
  taken_at runs (p ∷ ps) zero why all refused =
      let same : p ≡ refused.0 = (let e : Some p ≡ Some refused.0 = refused.1 in cc) in
      let e : None ≡ Some why = sym all.0 ∙ ap (refusal_of runs) same ∙ refused.2 in cc
  taken_at runs (p ∷ ps) (suc at) why all refused = taken_at (with_piece runs p) ps at why all.1 refused

  -- arrivals with an error are rejected, or leave a run open, unless memory ran out
  pub taken_lacks : (runs : List (Held T C)) (arrivals : List (Piece T C)) (at : ℕ) (why : Why) → AllAccepted runs arrivals
      → first_open (all_after runs arrivals) ≡ None → FaultHere runs arrivals at why → why ≡ OutOfMemory
  taken_lacks runs arrivals at OutOfMemory all closed here = refl
  taken_lacks runs arrivals at (Unclosed run) all closed here = absurd (let e : Some run ≡ None = sym here.1 ∙ closed in cc)
  taken_lacks runs arrivals at Stranger all closed here = absurd (taken_at runs arrivals at Stranger all here)
  taken_lacks runs arrivals at AfterClose all closed here = absurd (taken_at runs arrivals at AfterClose all here)
  taken_lacks runs arrivals at Double all closed here = absurd (taken_at runs arrivals at Double all here)
  taken_lacks runs arrivals at Short all closed here = absurd (taken_at runs arrivals at Short all here)
