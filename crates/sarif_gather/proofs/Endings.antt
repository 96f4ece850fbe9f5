-- If an end of each worker was received, everything was received.
use Rattle.std.proofs.Common.{◌≡◌, ℕ, zero, suc, ◌+◌, ◌<◌, ◌≤◌, ◌⊎◌, false, List, [], ◌∷◌, ◌++◌, map, refl, sym, ap, ◌∙◌, subst, inl, inr, ⊎_elim, arith}
use Rattle.std.proofs.lemmas.Bool.{cases_eq, cases_lt}
use Rattle.std.proofs.lemmas.List.{map-append}
use Rattle.sarif_collect.specs.declared.piece.Piece.{Piece}
use Rattle.sarif_collect.specs.declared.piece.Parcel.{Parcel}
use Rattle.sarif_collect.specs.declared.piece.Parcel.TheVariants.{Carry, End}
use Rattle.sarif_collect.specs.Pieces.{ends_in, parcels_in}
use Rattle.sarif_dispatch.specs.Senders.{of_sender}
use Rattle.sarif_dispatch.proofs.Deliveries.{of_same, of_other, of-append}
use Rattle.sarif_collect.proofs.Parcels.{ends_in-append}
use Rattle.sarif_dispatch.proofs.Tallies.{rest_of}

module _ {T C : Type 0} where
  -- how many ends the senders below m have
  ends_below : ℕ → List (ℕ × Parcel T C) → ℕ
  ends_below zero h = 0
  ends_below (suc m) h = ends_below m h + ends_in (of_sender m h)

  ends_below-nil : (h : List (ℕ × Parcel T C)) → h ≡ [] → (m : ℕ) → ends_below m h ≡ 0
  unfolding ends_below
  ends_below-nil h e zero = refl
  ends_below-nil h e (suc m) = λ i. ends_below-nil h e m i + ends_in (of_sender m (e i))

  ends_past : (m : ℕ) (x : ℕ × Parcel T C) (h : List (ℕ × Parcel T C)) → m ≤ x.0 → ends_below m (x ∷ h) ≡ ends_below m h
  unfolding ends_below
  ends_past zero x h le = refl
  ends_past (suc m) x h le = λ i. ends_past m x h (omega arith) i + ends_in (of_other x.0 m x.1 h (λ q. omega arith) i)

  ends_more : (m : ℕ) (x : ℕ × Parcel T C) (h : List (ℕ × Parcel T C)) → x.0 < m → ends_below m (x ∷ h) ≡ ends_below m h + ends_in (x.1 ∷ [])
  unfolding ends_below
  ends_more zero x h lt = absurd (omega arith)
  ends_more (suc m) x h lt = ⊎_elim
      (λ (q : x.0 ≡ m).
      let same : ends_in (of_sender m (x ∷ h)) ≡ ends_in (x.1 ∷ []) + ends_in (of_sender m h) =
      subst (λ k. ends_in (of_sender k (x ∷ h)) ≡ ends_in (x.1 ∷ []) + ends_in (of_sender k h)) q
      (ap ends_in (of_same x.0 x.1 h) ∙ ends_in-append (x.1 ∷ []) (of_sender x.0 h)) in
      let past = ends_past m x h (omega arith) in omega arith)
      (λ (q : x.0 ≡ m → ⊥). let other = ap ends_in (of_other x.0 m x.1 h q) in let more = ends_more m x h (omega (arith, q)) in omega arith)
      (cases_eq x.0 m)

  ends_all : (m : ℕ) (h : List (ℕ × Parcel T C)) → ((k : ℕ) → m ≤ k → of_sender k h ≡ []) → ends_in (parcels_in h) ≡ ends_below m h
  ends_all m [] none = sym (ends_below-nil [] refl m)
  ends_all m (x ∷ h) none = ⊎_elim
      (λ (lt : x.0 < m). let rest = ends_all m h (λ k le. rest_of k x h (none k le)) in let more = ends_more m x h lt in let cons =
      ends_in-append (x.1 ∷ []) (parcels_in h) in omega arith)
      (λ (le : m ≤ x.0). absurd (let e : x.1 ∷ of_sender x.0 h ≡ [] = sym (of_same x.0 x.1 h) ∙ none x.0 le in cc))
      (cases_lt x.0 m)

  ends_each : (m : ℕ) (h : List (ℕ × Parcel T C)) → ((k : ℕ) → k < m → ends_in (of_sender k h) ≡ 1) → ends_below m h ≡ m
  unfolding ends_below
  ends_each zero h each = refl
  ends_each (suc m) h each = let rest = ends_each m h (λ k lt. each k (omega arith)) in let here = each m (omega arith) in omega arith

  nothing : (a b : List (Parcel T C)) → a ++ b ≡ [] → b ≡ []
  nothing [] b e = e
  nothing (x ∷ a) b e = absurd (cc)

  nothing_there : (a : List (Parcel T C)) (y : Parcel T C) (b : List (Parcel T C)) → a ++ y ∷ b ≡ [] → ⊥
  nothing_there [] y b e = cc
  nothing_there (z ∷ a) y b e = cc

  -- in a list whose only end is its last element, a suffix that is not empty contains the end
  end_is_last : (a b : List (Parcel T C)) (ps : List (Piece T C)) → a ++ b ≡ map Carry ps ++ End false ∷ [] → (b ≡ []) ⊎ (0 < ends_in b)
  end_is_last [] b [] e = inr (let n = ap ends_in e in omega arith)
  end_is_last [] b (p ∷ ps) e = inr (let n = ap ends_in e ∙ ends_in-append (map Carry ps) (End false ∷ []) in omega arith)
  end_is_last (q ∷ a) b [] e = inl (nothing a b (cc))
  end_is_last (q ∷ a) b (p ∷ ps) e = end_is_last a b ps (cc)

  ends_carried : (ps : List (Piece T C)) → ends_in (map Carry ps) ≡ 0
  ends_carried [] = refl
  ends_carried (p ∷ ps) = ends_carried ps

  ends_of : (k : ℕ) (h : List (ℕ × Parcel T C)) → ends_in (of_sender k h) ≤ ends_in (parcels_in h)
  ends_of k [] = omega arith
  ends_of k (x ∷ h) = ⊎_elim
      (λ (q : x.0 ≡ k). let same : ends_in (of_sender k (x ∷ h)) ≡ ends_in (x.1 ∷ []) + ends_in (of_sender k h) =
      subst (λ j. ends_in (of_sender j (x ∷ h)) ≡ ends_in (x.1 ∷ []) + ends_in (of_sender j h)) q
      (ap ends_in (of_same x.0 x.1 h) ∙ ends_in-append (x.1 ∷ []) (of_sender x.0 h)) in
      let cons = ends_in-append (x.1 ∷ []) (parcels_in h) in let rest = ends_of k h in omega arith)
      (λ (q : x.0 ≡ k → ⊥). let other = ap ends_in (of_other x.0 k x.1 h q) in let cons =
      ends_in-append (x.1 ∷ []) (parcels_in h) in let rest = ends_of k h in omega arith)
      (cases_eq x.0 k)

  -- each worker below m sent pieces and then its end, and m ends were received: then nothing is left
  pub all_taken : (m : ℕ) (taken left : List (ℕ × Parcel T C))
      → ((k : ℕ) → k < m → (ps : List (Piece T C)) × (of_sender k (taken ++ left) ≡ map Carry ps ++ End false ∷ []))
      → ((k : ℕ) → m ≤ k → of_sender k (taken ++ left) ≡ []) → ends_in (parcels_in taken) ≡ m → left ≡ []
  all_taken m taken [] each none ends = refl
  all_taken m taken (x ∷ left) each none ends =
      let one : (k : ℕ) → k < m → ends_in (of_sender k (taken ++ x ∷ left)) ≡ 1 = λ k lt. let s = each k lt in ap ends_in s.1
      ∙ ends_in-append (map Carry s.0) (End false ∷ []) ∙ ap (λ n. n + 1) (ends_carried s.0) in
      let sum = ends_all m (taken ++ x ∷ left) none ∙ ends_each m (taken ++ x ∷ left) one in
      let parts = ap ends_in (map-append (λ e. e.1) taken (x ∷ left)) ∙ ends_in-append (parcels_in taken) (parcels_in (x ∷ left)) in
      let mine : of_sender x.0 (taken ++ x ∷ left) ≡ of_sender x.0 taken ++ x.1 ∷ of_sender x.0 left = of-append x.0 taken (x ∷ left)
      ∙ ap (λ l. of_sender x.0 taken ++ l) (of_same x.0 x.1 left) in
      let low : x.0 < m = ⊎_elim (λ (lt : x.0 < m). lt)
      (λ (le : m ≤ x.0). absurd (nothing_there (of_sender x.0 taken) x.1 (of_sender x.0 left) (sym mine ∙ none x.0 le))) (cases_lt x.0 m) in
      let last = end_is_last (of_sender x.0 taken) (x.1 ∷ of_sender x.0 left) (each x.0 low).0 (sym mine ∙ (each x.0 low).1) in
      let among = ends_of x.0 (x ∷ left) in
      let here = ap ends_in (of_same x.0 x.1 left) in
      absurd (⊎_elim (λ (e : x.1 ∷ of_sender x.0 left ≡ []). cc) (λ (p : 0 < ends_in (x.1 ∷ of_sender x.0 left)). omega arith) last)
