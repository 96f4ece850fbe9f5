-- Two lists with the same parcels of each sender are equally long.
use Rattle.std.proofs.Common.{◌≡◌, ℕ, zero, suc, ◌+◌, ◌<◌, ◌≤◌, List, [], ◌∷◌, ◌++◌, length, refl, sym, ap, ◌∙◌, subst, ⊎_elim, arith, append-nil, length-append}
use Rattle.std.proofs.lemmas.Bool.{cases_eq, cases_lt}
use Rattle.std.proofs.lemmas.List.{nil_from_length}
use mathlib.Core.Option.{some}
use lib.ListN.{get_elem?}
use Rattle.sarif_dispatch.specs.Senders.{of_sender}
use Rattle.sarif_dispatch.specs.Delivery.{Settles}
use Rattle.sarif_dispatch.proofs.Deliveries.{of_same, of_other}

module _ {P : Type 0} where
  -- how many parcels the senders below m have
  tally : ℕ → List (ℕ × P) → ℕ
  tally zero h = 0
  tally (suc m) h = tally m h + length (of_sender m h)

  tally-nil : (h : List (ℕ × P)) → h ≡ [] → (m : ℕ) → tally m h ≡ 0
  unfolding tally
  tally-nil h e zero = refl
  tally-nil h e (suc m) = λ i. tally-nil h e m i + length (of_sender m (e i))

  -- a parcel of a later sender isn't counted
  tally_past : (m : ℕ) (x : ℕ × P) (h : List (ℕ × P)) → m ≤ x.0 → tally m (x ∷ h) ≡ tally m h
  unfolding tally
  tally_past zero x h le = refl
  tally_past (suc m) x h le = λ i. tally_past m x h (omega arith) i + length (of_other x.0 m x.1 h (λ q. omega arith) i)

  tally_more : (m : ℕ) (x : ℕ × P) (h : List (ℕ × P)) → x.0 < m → tally m (x ∷ h) ≡ tally m h + 1
  unfolding tally
  tally_more zero x h lt = absurd (omega arith)
  tally_more (suc m) x h lt = ⊎_elim
      (λ (q : x.0 ≡ m). let same : length (of_sender m (x ∷ h)) ≡ suc (length (of_sender m h)) =
      subst (λ k. length (of_sender k (x ∷ h)) ≡ suc (length (of_sender k h))) q (ap length (of_same x.0 x.1 h)) in
      let past = tally_past m x h (omega arith) in omega arith)
      (λ (q : x.0 ≡ m → ⊥). let other = ap length (of_other x.0 m x.1 h q) in let more = tally_more m x h (omega (arith, q)) in omega arith)
      (cases_eq x.0 m)

  pub rest_of : (k : ℕ) (x : ℕ × P) (h : List (ℕ × P)) → of_sender k (x ∷ h) ≡ [] → of_sender k h ≡ []
  rest_of k x h none = ⊎_elim
      (λ (q : x.0 ≡ k). absurd
      (let e : x.1 ∷ of_sender k h ≡ [] = sym (subst (λ j. of_sender j (x ∷ h) ≡ x.1 ∷ of_sender j h) q (of_same x.0 x.1 h)) ∙ none in cc))
      (λ (q : x.0 ≡ k → ⊥). sym (of_other x.0 k x.1 h q) ∙ none)
      (cases_eq x.0 k)

  -- if no later sender has any, these are all
  tally_all : (m : ℕ) (h : List (ℕ × P)) → ((k : ℕ) → m ≤ k → of_sender k h ≡ []) → length h ≡ tally m h
  tally_all m [] none = sym (tally-nil [] refl m)
  tally_all m (x ∷ h) none = ⊎_elim
      (λ (lt : x.0 < m). let rest = tally_all m h (λ k le. rest_of k x h (none k le)) in let more = tally_more m x h lt in omega arith)
      (λ (le : m ≤ x.0). absurd (let e : x.1 ∷ of_sender x.0 h ≡ [] = sym (of_same x.0 x.1 h) ∙ none x.0 le in cc))
      (cases_lt x.0 m)

  tally_same : (m : ℕ) (a b : List (ℕ × P)) → ((k : ℕ) → k < m → of_sender k a ≡ of_sender k b) → tally m a ≡ tally m b
  unfolding tally
  tally_same zero a b same = refl
  tally_same (suc m) a b same = λ i. tally_same m a b (λ k lt. same k (omega arith)) i + length (same m (omega arith) i)

  -- two looks of the taker, with the same settled senders, who are all, see as many parcels
  pub same_length : (t t' : List (ℕ × P)) (m : ℕ) (s : List (ℕ × List P)) (items items' : List (ℕ × P))
      → ((k : ℕ) → k < m → (i : ℕ) × (l : List P) × (get_elem? s i ≡ some (k, l))) → Settles t m s items → Settles t' m s items'
      → length (t ++ items) ≡ length (t' ++ items')
  same_length t t' m s items items' all one two =
      tally_all m (t ++ items) one.strangers
      ∙ tally_same m (t ++ items) (t' ++ items') (λ k lt. let at = all k lt in sym (one.past at.0 k at.1 at.2) ∙ two.past at.0 k at.1 at.2)
      ∙ sym (tally_all m (t' ++ items') two.strangers)

  -- once as many were received as were there, nothing is left
  pub none_left : (t left items items' : List (ℕ × P)) (m : ℕ) (s : List (ℕ × List P))
      → ((k : ℕ) → k < m → (i : ℕ) × (l : List P) × (get_elem? s i ≡ some (k, l))) → Settles t m s items → Settles (t ++ left) m s items'
      → length left ≡ length items → Settles (t ++ left) m s []
  none_left t left items items' m s all one two len =
      let same = same_length t (t ++ left) m s items items' all one two in
      let none : items' ≡ [] = nil_from_length items' (omega (arith, length-append t items, length-append t left, length-append (t ++ left) items')) in
      subst (λ l. Settles (t ++ left) m s l) none two

  -- before that, something is left
  pub more_left : (t left items : List (ℕ × P)) (m : ℕ) (s : List (ℕ × List P))
      → ((k : ℕ) → k < m → (i : ℕ) × (l : List P) × (get_elem? s i ≡ some (k, l))) → Settles t m s items → Settles (t ++ left) m s []
      → length left < length items → ⊥
  more_left t left items m s all one two lt =
      let same = same_length t (t ++ left) m s items [] all one two in
      omega (arith, length-append t items, length-append t left, ap length (append-nil (t ++ left)))
