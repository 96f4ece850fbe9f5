-- Spans by their first lines.
use Rattle.std.proofs.Common.{◌≡◌, ◌≤◌, ◌<◌, ◌-◌, ◌+◌, ℕ, max, suc, zero, Bool, true, false, ◌&&◌, ◌||◌, leb, List, [], ◌∷◌, ◌++◌, length, get_or, drop, refl, sym, ap, ◌∙◌, arith, Option, Some, None}
use Rattle.std.specs.Prelude.{nat_le}
use Rattle.std.specs.List.{list_any}
use Rattle.std.specs.List.Sorted.{IsNonDecreasingBy, IsPartitionPoint, IsPermutation}
use Rattle.std.proofs.Math.Bool.{or_comm}
use Rattle.std.proofs.lemmas.Bool.{true≢false}
use Rattle.std.proofs.lemmas.Bool.Decides.{nat_tests}
use Rattle.std.proofs.lemmas.List.{get_or_default, append_assoc, drop_more}
use Rattle.std.proofs.lemmas.List.Folds.{list_any_none, list_any_at, list_any-append}
use Rattle.std.proofs.lemmas.List.Sorted.{IsNonDecreasingBy-drop, list_any-IsPermutation}
use Rattle.sarif_diff.specs.declared.section.Span.{Span}
use Rattle.sarif_change.specs.Meeting.{touches}
use Rattle.sarif_change.specs.Internal.Files.{changed_at}
use Rattle.sarif_change.specs.Internal.Raised.{raised}

-- ---- numbers that rise, by cases

abbrev Rises : {X : Type 0} → (X → ℕ) → ℕ → List X → Type 0
Rises n low [] = Unit {0}
Rises n low (x ∷ xs) = (low ≤ n x) × Rises n (n x) xs

rises_after : {X : Type 0} (n : X → ℕ) (x : X) (xs : List X) → IsNonDecreasingBy n (x ∷ xs) → Rises n (n x) xs
rises_after n x [] h = tt
rises_after n x (y ∷ ys) h = (h 0 1 x (omega arith) (omega arith), rises_after n y ys (IsNonDecreasingBy-drop n 1 (x ∷ y ∷ ys) h))

rises : {X : Type 0} (n : X → ℕ) (xs : List X) → IsNonDecreasingBy n xs → Rises n 0 xs
rises n [] h = tt
rises n (x ∷ xs) h = (omega arith, rises_after n x xs h)

above : {X : Type 0} (n : X → ℕ) (low : ℕ) (xs : List X) → Rises n low xs → (j : ℕ) (d : X) → j < length xs → low ≤ n (get_or xs j d)
above n low [] h j d within = absurd (omega arith)
above n low (x ∷ xs) h zero d within = h.0
above n low (x ∷ xs) h (suc j) d within = omega (arith, h.0, above n (n x) xs h.1 j d (omega arith))

falls_never : {X : Type 0} (n : X → ℕ) (low : ℕ) (xs : List X) → Rises n low xs → IsNonDecreasingBy n xs
falls_never n low [] h i j d order within = absurd (omega arith)
falls_never n low (x ∷ xs) h zero zero d order within = omega arith
falls_never n low (x ∷ xs) h zero (suc j) d order within = above n (n x) xs h.1 j d (omega arith)
falls_never n low (x ∷ xs) h (suc i) zero d order within = absurd (omega arith)
falls_never n low (x ∷ xs) h (suc i) (suc j) d order within = falls_never n (n x) xs h.1 i j d (omega arith) (omega arith)

-- ---- raised spans

firsts_rise : (low most : ℕ) (ss : List Span) → Rises (λ (s : Span). s.first) low ss → Rises (λ (s : Span). s.first) low (raised most ss)
firsts_rise low most [] h = tt
firsts_rise low most (s ∷ ss) h = (h.0, firsts_rise s.first (max most s.last) ss h.1)

lasts_rise : (most : ℕ) (ss : List Span) → Rises (λ (s : Span). s.last) most (raised most ss)
lasts_rise most [] = tt
lasts_rise most (s ∷ ss) = (omega arith, lasts_rise (max most s.last) ss)

pub raised_first : (spans : List Span) → IsNonDecreasingBy (λ s. s.first) spans → IsNonDecreasingBy (λ s. s.first) (raised 0 spans)
raised_first spans h = falls_never _ 0 _ (firsts_rise 0 0 spans (rises _ spans h))

pub raised_last : (spans : List Span) → IsNonDecreasingBy (λ s. s.last) (raised 0 spans)
raised_last spans = falls_never _ 0 _ (lasts_rise 0 spans)

covered : (low first most last asked_first asked_last : ℕ) → low ≤ first → (nat_le low asked_last && nat_le asked_first most) ≡ false
    → (nat_le first asked_last && nat_le asked_first (max most last)) ≡ (nat_le first asked_last && nat_le asked_first last)
covered low first most last asked_first asked_last order not_before = grind (arith, nat_tests)

or_true : (a : Bool) → (a || true) ≡ true
or_true true = refl
or_true false = refl

step : (a t u A B : Bool) → (u ≡ false → a ≡ t) → (A || a) ≡ (B || a) → ((a || A) || u) ≡ ((t || B) || u)
step a t true A B same rest = or_true (a || A) ∙ sym (or_true (t || B))
step a t false A B same rest =
    let is : a ≡ t = same refl in
    ap (λ x. x || false) (or_comm a A ∙ (rest ∙ (or_comm B a ∙ ap (λ x. x || B) is)))

same_after : (low most : ℕ) (ss : List Span) (l : Span) → Rises (λ (s : Span). s.first) low ss
    → (list_any (touches l) (raised most ss) || touches l (record { first = low; last = most }))
    ≡ (list_any (touches l) ss || touches l (record { first = low; last = most }))
same_after low most [] l h = refl
same_after low most (s ∷ ss) l h =
    step (touches l (record { first = s.first; last = max most s.last })) (touches l s) (touches l (record { first = low; last = most }))
    (list_any (touches l) (raised (max most s.last) ss)) (list_any (touches l) ss)
    (covered low s.first most s.last l.first l.last h.0)
    (same_after s.first (max most s.last) ss l h.1)

same_all : (s : Span) (ss : List Span) (l : Span) → Rises (λ (s : Span). s.first) s.first ss
    → (touches l s || list_any (touches l) (raised s.last ss)) ≡ (touches l s || list_any (touches l) ss)
same_all s ss l h =
    or_comm (touches l s) (list_any (touches l) (raised s.last ss))
    ∙ (same_after s.first s.last ss l h ∙ or_comm (list_any (touches l) ss) (touches l s))

max_zero : (n : ℕ) → max 0 n ≡ n
max_zero n = omega arith

raised_any : (spans : List Span) (l : Span) → IsNonDecreasingBy (λ s. s.first) spans → list_any (touches l) (raised 0 spans) ≡ list_any (touches l) spans
raised_any [] l h = refl
raised_any (s ∷ ss) l h = rw (max_zero s.last) (same_all s ss l (rises_after _ s ss h))

pub raised_same : (whole : Bool) (given sorted : List Span) (lines : Option Span) → IsPermutation given sorted → IsNonDecreasingBy (λ s. s.first) sorted
    → changed_at lines (whole, raised 0 sorted) ≡ changed_at lines (whole, given)
raised_same whole given sorted None p h = refl
raised_same whole given sorted (Some l) p h =
    ap (λ b. whole || b) (raised_any sorted l h ∙ sym (list_any-IsPermutation (touches l) given sorted p))

-- ---- the spans of two files

either_of : (a b A B : Bool) → ((a || b) || (A || B)) ≡ ((a || A) || (b || B))
either_of true b A B = refl
either_of false true A B = sym (or_true A)
either_of false false A B = refl

pub both_at : (a b : Bool) (xs ys : List Span) (lines : Option Span)
    → changed_at lines (a || b, xs ++ ys) ≡ (changed_at lines (a, xs) || changed_at lines (b, ys))
both_at a b xs ys None = refl
both_at a b xs ys (Some l) =
    ap (λ x. (a || b) || x) (list_any-append (touches l) xs ys) ∙ either_of a b (list_any (touches l) xs) (list_any (touches l) ys)

-- ---- a span that is found

and_true : (a b : Bool) → a ≡ true → b ≡ true → (a && b) ≡ true
and_true a b h i = rw (h, i) refl

no_other : (a b : Bool) → (a ≡ true → b ≡ false) → (a && b) ≡ false
no_other true b h = h refl
no_other false b h = refl

smaller : (first last greatest : ℕ) → leb first greatest ≡ false → last ≤ greatest → leb first last ≡ false
smaller first last greatest h order = grind (arith, nat_tests)

pub none_before : (spans : List Span) (l : Span) → IsPartitionPoint (λ s. leb s.first l.last ≡ true) (λ s. leb s.first l.last ≡ false) spans 0
    → false ≡ list_any (touches l) spans
none_before spans l h = sym (list_any_none (touches l) spans (λ k d within. rw (h.1 k d (omega arith) within) refl))

pub reached : (spans : List Span) (l : Span) (count : ℕ) (d : Span)
    → IsPartitionPoint (λ s. leb s.first l.last ≡ true) (λ s. leb s.first l.last ≡ false) spans count → IsNonDecreasingBy (λ s. s.last) spans
    → 0 < count → count ≤ length spans → leb l.first (get_or spans (count - 1) d).last ≡ list_any (touches l) spans
reached spans l count d h rise some within =
    (elim (leb l.first (get_or spans (count - 1) d).last) as (λ b. leb l.first (get_or spans (count - 1) d).last ≡ b → b ≡ list_any (touches l) spans) [
      | true ↦ λ is. sym (list_any_at (touches l) spans (count - 1) d (omega arith)
          (and_true (leb (get_or spans (count - 1) d).first l.last) (leb l.first (get_or spans (count - 1) d).last)
          (h.0 (count - 1) d (omega arith) (omega arith)) is))
      | false ↦ λ is. sym (list_any_none (touches l) spans (λ k e inside.
          no_other (leb (get_or spans k e).first l.last) (leb l.first (get_or spans k e).last) (λ begins.
          let place : k < count = omega (arith, λ (p : count ≤ k). true≢false (sym begins ∙ h.1 k e p inside)) in
          let same : (get_or spans (count - 1) e).last ≡ (get_or spans (count - 1) d).last =
          ap (λ (s : Span). s.last) (get_or_default spans (count - 1) e d (omega arith)) in
          smaller l.first (get_or spans k e).last (get_or spans (count - 1) d).last is
          (omega (arith, rise k (count - 1) e (omega arith) (omega arith), same)))))
    ]) refl

-- ---- the spans, one by one, as a loop raises them

pub raise_goes : (made spans : List Span) (i most : ℕ) (x : Span) → i < length spans
    → (made ++ record { first = (get_or spans i x).first; last = max most (get_or spans i x).last } ∷ [])
    ++ raised (max most (get_or spans i x).last) (drop (i + 1) spans)
    ≡ made ++ raised most (drop i spans)
raise_goes made spans i most x within = rw (drop_more spans i x within) (append_assoc made _ _)
