-- Two results have one finding if and only if they are one result or are alike.
use Rattle.std.proofs.Common.{◌≡◌, ℕ, zero, suc, ◌+◌, ◌≤◌, ◌<◌, ◌⊎◌, inl, inr, Bool, true, false, ◌&&◌, if◌then◌else◌, List, [], ◌∷◌, ◌++◌, take, drop, length, Option, Some, None, unwrap_or, refl, sym, ap, subst, ◌∙◌, add-zero, append_assoc, arith}
use Rattle.std.specs.Prelude.{option_map, slice_get}
use Rattle.std.proofs.lemmas.Bool.{false≢true, and_from, and_parts}
use Rattle.std.proofs.lemmas.List.{append-nil}
use Rattle.sarif_model.specs.declared.record.Record.{Record}
use Rattle.sarif_copies.specs.Copies.{are_alike, finding_of, findings_after, findings_of, first_alike, has_line, record_eq}
use Rattle.sarif_copies.proofs.Alike.{own_finding}
use Rattle.sarif_copies.proofs.EqualRecords.{record_refl, record_same}

some_is : {A : Type 0} (x y : A) → ◌≡◌ {A = Option A} (Some x) (Some y) → x ≡ y
some_is x y is = cc

-- ---- two results that are alike

alike_parts : (a b : Record) → are_alike a b ≡ true → (has_line a ≡ true) × (has_line b ≡ true) × (a ≡ b)
alike_parts a b e =
    let first = and_parts (has_line a) (has_line b && record_eq a b) e in
    let rest = and_parts (has_line b) (record_eq a b) first.1 in
    (first.0, rest.0, record_same a b rest.1)

alike_itself : (a : Record) → has_line a ≡ true → are_alike a a ≡ true
alike_itself a line =
    and_from (has_line a) (has_line a && record_eq a a) line (and_from (has_line a) (record_eq a a) line (record_refl a))

-- ---- the finding at a position

finding_at : (before rs : List Record) (i : ℕ) → slice_get (findings_after before rs) i ≡ option_map (finding_of (before ++ take i rs)) (slice_get rs i)
finding_at before [] i = refl
finding_at before (r ∷ rs) zero = ap (λ l. Some (finding_of l r)) (sym (append-nil before))
finding_at before (r ∷ rs) (suc i) =
    finding_at (before ++ r ∷ []) rs i
    ∙ ap (λ l. option_map (finding_of l) (slice_get rs i)) (append_assoc before (r ∷ []) (take i rs))

split_at : (rs : List Record) (i : ℕ) (a : Record) → slice_get rs i ≡ Some a → rs ≡ take i rs ++ a ∷ drop (suc i) rs
split_at [] i a is = let never : ⊥ = cc in absurd never
split_at (r ∷ rs) zero a is = ap (λ x. x ∷ rs) (some_is r a is)
split_at (r ∷ rs) (suc i) a is = ap (λ l. r ∷ l) (split_at rs i a is)

taken_long : (rs : List Record) (i : ℕ) (a : Record) → slice_get rs i ≡ Some a → length (take i rs) ≡ i
taken_long [] i a is = let never : ⊥ = cc in absurd never
taken_long (r ∷ rs) zero a is = refl
taken_long (r ∷ rs) (suc i) a is = ap suc (taken_long rs i a is)

-- a result is alike to itself at the latest
reached_by : (b : Bool) (n m k : ℕ) (qs more : Option ℕ) → m ≡ k → more ≡ Some (unwrap_or qs m)
    → (if b then Some n else more) ≡ Some (unwrap_or (if b then Some n else qs) k)
reached_by true n m k qs more place rest = refl
reached_by false n m k qs more place rest = rest ∙ ap (λ p. Some (unwrap_or qs p)) place

reached_from : (a : Record) (n : ℕ) (before rest : List Record) → are_alike a a ≡ true
    → first_alike a n (before ++ a ∷ rest) ≡ Some (unwrap_or (first_alike a n before) (n + length before))
reached_from a n [] rest itself =
    ap (λ b. if b then Some n else first_alike a (n + 1) rest) itself ∙ ap Some (sym (add-zero n))
reached_from a n (q ∷ qs) rest itself =
    let place : n + 1 + length qs ≡ n + suc (length qs) = omega arith in
    reached_by (are_alike q a) n (n + 1 + length qs) (n + suc (length qs)) (first_alike a (n + 1) qs)
    (first_alike a (n + 1) (qs ++ a ∷ rest)) place (reached_from a (n + 1) qs rest itself)

reached : (a : Record) (before rest : List Record) → are_alike a a ≡ true → first_alike a 0 (before ++ a ∷ rest) ≡ Some (finding_of before a)
reached a before rest itself =
    let place : 0 + length before ≡ length before = omega arith in
    reached_from a 0 before rest itself ∙ ap (λ m. Some (unwrap_or (first_alike a 0 before) m)) place

-- what is found is alike
abbrev IsFoundAt : Record → ℕ → List Record → ℕ → Type 0
IsFoundAt r n rs j =
    (i : ℕ) × (n + i ≡ j) × (i < length rs) × (q : Record) × (slice_get rs i ≡ Some q) × (are_alike q r ≡ true)

found_by : (b : Bool) (r : Record) (n : ℕ) (q : Record) (qs : List Record) (j : ℕ) → are_alike q r ≡ b
    → (first_alike r (n + 1) qs ≡ Some j → IsFoundAt r (n + 1) qs j)
    → (if b then Some n else first_alike r (n + 1) qs) ≡ Some j → IsFoundAt r n (q ∷ qs) j
found_by true r n q qs j alike later found = (0, add-zero n ∙ some_is n j found, omega arith, q, refl, alike)
found_by false r n q qs j alike later found =
    let rest = later found in
    let place : n + suc rest.0 ≡ j = omega (arith, rest.1) in
    let within : suc rest.0 < suc (length qs) = omega (arith, rest.2) in
    (suc rest.0, place, within, rest.3, rest.4, rest.5)

found_alike : (r : Record) (n : ℕ) (rs : List Record) (j : ℕ) → first_alike r n rs ≡ Some j → IsFoundAt r n rs j
found_alike r n [] j is = let never : ⊥ = cc in absurd never
found_alike r n (q ∷ qs) j is = found_by (are_alike q r) r n q qs j refl (found_alike r (n + 1) qs j) is

module _ (rs : List Record) where
  -- the finding of a result
  is_finding : (i m : ℕ) (a : Record) → slice_get rs i ≡ Some a → slice_get (findings_of rs) i ≡ Some m → finding_of (take i rs) a ≡ m
  is_finding i m a at is =
      some_is (finding_of (take i rs) a) m (ap (option_map (finding_of (take i rs))) (sym at) ∙ sym (finding_at [] rs i) ∙ is)

  without_line : (i m : ℕ) (a : Record) → slice_get rs i ≡ Some a → slice_get (findings_of rs) i ≡ Some m → has_line a ≡ false → m ≡ i
  without_line i m a at is none =
      sym (is_finding i m a at is) ∙ sym (own_finding (take i rs) a none) ∙ taken_long rs i a at

  with_line : (i m : ℕ) (a : Record) → slice_get rs i ≡ Some a → slice_get (findings_of rs) i ≡ Some m → has_line a ≡ true → first_alike a 0 rs ≡ Some m
  with_line i m a at is line =
      ap (first_alike a 0) (split_at rs i a at)
      ∙ reached a (take i rs) (drop (suc i) rs) (alike_itself a line)
      ∙ ap Some (is_finding i m a at is)

  -- the finding has the same record
  same_there : (i m : ℕ) (a : Record) → slice_get rs i ≡ Some a → slice_get (findings_of rs) i ≡ Some m → has_line a ≡ true → slice_get rs m ≡ Some a
  same_there i m a at is line =
      let there = found_alike a 0 rs m (with_line i m a at is line) in
      let place : there.0 ≡ m = omega (arith, there.1) in
      ap (slice_get rs) (sym place) ∙ there.4 ∙ ap Some (alike_parts there.3 a there.5).2

  pub one_if_alike : (i k m n : ℕ) (a b : Record) → slice_get rs i ≡ Some a → slice_get rs k ≡ Some b
      → slice_get (findings_of rs) i ≡ Some m → slice_get (findings_of rs) k ≡ Some n
      → (i ≡ k) ⊎ (are_alike a b ≡ true) → m ≡ n
  one_if_alike i k m n a b at_i at_k is_i is_k (inl same) = some_is m n (sym is_i ∙ ap (slice_get (findings_of rs)) same ∙ is_k)
  one_if_alike i k m n a b at_i at_k is_i is_k (inr alike) =
      let parts = alike_parts a b alike in
      some_is m n (sym (with_line i m a at_i is_i parts.0) ∙ ap (λ r. first_alike r 0 rs) parts.2 ∙ with_line k n b at_k is_k parts.1)

  -- a result without a line isn't the finding of one with a line
  apart : (i k m n : ℕ) (a b : Record) → slice_get rs i ≡ Some a → slice_get rs k ≡ Some b → slice_get (findings_of rs) i ≡ Some m
      → slice_get (findings_of rs) k ≡ Some n → m ≡ n
      → has_line a ≡ false → has_line b ≡ true → ⊥
  apart i k m n a b at_i at_k is_i is_k one none line =
      let there = same_there k n b at_k is_k line in
      let here : slice_get rs n ≡ Some a = ap (slice_get rs) (sym one ∙ without_line i m a at_i is_i none) ∙ at_i in
      false≢true (sym none ∙ ap has_line (some_is a b (sym here ∙ there)) ∙ line)

  pub alike_if_one : (i k m n : ℕ) (a b : Record) → slice_get rs i ≡ Some a → slice_get rs k ≡ Some b
      → slice_get (findings_of rs) i ≡ Some m → slice_get (findings_of rs) k ≡ Some n
      → m ≡ n → (i ≡ k) ⊎ (are_alike a b ≡ true)
  alike_if_one i k m n a b at_i at_k is_i is_k one = by_lines (has_line a) (has_line b) refl refl
    where
      by_lines : (x y : Bool) → has_line a ≡ x → has_line b ≡ y → (i ≡ k) ⊎ (are_alike a b ≡ true)
      by_lines false false none nor = inl (sym (without_line i m a at_i is_i none) ∙ one ∙ without_line k n b at_k is_k nor)
      by_lines false true none line = absurd (apart i k m n a b at_i at_k is_i is_k one none line)
      by_lines true false line none = absurd (apart k i n m b a at_k at_i is_k is_i (sym one) none line)
      by_lines true true line also =
          let here = same_there i m a at_i is_i line in
          let there = same_there k n b at_k is_k also in
          let same : a ≡ b = some_is a b (sym here ∙ ap (slice_get rs) one ∙ there) in
          inr (subst (λ r. are_alike a r ≡ true) same (alike_itself a line))

  -- a finding isn't after its result, and is its own
  pub first_and_own : (i m : ℕ) (a : Record) → slice_get rs i ≡ Some a → slice_get (findings_of rs) i ≡ Some m
      → (m ≤ i) × (slice_get (findings_of rs) m ≡ Some m)
  first_and_own i m a at is = by_line (has_line a) refl
    where
      long : length (take i rs) ≡ i
      long = taken_long rs i a at

      bound : (o : Option ℕ) → first_alike a 0 (take i rs) ≡ o → unwrap_or o (length (take i rs)) ≤ i
      bound None none = omega (arith, long)
      bound (Some j) found = let there = found_alike a 0 (take i rs) j found in omega (arith, long, there.1, there.2)

      not_after : m ≤ i
      not_after = subst (λ n. n ≤ i) (is_finding i m a at is) (bound (first_alike a 0 (take i rs)) refl)

      by_line : (b : Bool) → has_line a ≡ b → (m ≤ i) × (slice_get (findings_of rs) m ≡ Some m)
      by_line false none =
          let same = without_line i m a at is none in
          (not_after, ap (slice_get (findings_of rs)) same ∙ is)
      by_line true line =
          let there = same_there i m a at is line in
          let own : slice_get (findings_of rs) m ≡ Some (finding_of (take m rs) a) =
          finding_at [] rs m ∙ ap (option_map (finding_of (take m rs))) there in
          let reach : Some m ≡ Some (finding_of (take m rs) a) =
          sym (with_line i m a at is line) ∙ ap (first_alike a 0) (split_at rs m a there) ∙ reached a (take m rs) (drop (suc m) rs) (alike_itself a line) in
          (not_after, own ∙ sym reach)
