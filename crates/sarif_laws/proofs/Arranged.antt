-- A list with the same elements of each tool in the same order is the other list in another order.
use Rattle.std.proofs.Common.{◌≡◌, ℕ, suc, Bool, true, false, cond, bytes_eq, List, [], ◌∷◌, length, map, refl, sym, ap, subst, ◌∙◌}
use Rattle.std.specs.Prelude.{filter, ⊤}
use Rattle.std.specs.List.{AllByRecursion}
use Rattle.std.proofs.lemmas.Slice.Eq.{bytes_eq-Decides}
use Rattle.sarif_match.proofs.SplitLemmas.{cons_first, cons_rest}

pub itself : (t : List ℕ) → bytes_eq t t ≡ true
itself t = (bytes_eq-Decides t t).1 refl

abbrev with_head : {X : Type 0} → List X → List X → List X
with_head [] ys = ys
with_head (z ∷ zs) ys = z ∷ ys

module _ {Y : Type 0} where
  abbrev pub untag : List (ℕ × Y) → List Y
  untag items = map (λ e. e.1) items

  -- no two have the same number
  abbrev pub AreApart : List (ℕ × Y) → Type 0
  AreApart [] = ⊤
  AreApart (x ∷ xs) = AllByRecursion (λ y. x.0 ≡ y.0 → ⊥) xs × AreApart xs

module _ {Y : Type 0} (tool : Y → List ℕ) where
  abbrev pub of_tool : List ℕ → List Y → List Y
  of_tool t ys = filter (λ y. bytes_eq (tool y) t) ys

  abbrev pub of_tagged : List ℕ → List (ℕ × Y) → List (ℕ × Y)
  of_tagged t items = filter (λ e. bytes_eq (tool e.1) t) items

  abbrev pub without_first : List ℕ → List (ℕ × Y) → List (ℕ × Y)
  without_first t [] = []
  without_first t (x ∷ xs) = cond (bytes_eq (tool x.1) t) xs (x ∷ without_first t xs)

  -- ---- the first one of a tool, and the others

  rest_of : (t : List ℕ) (z : ℕ × Y) (zs items : List (ℕ × Y)) → of_tagged t items ≡ z ∷ zs → of_tagged t (without_first t items) ≡ zs
  rest_of t z zs [] is = let never : ⊥ = cc in absurd never
  rest_of t z zs (x ∷ xs) is = by_test (bytes_eq (tool x.1) t) refl is (rest_of t z zs xs)
    where
      by_test : (b : Bool) → bytes_eq (tool x.1) t ≡ b → cond b (x ∷ of_tagged t xs) (of_tagged t xs) ≡ z ∷ zs
          → (of_tagged t xs ≡ z ∷ zs → of_tagged t (without_first t xs) ≡ zs)
          → of_tagged t (cond b xs (x ∷ without_first t xs)) ≡ zs
      by_test true test is later = cons_rest x z (of_tagged t xs) zs is
      by_test false test is later = ap (λ b. cond b (x ∷ of_tagged t (without_first t xs)) (of_tagged t (without_first t xs))) test ∙ later is

  others_stay : (t u : List ℕ) (items : List (ℕ × Y)) → bytes_eq t u ≡ false → of_tagged u (without_first t items) ≡ of_tagged u items
  others_stay t u [] other = refl
  others_stay t u (x ∷ xs) other = by_test (bytes_eq (tool x.1) t) refl (others_stay t u xs other)
    where
      by_test : (b : Bool) → bytes_eq (tool x.1) t ≡ b → of_tagged u (without_first t xs) ≡ of_tagged u xs
          → of_tagged u (cond b xs (x ∷ without_first t xs)) ≡ of_tagged u (x ∷ xs)
      by_test true test rest =
          let same : tool x.1 ≡ t = (bytes_eq-Decides (tool x.1) t).0 test in
          sym (ap (λ b. cond b (x ∷ of_tagged u xs) (of_tagged u xs)) (ap (λ s. bytes_eq s u) same ∙ other))
      by_test false test rest = ap (λ l. cond (bytes_eq (tool x.1) u) (x ∷ l) l) rest

  module _ (P : ℕ × Y → Type 0) where
    all_of_tool : (t : List ℕ) (items : List (ℕ × Y)) → AllByRecursion P items → AllByRecursion P (of_tagged t items)
    all_of_tool t [] all = tt
    all_of_tool t (x ∷ xs) all =
        elim (bytes_eq (tool x.1) t) as (λ b. AllByRecursion P (cond b (x ∷ of_tagged t xs) (of_tagged t xs)))
        [ true ↦ (all.0, all_of_tool t xs all.1) | false ↦ all_of_tool t xs all.1 ]

    all_without : (t : List ℕ) (items : List (ℕ × Y)) → AllByRecursion P items → AllByRecursion P (without_first t items)
    all_without t [] all = tt
    all_without t (x ∷ xs) all =
        elim (bytes_eq (tool x.1) t) as (λ b. AllByRecursion P (cond b xs (x ∷ without_first t xs)))
        [ true ↦ all.1 | false ↦ (all.0, all_without t xs all.1) ]

    of_first : (t : List ℕ) (z : ℕ × Y) (zs items : List (ℕ × Y)) → of_tagged t items ≡ z ∷ zs → AllByRecursion P items → P z
    of_first t z zs items is all = (subst (AllByRecursion P) is (all_of_tool t items all)).0

  -- ---- numbers that are apart

  apart_without : (t : List ℕ) (items : List (ℕ × Y)) → AreApart items → AreApart (without_first t items)
  apart_without t [] apart = tt
  apart_without t (x ∷ xs) apart =
      elim (bytes_eq (tool x.1) t) as (λ b. AreApart (cond b xs (x ∷ without_first t xs)))
      [ true ↦ apart.1 | false ↦ (all_without (λ y. x.0 ≡ y.0 → ⊥) t xs apart.0, apart_without t xs apart.1) ]

  first_apart : (t : List ℕ) (z : ℕ × Y) (zs items : List (ℕ × Y)) → of_tagged t items ≡ z ∷ zs → AreApart items
      → AllByRecursion (λ y. z.0 ≡ y.0 → ⊥) (without_first t items)
  first_apart t z zs [] is apart = tt
  first_apart t z zs (x ∷ xs) is apart = by_test (bytes_eq (tool x.1) t) refl is (λ later. first_apart t z zs xs later apart.1)
    where
      by_test : (b : Bool) → bytes_eq (tool x.1) t ≡ b → cond b (x ∷ of_tagged t xs) (of_tagged t xs) ≡ z ∷ zs
          → (of_tagged t xs ≡ z ∷ zs → AllByRecursion (λ y. z.0 ≡ y.0 → ⊥) (without_first t xs))
          → AllByRecursion (λ y. z.0 ≡ y.0 → ⊥) (cond b xs (x ∷ without_first t xs))
      by_test true test is later =
          let same : x ≡ z = cons_first x z (of_tagged t xs) zs is in
          subst (λ w. AllByRecursion (λ y. w.0 ≡ y.0 → ⊥) xs) same apart.0
      by_test false test is later = (λ e. of_first (λ y. x.0 ≡ y.0 → ⊥) t z zs xs is apart.0 (sym e), later is)

  -- ---- the tagged elements in the order of the list

  abbrev pub arranged : List Y → List (ℕ × Y) → List (ℕ × Y)
  arranged [] items = []
  arranged (y ∷ ys) items = with_head (of_tagged (tool y) items) (arranged ys (without_first (tool y) items))

  -- the list has the same elements of each tool
  abbrev pub Fits : List Y → List (ℕ × Y) → Type 0
  Fits ys items = (t : List ℕ) → of_tool t ys ≡ untag (of_tagged t items)

  record Head (y : Y) (ys : List Y) (items : List (ℕ × Y)) : Type 0 where
    first : ℕ × Y
    rest : List (ℕ × Y)
    found : of_tagged (tool y) items ≡ first ∷ rest
    is : first.1 ≡ y
    fits : Fits ys (without_first (tool y) items)

  head_of : (y : Y) (ys : List Y) (items : List (ℕ × Y)) → Fits (y ∷ ys) items → Head y ys items
  head_of y ys items fits =
      by_own (of_tagged (tool y) items) refl
      (sym (ap (λ b. cond b (y ∷ of_tool (tool y) ys) (of_tool (tool y) ys)) (itself (tool y))) ∙ fits (tool y))
    where
      fits_rest : (z : ℕ × Y) (zs : List (ℕ × Y)) → of_tagged (tool y) items ≡ z ∷ zs → of_tool (tool y) ys ≡ untag zs → Fits ys (without_first (tool y) items)
      fits_rest z zs found rest t = by_test (bytes_eq (tool y) t) refl (fits t)
        where
          by_test : (b : Bool) → bytes_eq (tool y) t ≡ b → cond b (y ∷ of_tool t ys) (of_tool t ys) ≡ untag (of_tagged t items)
              → of_tool t ys ≡ untag (of_tagged t (without_first (tool y) items))
          by_test true test was =
              let same : tool y ≡ t = (bytes_eq-Decides (tool y) t).0 test in
              subst (λ u. of_tool u ys ≡ untag (of_tagged u (without_first (tool y) items))) same (rest ∙ ap untag (sym (rest_of (tool y) z zs items found)))
          by_test false test was = was ∙ ap untag (sym (others_stay (tool y) t items test))

      by_own : (own : List (ℕ × Y)) → of_tagged (tool y) items ≡ own → y ∷ of_tool (tool y) ys ≡ untag own → Head y ys items
      by_own [] found are = let never : ⊥ = cc in absurd never
      by_own (z ∷ zs) found are = record {
        first = z;
        rest = zs;
        found = found;
        is = sym (cons_first y z.1 (of_tool (tool y) ys) (untag zs) are);
        fits = fits_rest z zs found (cons_rest y z.1 (of_tool (tool y) ys) (untag zs) are);
      }

  pub untagged : (ys : List Y) (items : List (ℕ × Y)) → Fits ys items → untag (arranged ys items) ≡ ys
  untagged [] items fits = refl
  untagged (y ∷ ys) items fits =
      let h = head_of y ys items fits in
      ap (λ l. untag (with_head l (arranged ys (without_first (tool y) items)))) h.found ∙ (λ i. h.is i ∷ untagged ys (without_first (tool y) items) h.fits i)

  -- the elements of each tool are in the order of before
  pub same_of_tool : (t : List ℕ) (ys : List Y) (items : List (ℕ × Y)) → Fits ys items → of_tagged t (arranged ys items) ≡ of_tagged t items
  same_of_tool t [] items fits = none (of_tagged t items) (fits t)
    where
      none : (own : List (ℕ × Y)) → [] ≡ untag own → [] ≡ own
      none [] are = refl
      none (z ∷ zs) are = let never : ⊥ = cc in absurd never
  same_of_tool t (y ∷ ys) items fits =
      let h = head_of y ys items fits in
      ap (λ l. of_tagged t (with_head l (arranged ys (without_first (tool y) items)))) h.found
      ∙ ap (λ u. cond (bytes_eq (tool u) t) (h.first ∷ of_tagged t (arranged ys (without_first (tool y) items)))
      (of_tagged t (arranged ys (without_first (tool y) items)))) h.is
      ∙ by_test h.first h.rest h.found (bytes_eq (tool y) t) refl (same_of_tool t ys (without_first (tool y) items) h.fits)
    where
      by_test : (z : ℕ × Y) (zs : List (ℕ × Y)) → of_tagged (tool y) items ≡ z ∷ zs → (b : Bool) → bytes_eq (tool y) t ≡ b
          → of_tagged t (arranged ys (without_first (tool y) items)) ≡ of_tagged t (without_first (tool y) items)
          → cond b (z ∷ of_tagged t (arranged ys (without_first (tool y) items))) (of_tagged t (arranged ys (without_first (tool y) items))) ≡ of_tagged t items
      by_test z zs found true test later =
          let same : tool y ≡ t = (bytes_eq-Decides (tool y) t).0 test in
          ap (λ l. z ∷ l) (later ∙ ap (λ u. of_tagged u (without_first (tool y) items)) (sym same) ∙ rest_of (tool y) z zs items found) ∙ sym found
          ∙ ap (λ u. of_tagged u items) same
      by_test z zs found false test later = later ∙ others_stay (tool y) t items test

  -- what is so of each is so of each of them in that order
  pub all_arranged : (P : ℕ × Y → Type 0) (ys : List Y) (items : List (ℕ × Y)) → AllByRecursion P items → AllByRecursion P (arranged ys items)
  all_arranged P [] items all = tt
  all_arranged P (y ∷ ys) items all =
      by_own (of_tagged (tool y) items) (all_of_tool P (tool y) items all)
      (all_arranged P ys (without_first (tool y) items) (all_without P (tool y) items all))
    where
      by_own : (own : List (ℕ × Y)) → AllByRecursion P own → AllByRecursion P (arranged ys (without_first (tool y) items))
          → AllByRecursion P (with_head own (arranged ys (without_first (tool y) items)))
      by_own [] here rest = rest
      by_own (z ∷ zs) here rest = (here.0, rest)

  pub apart_arranged : (ys : List Y) (items : List (ℕ × Y)) → AreApart items → AreApart (arranged ys items)
  apart_arranged [] items apart = tt
  apart_arranged (y ∷ ys) items apart =
      by_own (of_tagged (tool y) items) refl (apart_arranged ys (without_first (tool y) items) (apart_without (tool y) items apart))
    where
      by_own : (own : List (ℕ × Y)) → of_tagged (tool y) items ≡ own → AreApart (arranged ys (without_first (tool y) items))
          → AreApart (with_head own (arranged ys (without_first (tool y) items)))
      by_own [] is rest = rest
      by_own (z ∷ zs) is rest = (all_arranged (λ e. z.0 ≡ e.0 → ⊥) ys (without_first (tool y) items) (first_apart (tool y) z zs items is apart), rest)

  first_gone : (t : List ℕ) (z : ℕ × Y) (zs items : List (ℕ × Y)) → of_tagged t items ≡ z ∷ zs → length items ≡ suc (length (without_first t items))
  first_gone t z zs [] is = let never : ⊥ = cc in absurd never
  first_gone t z zs (x ∷ xs) is = by_test (bytes_eq (tool x.1) t) is (first_gone t z zs xs)
    where
      by_test : (b : Bool) → cond b (x ∷ of_tagged t xs) (of_tagged t xs) ≡ z ∷ zs → (of_tagged t xs ≡ z ∷ zs → length xs ≡ suc (length (without_first t xs)))
          → suc (length xs) ≡ suc (length (cond b xs (x ∷ without_first t xs)))
      by_test true is later = refl
      by_test false is later = ap suc (later is)

  -- there are as many
  pub fits_long : (ys : List Y) (items : List (ℕ × Y)) → Fits ys items → length items ≡ length ys
  fits_long [] [] fits = refl
  fits_long [] (x ∷ xs) fits =
      let none : [] ≡ untag (x ∷ of_tagged (tool x.1) xs) =
      fits (tool x.1) ∙ ap (λ b. untag (cond b (x ∷ of_tagged (tool x.1) xs) (of_tagged (tool x.1) xs))) (itself (tool x.1)) in
      let never : ⊥ = cc in absurd never
  fits_long (y ∷ ys) items fits =
      let h = head_of y ys items fits in
      first_gone (tool y) h.first h.rest items h.found ∙ ap suc (fits_long ys (without_first (tool y) items) h.fits)
