-- The table of the names of sections, and what it has for each of them.
use Rattle.std.proofs.Common.{◌≡◌, ℕ, zero, suc, ◌+◌, Bool, true, false, not, ◌||◌, List, [], ◌∷◌, ◌++◌, map, Option, Some, None, cond, is_some, nat_le, refl, sym, ap, ◌∙◌, add-zero, append_assoc, drop, get_or, length, ◌<◌, arith}
use Rattle.std.specs.Prelude.{count_by, bytes_eq, ◌==◌}
use native.Mathlib.Numerals.{unary_clauses}
use Rattle.std.specs.Borrow.{Bor}
use Rattle.std.specs.List.{fold, list_any}
use Rattle.std.specs.Option.{option_to_list}
use Rattle.std.specs.Cmp.Lexicographic.{pointwise}
use Rattle.std.proofs.lemmas.List.{drop_more}
use Rattle.std.proofs.lemmas.Slice.Eq.{bytes_eq-Decides}
use Rattle.sarif_diff.specs.declared.section.Section.{Section}
use Rattle.sarif_change.specs.Joined.{has_name, is_shared, joined_among, names_of}
use Rattle.sarif_change.specs.Internal.NamesSeen.{noted, same_bytes, shared_names, with_whole}

-- ---- counts

pub noted_more : (n : ℕ) → noted (n + 1) ≡ Some (is_some (noted n))
noted_more zero = refl
noted_more (suc zero) = refl
noted_more (suc (suc n)) = simp unary_clauses refl

pub noted_several : (n : ℕ) (more : Bool) → noted n ≡ Some more → more ≡ nat_le 2 n
noted_several zero more is = cc
noted_several (suc zero) more is = cc
noted_several (suc (suc n)) more is = let several : nat_le 2 (suc (suc n)) ≡ true = grind arith in cc

pub noted_none : (n : ℕ) → noted n ≡ None → false ≡ nat_le 2 n
noted_none zero is = refl
noted_none (suc zero) is = cc
noted_none (suc (suc n)) is = cc

one_counted : (p : Section → Bool) (n : ℕ) (xs : List Section) (s : Section)
    → fold (λ a x. a + cond (p x) 1 0) n (xs ++ s ∷ []) ≡ fold (λ a x. a + cond (p x) 1 0) n xs + cond (p s) 1 0
one_counted p n [] s = refl
one_counted p n (x ∷ xs) s = one_counted p (n + cond (p x) 1 0) xs s

counted : (p : Section → Bool) (xs : List Section) (s : Section)
    → count_by p (xs ++ s ∷ []) ≡ count_by p xs + cond (p s) 1 0
counted p xs s = one_counted p 0 xs s

pub same_is : (xs ys : List ℕ) → pointwise ◌==◌ xs ys ≡ bytes_eq xs ys
same_is [] [] = refl
same_is [] (y ∷ ys) = refl
same_is (x ∷ xs) [] = refl
same_is (x ∷ xs) (y ∷ ys) = refl

equal_names : (xs ys : List ℕ) → bytes_eq xs ys ≡ true → xs ≡ ys
equal_names xs ys is = (bytes_eq-Decides xs ys).0 is

equal_self : (xs : List ℕ) → bytes_eq xs xs ≡ true
equal_self xs = (bytes_eq-Decides xs xs).1 refl

unequal_by : (b : Bool) (xs ys : List ℕ) → bytes_eq xs ys ≡ b → true ≡ not (bytes_eq ys xs) → b ≡ false
unequal_by false xs ys is apart = refl
unequal_by true xs ys is apart =
    apart ∙ ap not ((bytes_eq-Decides ys xs).1 (sym (equal_names xs ys is)))

-- names that were found to be different, or equal
pub unequal : (xs ys : List ℕ) → true ≡ not (bytes_eq ys xs) → bytes_eq xs ys ≡ false
unequal xs ys apart = unequal_by (bytes_eq xs ys) xs ys refl apart

equal_by : (b : Bool) (xs ys : List ℕ) → bytes_eq xs ys ≡ b → false ≡ not b → xs ≡ ys
equal_by true xs ys is same = equal_names xs ys is
equal_by false xs ys is same = cc

pub equal : (xs ys : List ℕ) → false ≡ not (bytes_eq xs ys) → xs ≡ ys
equal xs ys same = equal_by (bytes_eq xs ys) xs ys refl same

-- ---- a name more

abbrev count_of : List Section → List ℕ → ℕ
count_of before name = count_by (has_name name) before

noted_by : (b : Bool) (before : List Section) (name q : List ℕ) → (b ≡ true → name ≡ q)
    → cond b (Some (is_some (noted (count_of before name)))) (noted (count_of before q)) ≡ noted (count_of before q + cond b 1 0)
noted_by true before name q same =
    ap (λ own. Some (is_some (noted (count_of before own)))) (same refl) ∙ sym (noted_more (count_of before q))
noted_by false before name q same = ap noted (sym (add-zero (count_of before q)))

module _ (old new : Bor (List ℕ) → Option Bool) (before : List Section)
    (table : (q : Bor (List ℕ)) → old q ≡ noted (count_by (has_name q.now) before)) (name : Bor (List ℕ))
    (written : (q : Bor (List ℕ)) → new q ≡ cond (same_bytes name q) (Some (is_some (old name))) (old q)) where
  pub name_noted : (q : Bor (List ℕ)) → new q ≡ noted (count_by (has_name q.now) before + cond (bytes_eq name.now q.now) 1 0)
  name_noted q =
      written q
      ∙ ap (λ o. cond (same_bytes name q) (Some (is_some o)) (old q)) (table name)
      ∙ ap (λ o. cond (same_bytes name q) (Some (is_some (noted (count_of before name.now)))) o) (table q)
      ∙ ap (λ b. cond b (Some (is_some (noted (count_of before name.now)))) (noted (count_of before q.now))) (same_is name.now q.now)
      ∙ noted_by (bytes_eq name.now q.now) before name.now q.now (equal_names name.now q.now)

-- ---- a section more

or_false : (b : Bool) → (b || false) ≡ b
or_false true = refl
or_false false = refl

or_same : (b : Bool) → (b || (b || false)) ≡ b
or_same true = refl
or_same false = refl

-- a section with this name alone, or with another that is the same
pub one_name : (before : List Section) (s : Section) (q : List ℕ) → s.old ≡ None
    → count_by (has_name q) before + cond (bytes_eq s.name q) 1 0 ≡ count_by (has_name q) (before ++ s ∷ [])
one_name before s q none =
    sym (counted (has_name q) before s
    ∙ ap (λ o. count_of before q + cond (bytes_eq s.name q || list_any (λ own. bytes_eq own q) (option_to_list o)) 1 0) none
    ∙ ap (λ b. count_of before q + cond b 1 0) (or_false (bytes_eq s.name q)))

pub same_name : (before : List Section) (s : Section) (q : List ℕ) → s.old ≡ Some s.name
    → count_by (has_name q) before + cond (bytes_eq s.name q) 1 0 ≡ count_by (has_name q) (before ++ s ∷ [])
same_name before s q same =
    sym (counted (has_name q) before s
    ∙ ap (λ o. count_of before q + cond (bytes_eq s.name q || list_any (λ own. bytes_eq own q) (option_to_list o)) 1 0) same
    ∙ ap (λ b. count_of before q + cond b 1 0) (or_same (bytes_eq s.name q)))

-- a section with two names
two_noted : (c : ℕ) (a b : Bool) → (b ≡ true → a ≡ false)
    → cond b (Some (is_some (noted c))) (noted (c + cond a 1 0)) ≡ noted (c + cond (a || (b || false)) 1 0)
two_noted c true true apart = let never : true ≡ false = apart refl in cc
two_noted c false true apart = sym (noted_more c)
two_noted c true false apart = refl
two_noted c false false apart = refl

-- the table after a section more
module _ (old new : Bor (List ℕ) → Option Bool) (before : List Section) (s : Section) (name : Bor (List ℕ)) (own : name.now ≡ s.name)
    (table : (q : Bor (List ℕ)) → old q ≡ noted (count_by (has_name q.now) before))
    (written : (q : Bor (List ℕ)) → new q ≡ cond (same_bytes name q) (Some (is_some (old name))) (old q)) where
  by_name : (q : Bor (List ℕ)) → new q ≡ noted (count_by (has_name q.now) before + cond (bytes_eq s.name q.now) 1 0)
  by_name q =
      name_noted old new before table name written q
      ∙ ap (λ n. noted (count_by (has_name q.now) before + cond (bytes_eq n q.now) 1 0)) own

  pub after_one : s.old ≡ None → (q : Bor (List ℕ)) → new q ≡ noted (count_by (has_name q.now) (before ++ s ∷ []))
  after_one none q = by_name q ∙ ap noted (one_name before s q.now none)

  pub after_same : s.old ≡ Some s.name → (q : Bor (List ℕ)) → new q ≡ noted (count_by (has_name q.now) (before ++ s ∷ []))
  after_same same q = by_name q ∙ ap noted (same_name before s q.now same)

  module _ (last : Bor (List ℕ) → Option Bool) (other : Bor (List ℕ)) (is : s.old ≡ Some other.now)
      (apart : bytes_eq s.name other.now ≡ false)
      (rewritten : (q : Bor (List ℕ)) → last q ≡ cond (same_bytes other q) (Some (is_some (new other))) (new q)) where
    apart_from : (q : List ℕ) → bytes_eq other.now q ≡ true → bytes_eq s.name q ≡ false
    apart_from q same = ap (bytes_eq s.name) (sym (equal_names other.now q same)) ∙ apart

    -- what the table had for the other name
    had : new other ≡ noted (count_by (has_name other.now) before)
    had = by_name other ∙ ap (λ b. noted (count_by (has_name other.now) before + cond b 1 0)) apart
        ∙ ap noted (add-zero (count_by (has_name other.now) before))

    had_at : (q : List ℕ) (b : Bool) (rest : Option Bool) → (b ≡ true → other.now ≡ q)
        → cond b (Some (is_some (noted (count_by (has_name other.now) before)))) rest
        ≡ cond b (Some (is_some (noted (count_by (has_name q) before)))) rest
    had_at q true rest same = ap (λ n. Some (is_some (noted (count_by (has_name n) before)))) (same refl)
    had_at q false rest same = refl

    pub after_two : (q : Bor (List ℕ)) → last q ≡ noted (count_by (has_name q.now) (before ++ s ∷ []))
    after_two q =
        rewritten q
        ∙ ap (λ b. cond b (Some (is_some (new other))) (new q)) (same_is other.now q.now)
        ∙ ap (λ o. cond (bytes_eq other.now q.now) (Some (is_some o)) (new q)) had
        ∙ ap (cond (bytes_eq other.now q.now) (Some (is_some (noted (count_by (has_name other.now) before))))) (by_name q)
        ∙ had_at q.now (bytes_eq other.now q.now) (noted (count_by (has_name q.now) before + cond (bytes_eq s.name q.now) 1 0))
        (equal_names other.now q.now)
        ∙ two_noted (count_by (has_name q.now) before) (bytes_eq s.name q.now) (bytes_eq other.now q.now) (apart_from q.now)
        ∙ sym (ap noted (counted (has_name q.now) before s
        ∙ ap (λ o. count_by (has_name q.now) before + cond (bytes_eq s.name q.now || list_any (λ own. bytes_eq own q.now) (option_to_list o)) 1 0) is))

-- ---- marks

pub marked : (sections all : List Section)
    → with_whole all (shared_names sections all) ≡ map (joined_among sections) all
marked sections [] = refl
marked sections (s ∷ ss) = ap (λ more. joined_among sections s ∷ more) (marked sections ss)

pub shared_step : (all : List Section) (i : ℕ) (s : Section) (before after : List Bool) (b : Bool) → i < length all → s ≡ get_or all i s
    → after ≡ before ++ b ∷ [] → b ≡ list_any (is_shared all) (names_of s)
    → before ++ shared_names all (drop i all) ≡ shared_names all all
    → after ++ shared_names all (drop (i + 1) all) ≡ shared_names all all
shared_step all i s before after b within is pushed found told =
    ap (λ bs. bs ++ shared_names all (drop (i + 1) all)) pushed
    ∙ append_assoc before (b ∷ []) (shared_names all (drop (i + 1) all))
    ∙ ap (λ x. before ++ x ∷ shared_names all (drop (i + 1) all)) found
    ∙ ap (λ rest. before ++ shared_names all rest) (sym (drop_more all i s within ∙ ap (λ x. x ∷ drop (i + 1) all) (sym is)))
    ∙ told
