-- The names of sections, each counted once.
use Rattle.std.proofs.Common.{◌≡◌, ℕ, ◌+◌, Bool, true, false, ◌||◌, List, [], ◌∷◌, ◌++◌, Option, Some, cond, is_some, append-nil, append_assoc, take, refl, sym, ap, ◌∙◌, arith}
use Rattle.std.specs.Prelude.{bytes_eq, ◌==◌, if◌then◌else◌}
use Rattle.std.specs.Borrow.{Bor}
use Rattle.std.specs.Cmp.Lexicographic.{pointwise}
use Rattle.std.proofs.lemmas.Slice.Eq.{bytes_eq-Decides}
use Rattle.sarif_diff.specs.declared.section.Section.{Section}
use Rattle.sarif_scope.specs.Files.{files_after, files_of, is_named}
use Rattle.sarif_scope.specs.Internal.NamesMet.{same_bytes}

same_is : (xs ys : List ℕ) → pointwise ◌==◌ xs ys ≡ bytes_eq xs ys
same_is [] [] = refl
same_is [] (y ∷ ys) = refl
same_is (x ∷ xs) [] = refl
same_is (x ∷ xs) (y ∷ ys) = refl

-- ---- one section more

or_end : (a b : Bool) → (a || (b || false)) ≡ (a || b)
or_end true b = refl
or_end false true = refl
or_end false false = refl

or_more : (a b c d : Bool) → b ≡ (c || d) → (a || b) ≡ ((a || c) || d)
or_more true b c d h = refl
or_more false b c d h = h

named_more : (xs : List Section) (s : Section) (name : List ℕ)
    → is_named (xs ++ s ∷ []) name ≡ (is_named xs name || bytes_eq s.name name)
named_more [] s name = or_end false (bytes_eq s.name name)
named_more (x ∷ xs) s name =
    or_more (bytes_eq x.name name) (is_named (xs ++ s ∷ []) name) (is_named xs name) (bytes_eq s.name name)
    (named_more xs s name)

abbrev first : Bool → ℕ
first seen = if seen then 0 else 1

files_more : (before xs : List Section) (s : Section)
    → files_after before (xs ++ s ∷ []) ≡ files_after before xs + (if is_named (before ++ xs) s.name then 0 else 1)
files_more before [] s = omega (arith, ap (λ l. first (is_named l s.name)) (append-nil before))
files_more before (x ∷ xs) s =
    omega (
      arith,
      files_more (before ++ x ∷ []) xs s,
      ap (λ l. first (is_named l s.name)) (append_assoc before (x ∷ []) xs),
    )

abbrev one : Bool → ℕ
one is_new = if is_new then 1 else 0

one_if : (is_new seen : Bool) → is_new ≡ (if seen then false else true) → one is_new ≡ first seen
one_if is_new true h = ap one h
one_if is_new false h = ap one h

-- the number after one section more
pub one_more : (xs : List Section) (i : ℕ) (s : Section) (count more : ℕ) (is_new : Bool)
    → take (i + 1) xs ≡ take i xs ++ s ∷ [] → count ≡ files_of (take i xs)
    → is_new ≡ (if is_named (take i xs) s.name then false else true)
    → more ≡ count + (if is_new then 1 else 0) → more ≡ files_of (take (i + 1) xs)
one_more xs i s count more is_new taken count_is new_is is =
    is
    ∙ ap (λ n. n + one is_new) count_is
    ∙ ap (λ n. files_of (take i xs) + n) (one_if is_new (is_named (take i xs) s.name) new_is)
    ∙ sym (files_more [] (take i xs) s)
    ∙ ap (λ ys. files_of ys) (sym taken)

-- ---- the table

or_true : (n : Bool) → (n || true) ≡ true
or_true true = refl
or_true false = refl

or_false : (n : Bool) → (n || false) ≡ n
or_false true = refl
or_false false = refl

written_by : (b : Bool) (old : Option Bool) (n : Bool) → is_some old ≡ n → is_some (cond b (Some true) old) ≡ (n || b)
written_by true old n h = sym (or_true n)
written_by false old n h = h ∙ sym (or_false n)

module _ (before : List Section) (s : Section) where
  -- a name that is new is written
  pub met_new : (old new : Bor (List ℕ) → Option Bool) (name : Bor (List ℕ)) → name.now ≡ s.name
      → ((q : Bor (List ℕ)) → is_some (old q) ≡ is_named before q.now)
      → ((q : Bor (List ℕ)) → new q ≡ cond (same_bytes name q) (Some true) (old q))
      → (q : Bor (List ℕ)) → is_some (new q) ≡ is_named (before ++ s ∷ []) q.now
  met_new old new name name_is table written q =
      ap is_some (written q)
      ∙ written_by (same_bytes name q) (old q) (is_named before q.now) (table q)
      ∙ ap (λ b. is_named before q.now || b) (same_is name.now q.now)
      ∙ ap (λ n. is_named before q.now || bytes_eq n q.now) name_is
      ∙ sym (named_more before s q.now)

  seen_by : (b : Bool) (q : List ℕ) → bytes_eq s.name q ≡ b → is_named before s.name ≡ true
      → is_named before q ≡ (is_named before q || b)
  seen_by true q is seen =
      let same : s.name ≡ q = (bytes_eq-Decides s.name q).0 is in
      ap (λ n. is_named before n) (sym same) ∙ seen ∙ sym (or_true (is_named before q))
  seen_by false q is seen = sym (or_false (is_named before q))

  -- a name that was met before is not
  pub met_again : (old : Bor (List ℕ) → Option Bool) (name : Bor (List ℕ)) → name.now ≡ s.name → is_some (old name) ≡ true
      → ((q : Bor (List ℕ)) → is_some (old q) ≡ is_named before q.now)
      → (q : Bor (List ℕ)) → is_some (old q) ≡ is_named (before ++ s ∷ []) q.now
  met_again old name name_is seen table q =
      table q
      ∙ seen_by (bytes_eq s.name q.now) q.now refl (ap (λ n. is_named before n) (sym name_is) ∙ sym (table name) ∙ seen)
      ∙ sym (named_more before s q.now)
