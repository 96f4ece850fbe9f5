-- Names that are added to rising names.
use Rattle.std.proofs.Common.{◌≡◌, ℕ, Bool, true, false, ◌||◌, List, [], ◌∷◌, Ordering, bytes_eq, refl, sym, ap, ◌∙◌}
use Rattle.std.specs.List.{AllByRecursion}
use Rattle.std.specs.List.Sorted.{IsStrictlySortedBy}
use Rattle.std.specs.Ordering.{nat_cmp, match_ordering, ordering_reverse, is_eq}
use Rattle.std.specs.declared.cmp.Ordering.TheVariants.{Less, Equal, Greater}
use Rattle.std.specs.Cmp.Lexicographic.{slice_cmp, nat_list_cmp_total, texts_ties}
use Rattle.std.specs.BTreeSet.{insert_key}
use Rattle.sarif_model.specs.declared.record.Record.{Record}
use Rattle.sarif_match.specs.Tiers.{names_of, with_names, rising_names, has_name}
use Rattle.sarif_evidence.proofs.EqualLemmas.{same_text}

abbrev text_cmp : List ℕ → List ℕ → Ordering
text_cmp = slice_cmp nat_cmp

each_of_match : (P : List ℕ → Type 0) (o : Ordering) (x y z : List (List ℕ)) → AllByRecursion P x → AllByRecursion P y → AllByRecursion P z
    → AllByRecursion P (match_ordering o x y z)
each_of_match P Less x y z a b c = a
each_of_match P Equal x y z a b c = b
each_of_match P Greater x y z a b c = c

each_inserted : (P : List ℕ → Type 0) (k : List ℕ) (ks : List (List ℕ)) → P k → AllByRecursion P ks → AllByRecursion P (insert_key text_cmp ks k)
each_inserted P k [] one each = (one, tt)
each_inserted P k (x ∷ ks) one each =
    each_of_match P (text_cmp k x) (k ∷ (x ∷ ks)) (x ∷ ks) (x ∷ insert_key text_cmp ks k) (one, each) each (each.0, each_inserted P k ks one each.1)

below_each : (k x : List ℕ) (ks : List (List ℕ)) → text_cmp k x ≡ Less → AllByRecursion (λ y. text_cmp x y ≡ Less) ks
    → AllByRecursion (λ y. text_cmp k y ≡ Less) ks
below_each k x [] lt each = tt
below_each k x (y ∷ ks) lt each =
    (nat_list_cmp_total.trans k x y lt each.0, below_each k x ks lt each.1)

-- rising names stay rising
sorted_inserted : (k : List ℕ) (ks : List (List ℕ)) → IsStrictlySortedBy text_cmp ks → IsStrictlySortedBy text_cmp (insert_key text_cmp ks k)
unfolding IsStrictlySortedBy
sorted_inserted k [] h = (tt, tt)
sorted_inserted k (x ∷ ks) h = at (text_cmp k x) refl (sorted_inserted k ks h.1)
  where
    at : (o : Ordering) → text_cmp k x ≡ o → IsStrictlySortedBy text_cmp (insert_key text_cmp ks k)
        → IsStrictlySortedBy text_cmp (match_ordering o (k ∷ (x ∷ ks)) (x ∷ ks) (x ∷ insert_key text_cmp ks k))
    at Less is rest = ((is, below_each k x ks is h.0), h)
    at Equal is rest = h
    at Greater is rest =
        (each_inserted (λ y. text_cmp x y ≡ Less) k ks (nat_list_cmp_total.antisymm x k ∙ ap ordering_reverse is) h.0, rest)

sorted_with : (names ks : List (List ℕ)) → IsStrictlySortedBy text_cmp ks → IsStrictlySortedBy text_cmp (with_names ks names)
sorted_with [] ks h = h
sorted_with (n ∷ names) ks h =
    sorted_with names (insert_key text_cmp ks n) (sorted_inserted n ks h)

no_names : IsStrictlySortedBy text_cmp []
unfolding IsStrictlySortedBy
no_names = tt

pub sorted_names : (current baseline : List Record) → IsStrictlySortedBy text_cmp (rising_names current baseline)
sorted_names current baseline =
    sorted_with (names_of baseline) (with_names [] (names_of current)) (sorted_with (names_of current) [] no_names)

pub or_swap : (a b c : Bool) → a || (b || c) ≡ b || (a || c)
or_swap true true c = refl
or_swap true false c = refl
or_swap false true c = refl
or_swap false false c = refl

or_twice : (a b c : Bool) → a ≡ b → b || c ≡ a || (b || c)
or_twice a true c e = sym (ap (λ (x : Bool). x || (true || c)) e)
or_twice a false c e = sym (ap (λ (x : Bool). x || (false || c)) e)

or_moved : (a b c : Bool) → (a || b) || c ≡ b || (a || c)
or_moved true true c = refl
or_moved true false c = refl
or_moved false true c = refl
or_moved false false c = refl

or_false : (a : Bool) → a ≡ a || false
or_false true = refl
or_false false = refl

module _ (name : List ℕ) where
  has_inserted : (k : List ℕ) (ks : List (List ℕ)) → has_name name (insert_key text_cmp ks k) ≡ bytes_eq k name || has_name name ks
  has_inserted k [] = refl
  has_inserted k (x ∷ ks) = at (text_cmp k x) refl (has_inserted k ks)
    where
      at : (o : Ordering) → text_cmp k x ≡ o → has_name name (insert_key text_cmp ks k) ≡ bytes_eq k name || has_name name ks
          → has_name name (match_ordering o (k ∷ (x ∷ ks)) (x ∷ ks) (x ∷ insert_key text_cmp ks k))
          ≡ bytes_eq k name || (bytes_eq x name || has_name name ks)
      at Less is rest = refl
      at Equal is rest =
          or_twice (bytes_eq k name) (bytes_eq x name) (has_name name ks) (ap (λ (t : List ℕ). bytes_eq t name) (same_text k x (texts_ties k x ∙ ap is_eq is)))
      at Greater is rest =
          ap (λ (b : Bool). bytes_eq x name || b) rest ∙ or_swap (bytes_eq x name) (bytes_eq k name) (has_name name ks)

  has_with : (names ks : List (List ℕ)) → has_name name (with_names ks names) ≡ has_name name ks || has_name name names
  has_with [] ks = or_false (has_name name ks)
  has_with (n ∷ names) ks =
      has_with names (insert_key text_cmp ks n) ∙ ap (λ (b : Bool). b || has_name name names) (has_inserted n ks)
      ∙ or_moved (bytes_eq n name) (has_name name ks) (has_name name names)

  pub has_names : (current baseline : List Record)
      → has_name name (rising_names current baseline) ≡ has_name name (names_of current) || has_name name (names_of baseline)
  has_names current baseline =
      has_with (names_of baseline) (with_names [] (names_of current))
      ∙ ap (λ (b : Bool). b || has_name name (names_of baseline)) (has_with (names_of current) [])
