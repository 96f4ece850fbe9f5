-- Bodies in a row, followed by early ones: what they contain, and where one more goes.
use Rattle.std.proofs.Common.{◌≡◌, ℕ, ◌+◌, ◌<◌, ◌≤◌, ◌&&◌, true, false, cond, List, [], ◌∷◌, ◌++◌, map, length, Ordering, Some, refl, sym, ap, ◌∙◌, subst, ⊎_elim, arith, append_assoc}
use Rattle.std.specs.Prelude.{is_some}
use Rattle.std.specs.Ordering.{nat_cmp, match_ordering, is_eq}
use Rattle.std.specs.declared.cmp.Ordering.TheVariants.{Less, Equal, Greater}
use Rattle.std.specs.Cmp.{nat_cmp_is}
use Rattle.std.specs.List.{enumerate_from}
use Rattle.std.specs.BTreeMap.{is_at, insert_entry}
use Rattle.std.specs.Map.{lookup}
use Rattle.std.proofs.lemmas.Bool.{true≢false, cases_lt, cases_order, leb-true, le-leb, eqb-true, eq-eqb, and_parts, and_from}
use Rattle.sarif_collect.specs.Numbers.{has_number, all_from, counts_up}

cmp_less : (k j : ℕ) → k < j → nat_cmp k j ≡ Less
cmp_less k j h = sym (nat_cmp_is k j Less h)

cmp_equal : (k j : ℕ) → k ≡ j → nat_cmp k j ≡ Equal
cmp_equal k j h = sym (nat_cmp_is k j Equal h)

cmp_greater : (k j : ℕ) → j < k → nat_cmp k j ≡ Greater
cmp_greater k j h = sym (nat_cmp_is k j Greater h)

module _ {T : Type 0} where
  pub has_here : (k : ℕ) (e : ℕ × T) (es : List (ℕ × T)) → k ≡ e.0 → has_number k (e ∷ es) ≡ true
  has_here k e es h = ap (λ o. is_some (cond (is_eq o) (Some e.1) (lookup (is_at (nat_cmp k)) es))) (cmp_equal k e.0 h)

  pub has_less : (k : ℕ) (e : ℕ × T) (es : List (ℕ × T)) → k < e.0 → has_number k (e ∷ es) ≡ has_number k es
  has_less k e es h = ap (λ o. is_some (cond (is_eq o) (Some e.1) (lookup (is_at (nat_cmp k)) es))) (cmp_less k e.0 h)

  pub has_greater : (k : ℕ) (e : ℕ × T) (es : List (ℕ × T)) → e.0 < k → has_number k (e ∷ es) ≡ has_number k es
  has_greater k e es h = ap (λ o. is_some (cond (is_eq o) (Some e.1) (lookup (is_at (nat_cmp k)) es))) (cmp_greater k e.0 h)

  -- a number of the row is there
  pub has_in_row : (a k : ℕ) (xs : List T) (es : List (ℕ × T)) → a ≤ k → k < a + length xs → has_number k (enumerate_from a xs ++ es) ≡ true
  has_in_row a k [] es low high = absurd (omega arith)
  has_in_row a k (x ∷ xs) es low high =
      ⊎_elim (λ (h : a < k). has_greater k (a, x) (enumerate_from (a + 1) xs ++ es) h ∙ has_in_row (a + 1) k xs es (omega arith) (omega arith))
      (λ (h : k ≤ a). has_here k (a, x) (enumerate_from (a + 1) xs ++ es) (omega arith)) (cases_lt a k)

  -- a number past the row is there where it is among the early ones
  pub has_past_row : (a k : ℕ) (xs : List T) (es : List (ℕ × T)) → a + length xs ≤ k → has_number k (enumerate_from a xs ++ es) ≡ has_number k es
  has_past_row a k [] es high = refl
  has_past_row a k (x ∷ xs) es high = has_greater k (a, x) (enumerate_from (a + 1) xs ++ es) (omega arith) ∙ has_past_row (a + 1) k xs es (omega arith)

  pub insert_less : (k : ℕ) (v : T) (e : ℕ × T) (es : List (ℕ × T)) → k < e.0 → insert_entry nat_cmp (e ∷ es) k v ≡ (k, v) ∷ e ∷ es
  insert_less k v e es h = ap (λ o. match_ordering o ((k, v) ∷ e ∷ es) ((e.0, v) ∷ es) (e ∷ insert_entry nat_cmp es k v)) (cmp_less k e.0 h)

  pub insert_greater : (k : ℕ) (v : T) (e : ℕ × T) (es : List (ℕ × T)) → e.0 < k → insert_entry nat_cmp (e ∷ es) k v ≡ e ∷ insert_entry nat_cmp es k v
  insert_greater k v e es h = ap (λ o. match_ordering o ((k, v) ∷ e ∷ es) ((e.0, v) ∷ es) (e ∷ insert_entry nat_cmp es k v)) (cmp_greater k e.0 h)

  -- a number past the row goes among the early ones
  pub insert_past_row : (a k : ℕ) (v : T) (xs : List T) (es : List (ℕ × T)) → a + length xs ≤ k
      → insert_entry nat_cmp (enumerate_from a xs ++ es) k v ≡ enumerate_from a xs ++ insert_entry nat_cmp es k v
  insert_past_row a k v [] es high = refl
  insert_past_row a k v (x ∷ xs) es high = insert_greater k v (a, x) (enumerate_from (a + 1) xs ++ es) (omega arith)
      ∙ ap (λ l. (a, x) ∷ l) (insert_past_row (a + 1) k v xs es (omega arith))

  -- a number below all goes before all
  pub insert_below : (k : ℕ) (v : T) (es : List (ℕ × T)) → all_from k es ≡ true → has_number k es ≡ false → insert_entry nat_cmp es k v ≡ (k, v) ∷ es
  insert_below k v [] low none = refl
  insert_below k v (e ∷ es) low none =
      ⊎_elim (λ (h : k ≡ e.0). absurd (true≢false (sym (has_here k e es h) ∙ none)))
      (λ o. ⊎_elim (λ (h : k < e.0). insert_less k v e es h)
      (λ (h : e.0 < k). absurd (let low' = leb-true k e.0 (and_parts _ _ low).0 in omega arith)) o) (cases_order k e.0)

  pub enumerate-push : (a : ℕ) (xs : List T) (x : T) → enumerate_from a (xs ++ x ∷ []) ≡ enumerate_from a xs ++ (a + length xs, x) ∷ []
  enumerate-push a [] x = ap (λ n. (n, x) ∷ []) (omega arith)
  enumerate-push a (y ∷ ys) x = ap (λ l. (a, y) ∷ l) (enumerate-push (a + 1) ys x ∙ ap (λ n. enumerate_from (a + 1) ys ++ (n, x) ∷ []) (omega arith))

  -- the next number of the row goes to its end
  pub insert_next : (k : ℕ) (v : T) (xs : List T) (es : List (ℕ × T)) → k ≡ length xs → all_from k es ≡ true → has_number k es ≡ false
      → insert_entry nat_cmp (enumerate_from 0 xs ++ es) k v ≡ enumerate_from 0 (xs ++ v ∷ []) ++ es
  insert_next k v xs es is low none =
      insert_past_row 0 k v xs es (omega arith) ∙ ap (λ l. enumerate_from 0 xs ++ l) (insert_below k v es low none)
      ∙ sym (append_assoc (enumerate_from 0 xs) ((k, v) ∷ []) es)
      ∙ ap (λ (l : List (ℕ × T)). l ++ es) (ap (λ n. enumerate_from 0 xs ++ (n, v) ∷ []) (omega arith) ∙ sym (enumerate-push 0 xs v))

  -- what is from k on, without k, is from k + 1 on
  pub all_from_next : (k : ℕ) (es : List (ℕ × T)) → all_from k es ≡ true → has_number k es ≡ false → all_from (k + 1) es ≡ true
  all_from_next k [] low none = refl
  all_from_next k (e ∷ es) low none = let parts = and_parts _ _ low in
      ⊎_elim (λ (h : k ≡ e.0). absurd (true≢false (sym (has_here k e es h) ∙ none)))
      (λ o. ⊎_elim (λ (h : k < e.0). and_from _ _ (le-leb (k + 1) e.0 (omega arith)) (all_from_next k es parts.1 (sym (has_less k e es h) ∙ none)))
      (λ (h : e.0 < k). absurd (let low' = leb-true k e.0 parts.0 in omega arith)) o) (cases_order k e.0)

  pub all_from-insert : (n k : ℕ) (v : T) (es : List (ℕ × T)) → n ≤ k → all_from n es ≡ true → all_from n (insert_entry nat_cmp es k v) ≡ true
  all_from-insert n k v [] h low = and_from _ _ (le-leb n k h) refl
  all_from-insert n k v (e ∷ es) h low = let parts = and_parts _ _ low in
      ⊎_elim (λ (i : k ≡ e.0). let P : Ordering
      → Type 0 = λ o. all_from n (match_ordering o ((k, v) ∷ e ∷ es) ((e.0, v) ∷ es) (e ∷ insert_entry nat_cmp es k v)) ≡ true in
      subst P (sym (cmp_equal k e.0 i)) low)
      (λ o. ⊎_elim (λ (i : k < e.0). ap (all_from n) (insert_less k v e es i) ∙ and_from _ _ (le-leb n k h) low)
      (λ (i : e.0 < k). ap (all_from n) (insert_greater k v e es i) ∙ and_from _ _ parts.0 (all_from-insert n k v es h parts.1)) o) (cases_order k e.0)

  -- counting up goes through the row
  pub counts_through_row : (a count : ℕ) (xs : List T) (es : List (ℕ × T)) → counts_up a count (enumerate_from a xs ++ es) ≡ counts_up (a + length xs) count es
  counts_through_row a count [] es = ap (λ n. counts_up n count es) (omega arith)
  counts_through_row a count (x ∷ xs) es = ap (λ b. b && counts_up (a + 1) count (enumerate_from (a + 1) xs ++ es)) (eq-eqb a a refl)
      ∙ counts_through_row (a + 1) count xs es ∙ ap (λ n. counts_up n count es) (omega arith)

  -- bodies whose numbers count up are those of a list
  pub counted : (n count : ℕ) (es : List (ℕ × T)) → counts_up n count es ≡ true → es ≡ enumerate_from n (map (λ e. e.1) es)
  counted n count [] h = refl
  counted n count (e ∷ es) h = let parts = and_parts _ _ h in λ i. (eqb-true e.0 n parts.0 i, e.1) ∷ counted (n + 1) count es parts.1 i

  pub enumerate-append : (a : ℕ) (xs ys : List T) → enumerate_from a (xs ++ ys) ≡ enumerate_from a xs ++ enumerate_from (a + length xs) ys
  enumerate-append a [] ys = ap (λ n. enumerate_from n ys) (omega arith)
  enumerate-append a (x ∷ xs) ys =
      ap (λ l. (a, x) ∷ l) (enumerate-append (a + 1) xs ys ∙ ap (λ n. enumerate_from (a + 1) xs ++ enumerate_from n ys) (omega arith))

  -- an absent number is past the row, and no early one
  pub absent : (k : ℕ) (xs : List T) (es : List (ℕ × T)) → has_number k (enumerate_from 0 xs ++ es) ≡ false → (length xs ≤ k) × (has_number k es ≡ false)
  absent k xs es none =
      ⊎_elim (λ (h : k < length xs). absurd (true≢false (sym (has_in_row 0 k xs es (omega arith) (omega arith)) ∙ none)))
      (λ (h : length xs ≤ k). (h, sym (has_past_row 0 k xs es (omega arith)) ∙ none)) (cases_lt k (length xs))

  -- a row followed by early bodies, consecutive together, is one list
  pub list_of : (count : ℕ) (xs : List T) (es : List (ℕ × T)) → counts_up 0 count (enumerate_from 0 xs ++ es) ≡ true
      → enumerate_from 0 xs ++ es ≡ enumerate_from 0 (xs ++ map (λ e. e.1) es)
  list_of count xs es h =
      let rest : counts_up (length xs) count es ≡ true = ap (λ n. counts_up n count es) (omega arith) ∙ sym (counts_through_row 0 count xs es) ∙ h in
      ap (λ (l : List (ℕ × T)). enumerate_from 0 xs ++ l) (counted (length xs) count es rest)
      ∙ ap (λ (n : ℕ). enumerate_from 0 xs ++ enumerate_from n (map (λ e. e.1) es)) (omega arith)
      ∙ sym (enumerate-append 0 xs (map (λ e. e.1) es))
