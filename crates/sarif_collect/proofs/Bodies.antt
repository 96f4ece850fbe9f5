-- Bodies under their numbers: in the order of arrival, in the order of their numbers, and in a row.
use Rattle.std.proofs.Common.{◌≡◌, ◌≢◌, ℕ, suc, ◌+◌, ◌<◌, ◌≤◌, eqb, true, false, List, [], ◌∷◌, ◌++◌, length, refl, sym, ap, ◌∙◌, subst, ⊎_elim, arith, append-nil, eq-eqb}
use Rattle.std.specs.List.{range_with_len, flat_map, enumerate_from}
use Rattle.std.specs.Ordering.{nat_cmp}
use Rattle.std.specs.BTreeMap.{insert_entry}
use Rattle.std.proofs.lemmas.Bool.{true≢false, cases_eq, cases_order, eqb-true, and_parts, and_from}
use Rattle.std.proofs.lemmas.List.{length_push}
use Rattle.sarif_collect.specs.Lawful.{bodies_at, in_order}
use Rattle.sarif_collect.specs.Numbers.{has_number, counts_up}
use Rattle.sarif_dispatch.proofs.Deliveries.{of_same, of_other, of-append}
use Rattle.sarif_collect.proofs.Numbering.{has_here, has_less, has_greater, insert_less, insert_greater}

module _ {T : Type 0} where
  at_other : (k : ℕ) (e : ℕ × T) (es : List (ℕ × T)) → e.0 ≢ k → bodies_at k (e ∷ es) ≡ bodies_at k es
  at_other k e es n = of_other e.0 k e.1 es n

  at_same : (k : ℕ) (e : ℕ × T) (es : List (ℕ × T)) → e.0 ≡ k → bodies_at k (e ∷ es) ≡ e.1 ∷ bodies_at k es
  at_same k e es h = subst (λ j. bodies_at j (e ∷ es) ≡ e.1 ∷ bodies_at j es) h (of_same e.0 e.1 es)

  -- an absent number has no bodies
  none_at : (k : ℕ) (es : List (ℕ × T)) → has_number k es ≡ false → bodies_at k es ≡ []
  none_at k [] none = refl
  none_at k (e ∷ es) none =
      ⊎_elim (λ (h : k ≡ e.0). absurd (true≢false (sym (has_here k e es h) ∙ none)))
      (λ o. ⊎_elim (λ (h : k < e.0). at_other k e es (λ q. omega arith) ∙ none_at k es (sym (has_less k e es h) ∙ none))
      (λ (h : e.0 < k). at_other k e es (λ q. omega arith) ∙ none_at k es (sym (has_greater k e es h) ∙ none)) o) (cases_order k e.0)

  -- a number without bodies is absent
  pub absent : (k : ℕ) (es : List (ℕ × T)) → bodies_at k es ≡ [] → has_number k es ≡ false
  absent k [] none = refl
  absent k (e ∷ es) none =
      ⊎_elim (λ (h : k ≡ e.0). absurd (let m : e.1 ∷ bodies_at k es ≡ [] = sym (at_same k e es (sym h)) ∙ none in cc))
      (λ o. ⊎_elim (λ (h : k < e.0). has_less k e es h ∙ absent k es (sym (at_other k e es (λ q. omega arith)) ∙ none))
      (λ (h : e.0 < k). has_greater k e es h ∙ absent k es (sym (at_other k e es (λ q. omega arith)) ∙ none)) o) (cases_order k e.0)

  cons_at : (j : ℕ) (e : ℕ × T) (es fs : List (ℕ × T)) → bodies_at j es ≡ bodies_at j fs → bodies_at j (e ∷ es) ≡ bodies_at j (e ∷ fs)
  cons_at j e es fs same =
      ⊎_elim (λ (h : e.0 ≡ j). at_same j e es h ∙ ap (λ l. e.1 ∷ l) same ∙ sym (at_same j e fs h))
      (λ (n : e.0 ≡ j → ⊥). at_other j e es n ∙ same ∙ sym (at_other j e fs n)) (cases_eq e.0 j)

  -- an insertion of a fresh number adds its body, and nothing else
  insert_mine : (k : ℕ) (v : T) (es : List (ℕ × T)) → has_number k es ≡ false → bodies_at k (insert_entry nat_cmp es k v) ≡ v ∷ []
  insert_mine k v [] none = of_same k v []
  insert_mine k v (e ∷ es) none =
      ⊎_elim (λ (h : k ≡ e.0). absurd (true≢false (sym (has_here k e es h) ∙ none)))
      (λ o. ⊎_elim (λ (h : k < e.0). ap (bodies_at k) (insert_less k v e es h) ∙ of_same k v (e ∷ es) ∙ ap (λ l. v ∷ l) (none_at k (e ∷ es) none))
      (λ (h : e.0 < k). ap (bodies_at k) (insert_greater k v e es h) ∙ at_other k e (insert_entry nat_cmp es k v) (λ q. omega arith)
      ∙ insert_mine k v es (sym (has_greater k e es h) ∙ none)) o) (cases_order k e.0)

  insert_others : (k : ℕ) (v : T) (es : List (ℕ × T)) → has_number k es ≡ false → (j : ℕ) → k ≢ j → bodies_at j (insert_entry nat_cmp es k v) ≡ bodies_at j es
  insert_others k v [] none j n = of_other k j v [] n
  insert_others k v (e ∷ es) none j n =
      ⊎_elim (λ (h : k ≡ e.0). absurd (true≢false (sym (has_here k e es h) ∙ none)))
      (λ o. ⊎_elim (λ (h : k < e.0). ap (bodies_at j) (insert_less k v e es h) ∙ of_other k j v (e ∷ es) n)
      (λ (h : e.0 < k). ap (bodies_at j) (insert_greater k v e es h)
      ∙ cons_at j e (insert_entry nat_cmp es k v) es (insert_others k v es (sym (has_greater k e es h) ∙ none) j n)) o) (cases_order k e.0)

  length-insert : (k : ℕ) (v : T) (es : List (ℕ × T)) → has_number k es ≡ false → length (insert_entry nat_cmp es k v) ≡ suc (length es)
  length-insert k v [] none = refl
  length-insert k v (e ∷ es) none =
      ⊎_elim (λ (h : k ≡ e.0). absurd (true≢false (sym (has_here k e es h) ∙ none)))
      (λ o. ⊎_elim (λ (h : k < e.0). ap length (insert_less k v e es h))
      (λ (h : e.0 < k). ap length (insert_greater k v e es h) ∙ ap suc (length-insert k v es (sym (has_greater k e es h) ∙ none))) o) (cases_order k e.0)

  -- the same bodies under the same numbers
  pub record Tells (es bodies : List (ℕ × T)) : Type 0 where
    pub len : length es ≡ length bodies
    pub at : (k : ℕ) → bodies_at k es ≡ bodies_at k bodies

  pub tells_more : (k : ℕ) (v : T) (es bodies : List (ℕ × T)) → has_number k es ≡ false → Tells es bodies
      → Tells (insert_entry nat_cmp es k v) (bodies ++ (k, v) ∷ [])
  tells_more k v es bodies none t = record {
    len = let one = length-insert k v es none in let more = length_push bodies (k, v) in omega (arith, one, more, t.len);
    at = λ j. ⊎_elim
        (λ (h : k ≡ j). subst (λ m. bodies_at m (insert_entry nat_cmp es k v) ≡ bodies_at m (bodies ++ (k, v) ∷ [])) h
        (insert_mine k v es none ∙ sym (of-append k bodies ((k, v) ∷ []) ∙ (λ i. (sym (t.at k) ∙ none_at k es none) i ++ of_same k v [] i))))
        (λ (n : k ≡ j → ⊥). insert_others k v es none j n ∙ t.at j
        ∙ sym (of-append j bodies ((k, v) ∷ []) ∙ ap (λ l. bodies_at j bodies ++ l) (of_other k j v [] n) ∙ append-nil (bodies_at j bodies)))
        (cases_eq k j);
  }

  -- numbers that rise from a on
  abbrev pub Rising : ℕ → List (ℕ × T) → Type 0
  Rising a [] = Unit {0}
  Rising a (e ∷ es) = (a ≤ e.0) × Rising (e.0 + 1) es

  pub rising-insert : (a k : ℕ) (v : T) (es : List (ℕ × T)) → has_number k es ≡ false → a ≤ k → Rising a es → Rising a (insert_entry nat_cmp es k v)
  rising-insert a k v [] none low up = (low, tt)
  rising-insert a k v (e ∷ es) none low up =
      ⊎_elim (λ (h : k ≡ e.0). absurd (true≢false (sym (has_here k e es h) ∙ none)))
      (λ o. ⊎_elim (λ (h : k < e.0). subst (Rising a) (sym (insert_less k v e es h)) (low, (omega arith, up.1)))
      (λ (h : e.0 < k). subst (Rising a) (sym (insert_greater k v e es h))
      (up.0, rising-insert (e.0 + 1) k v es (sym (has_greater k e es h) ∙ none) (omega arith) up.1)) o) (cases_order k e.0)

  below_rising : (a k : ℕ) (es : List (ℕ × T)) → k < a → Rising a es → bodies_at k es ≡ []
  below_rising a k [] lt up = refl
  below_rising a k (e ∷ es) lt up = at_other k e es (λ q. omega (arith, up.0)) ∙ below_rising (e.0 + 1) k es (omega (arith, up.0)) up.1

  -- rising numbers that include each number from a up to n, and no others, are consecutive
  pub counts : (a n : ℕ) (es : List (ℕ × T)) → Rising a es → a + length es ≡ n → ((k : ℕ) → a ≤ k → k < n → bodies_at k es ≢ []) → counts_up a n es ≡ true
  counts a n [] up len there = eq-eqb a n (omega arith)
  counts a n (e ∷ es) up len there =
      let first : e.0 ≡ a = ⊎_elim (λ (h : e.0 ≡ a). h)
      (λ (m : e.0 ≡ a → ⊥). absurd
      (there a (omega arith) (omega arith) (at_other a e es m ∙ below_rising (e.0 + 1) a es (omega (arith, up.0)) up.1))) (cases_eq e.0 a) in
      and_from _ _ (eq-eqb e.0 a first)
      (counts (a + 1) n es (subst (λ m. Rising (m + 1) es) first up.1) (omega arith)
      (λ k low high none. there k (omega arith) high (at_other k e es (λ q. omega (arith, first)) ∙ none)))

  -- numbers that count up
  pub row_below : (a k : ℕ) (xs : List T) → k < a → bodies_at k (enumerate_from a xs) ≡ []
  row_below a k [] lt = refl
  row_below a k (x ∷ xs) lt = of_other a k x (enumerate_from (a + 1) xs) (λ q. omega arith) ∙ row_below (a + 1) k xs (omega arith)

  pub row_above : (a k : ℕ) (xs : List T) → a + length xs ≤ k → bodies_at k (enumerate_from a xs) ≡ []
  row_above a k [] le = refl
  row_above a k (x ∷ xs) le = of_other a k x (enumerate_from (a + 1) xs) (λ q. omega arith) ∙ row_above (a + 1) k xs (omega arith)

  pub row_in : (a k : ℕ) (xs : List T) → a ≤ k → k < a + length xs → length (bodies_at k (enumerate_from a xs)) ≡ 1
  row_in a k [] low high = absurd (omega arith)
  row_in a k (x ∷ xs) low high =
      ⊎_elim
      (λ (h : a ≡ k). subst (λ m. length (bodies_at m ((a, x) ∷ enumerate_from (a + 1) xs)) ≡ 1) h
      (ap length (of_same a x (enumerate_from (a + 1) xs) ∙ ap (λ l. x ∷ l) (row_below (a + 1) a xs (omega arith)))))
      (λ (n : a ≡ k → ⊥). ap length (of_other a k x (enumerate_from (a + 1) xs) n) ∙ row_in (a + 1) k xs (omega (arith, n)) (omega arith))
      (cases_eq a k)

  in_order_from : (a : ℕ) (xs : List T) (bodies : List (ℕ × T)) → ((k : ℕ) → a ≤ k → bodies_at k bodies ≡ bodies_at k (enumerate_from a xs))
      → flat_map (λ k. bodies_at k bodies) (range_with_len a (length xs)) ≡ xs
  in_order_from a [] bodies same = refl
  in_order_from a (x ∷ xs) bodies same =
      (λ i. (same a (omega arith) ∙ of_same a x (enumerate_from (a + 1) xs) ∙ ap (λ l. x ∷ l) (row_below (a + 1) a xs (omega arith))) i
      ++ flat_map (λ k. bodies_at k bodies) (range_with_len (a + 1) (length xs)))
      ∙ ap (λ l. x ∷ l) (in_order_from (a + 1) xs bodies (λ k le. same k (omega arith) ∙ of_other a k x (enumerate_from (a + 1) xs) (λ q. omega arith)))

  pub length-enumerate : (a : ℕ) (xs : List T) → length (enumerate_from a xs) ≡ length xs
  length-enumerate a [] = refl
  length-enumerate a (x ∷ xs) = ap suc (length-enumerate (a + 1) xs)

  -- bodies that a row contains are in its order
  pub in_order_row : (xs : List T) (bodies : List (ℕ × T)) → Tells (enumerate_from 0 xs) bodies → in_order bodies ≡ xs
  in_order_row xs bodies t =
      let len : length bodies ≡ length xs = sym t.len ∙ length-enumerate 0 xs in
      ap (λ n. flat_map (λ k. bodies_at k bodies) (range_with_len 0 n)) len ∙ in_order_from 0 xs bodies (λ k le. sym (t.at k))

  pub counts_length : (n count : ℕ) (es : List (ℕ × T)) → counts_up n count es ≡ true → count ≡ n + length es
  counts_length n count [] h = let e = eqb-true n count h in omega arith
  counts_length n count (e ∷ es) h = let r : count ≡ n + 1 + length es =
      counts_length (n + 1) count es (and_parts (eqb e.0 n) (counts_up (n + 1) count es) h).1 in omega arith
