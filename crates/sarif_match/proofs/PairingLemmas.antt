-- Queues and pairs, one result at a time.
use Rattle.std.proofs.Common.{◌≡◌, ℕ, ◌+◌, ◌<◌, suc, Bool, true, false, cond, List, [], ◌∷◌, ◌++◌, Option, Some, None, length, get_or, take, drop, map, filter, slice_get, refl, sym, ap, ◌∙◌, arith, length-append, append_assoc, append-nil}
use Rattle.std.proofs.Math.Seq.{drop-cons}
use Rattle.std.proofs.lemmas.List.{take_more, map-append}
use Rattle.std.proofs.lemmas.List.Elements.{filter-append}
use Rattle.sarif_match.proofs.ListLemmas.{slice_get-drop, drop-one}
use Rattle.sarif_match.specs.Pairing.{places, pairs_from, with_pair}

-- the pairs, with one more at the end if there is a match
abbrev pub pushed : List (ℕ × ℕ) → ℕ → Option ℕ → List (ℕ × ℕ)
pushed pairs i None = pairs
pushed pairs i (Some j) = pairs ++ ((i, j) ∷ [])

pushed-append : (pairs : List (ℕ × ℕ)) (i : ℕ) (o : Option ℕ) (rest : List (ℕ × ℕ)) → pushed pairs i o ++ rest ≡ pairs ++ with_pair i o rest
pushed-append pairs i None rest = refl
pushed-append pairs i (Some j) rest = append_assoc pairs ((i, j) ∷ []) rest

module _ {K : Type 0} (eq : K → K → Bool) where
  -- one result more at the end is one place more of its key
  pub places-push : (k : K) (xs : List (ℕ × K)) (e : ℕ × K) → places eq k (xs ++ (e ∷ [])) ≡ cond (eq e.1 k) (places eq k xs ++ (e.0 ∷ [])) (places eq k xs)
  places-push k xs e =
      ap (map (λ (x : ℕ × K). x.0)) (filter-append (λ (x : ℕ × K). eq x.1 k) xs (e ∷ []))
      ∙ map-append (λ (x : ℕ × K). x.0) (filter (λ (x : ℕ × K). eq x.1 k) xs) (filter (λ (x : ℕ × K). eq x.1 k) (e ∷ [])) ∙ by_test (eq e.1 k)
    where
      by_test : (b : Bool) → places eq k xs ++ map (λ (x : ℕ × K). x.0) (cond b (e ∷ []) []) ≡ cond b (places eq k xs ++ (e.0 ∷ [])) (places eq k xs)
      by_test true = refl
      by_test false = append-nil (places eq k xs)

  -- the results up to one more
  taken_more : (xs : List (ℕ × K)) (i : ℕ) (e : ℕ × K) → e ≡ get_or xs i e → i < length xs → take (i + 1) xs ≡ take i xs ++ (e ∷ [])
  taken_more xs i e here within =
      take_more xs i e within ∙ ap (λ (x : ℕ × K). take i xs ++ (x ∷ [])) (sym here)

  -- a queue that is filled has one result more
  pub queue_filled : (q : K) (xs : List (ℕ × K)) (i : ℕ) (e : ℕ × K) (old new : List ℕ) → e ≡ get_or xs i e → i < length xs
      → new ≡ cond (eq e.1 q) (old ++ (e.0 ∷ [])) old → old ≡ places eq q (take i xs) → new ≡ places eq q (take (i + 1) xs)
  queue_filled q xs i e old new here within step so_far =
      step ∙ ap (λ (ns : List ℕ). cond (eq e.1 q) (ns ++ (e.0 ∷ [])) ns) so_far ∙ sym (places-push q (take i xs) e)
      ∙ ap (places eq q) (sym (taken_more xs i e here within))

  -- a queue that is emptied has one result less
  pub queue_emptied : (q : K) (xs bs : List (ℕ × K)) (i : ℕ) (e : ℕ × K) (old new : List ℕ) → e ≡ get_or xs i e → i < length xs
      → new ≡ cond (eq e.1 q) (drop 1 old) old → old ≡ drop (length (places eq q (take i xs))) (places eq q bs)
      → new ≡ drop (length (places eq q (take (i + 1) xs))) (places eq q bs)
  queue_emptied q xs bs i e old new here within step so_far =
      step ∙ ap (λ (ns : List ℕ). cond (eq e.1 q) (drop 1 ns) ns) so_far ∙ by_test (eq e.1 q)
      ∙ ap (λ (ns : List ℕ). drop (length ns) (places eq q bs))
      (sym (places-push q (take i xs) e) ∙ ap (places eq q) (sym (taken_more xs i e here within)))
    where
      seen : List ℕ
      seen = places eq q (take i xs)

      by_test : (b : Bool) → cond b (drop 1 (drop (length seen) (places eq q bs))) (drop (length seen) (places eq q bs))
          ≡ drop (length (cond b (seen ++ (e.0 ∷ [])) seen)) (places eq q bs)
      by_test true =
          let longer : suc (length seen) ≡ length (seen ++ (e.0 ∷ [])) = omega (arith, length-append seen (e.0 ∷ [])) in
          drop-one (places eq q bs) (length seen) ∙ ap (λ (n : ℕ). drop n (places eq q bs)) longer
      by_test false = refl

  -- after one more result, the pairs found so far and the pairs that are left are still all pairs
  pub told_more : (xs bs : List (ℕ × K)) (i : ℕ) (e : ℕ × K) (pairs new : List (ℕ × ℕ)) (o : Option ℕ) (all : List (ℕ × ℕ))
      → e ≡ get_or xs i e → i < length xs → o ≡ slice_get (drop (length (places eq e.1 (take i xs))) (places eq e.1 bs)) 0
      → new ≡ pushed pairs e.0 o → pairs ++ pairs_from eq (take i xs) (drop i xs) bs ≡ all
      → new ++ pairs_from eq (take (i + 1) xs) (drop (i + 1) xs) bs ≡ all
  told_more xs bs i e pairs new o all here within popped pushed_on so_far =
      let rest : List (ℕ × ℕ) = pairs_from eq (take i xs ++ (e ∷ [])) (drop (suc i) xs) bs in
      let opened : drop i xs ≡ e ∷ drop (suc i) xs = drop-cons xs i e within ∙ ap (λ (x : ℕ × K). x ∷ drop (suc i) xs) (sym here) in
      let next : suc i ≡ i + 1 = omega arith in
      ap (λ (ps : List (ℕ × ℕ)). ps ++ pairs_from eq (take (i + 1) xs) (drop (i + 1) xs) bs) pushed_on
      ∙ ap (λ (seen : List (ℕ × K)). pushed pairs e.0 o ++ pairs_from eq seen (drop (i + 1) xs) bs) (taken_more xs i e here within)
      ∙ ap (λ (n : ℕ). pushed pairs e.0 o ++ pairs_from eq (take i xs ++ (e ∷ [])) (drop n xs) bs) (sym next)
      ∙ pushed-append pairs e.0 o rest
      ∙ ap (λ (p : Option ℕ). pairs ++ with_pair e.0 p rest)
      (popped ∙ slice_get-drop (places eq e.1 bs) (length (places eq e.1 (take i xs))))
      ∙ ap (λ (ys : List (ℕ × K)). pairs ++ pairs_from eq (take i xs) ys bs) (sym opened) ∙ so_far
