-- The position of a result in a list of numbered keys, and the places, ranks and pairs that follow from it.
use Rattle.std.proofs.Common.{◌≡◌, ℕ, ◌+◌, ◌<◌, zero, suc, Bool, true, false, cond, ◌&&◌, ◌⊎◌, inl, inr, List, [], ◌∷◌, ◌++◌, Option, Some, None, length, nat_lt, map, filter, slice_get, refl, sym, ap, ◌∙◌, subst, arith, append_assoc, length-append, append-nil}
use Rattle.std.proofs.lemmas.List.{map-append}
use Rattle.std.proofs.lemmas.List.Elements.{filter-append}
use Rattle.std.proofs.lemmas.Bool.{lt-ltb, le-ltb}
use Rattle.std.proofs.lemmas.Option.{same_Some}
use Rattle.sarif_match.specs.Internal.Named.{AreNumberedBelow}
use Rattle.sarif_match.specs.Pairing.{places, pairs_from, with_pair}
use Rattle.sarif_match.proofs.ListLemmas.{slice_get-middle}

-- the pair is among these
abbrev pub HasPair : List (ℕ × ℕ) → ℕ → ℕ → Type 0
HasPair [] i j = ⊥
HasPair (p ∷ ps) i j = (p ≡ (i, j)) ⊎ HasPair ps i j

module _ {X : Type 0} where
  pub cons_first : (x y : X) (xs ys : List X) → x ∷ xs ≡ y ∷ ys → x ≡ y
  cons_first x y xs ys e = cc

  pub cons_rest : (x y : X) (xs ys : List X) → x ∷ xs ≡ y ∷ ys → xs ≡ ys
  cons_rest x y xs ys e = cc

  nil_is_no_cons : (x : X) (xs : List X) → [] ≡ x ∷ xs → ⊥
  nil_is_no_cons x xs e = cc

  pub nil_has_no_middle : (before : List X) (x : X) (after : List X) → [] ≡ before ++ (x ∷ after) → ⊥
  nil_has_no_middle [] x after e = nil_is_no_cons x after e
  nil_has_no_middle (b ∷ before) x after e = nil_is_no_cons b (before ++ (x ∷ after)) e

  pub none_is_no_some : (x : X) → None ≡ Some x → ⊥
  none_is_no_some x e = cc

  module _ (p : X → Bool) where
    -- what is kept is between what is kept from both sides
    pub filter-split : (before : List X) (x : X) (after : List X) → p x ≡ true → filter p (before ++ (x ∷ after)) ≡ filter p before ++ (x ∷ filter p after)
    filter-split before x after kept =
        filter-append p before (x ∷ after) ∙ ap (λ (b : Bool). filter p before ++ cond b (x ∷ filter p after) (filter p after)) kept

    -- a kept element within a list; `front` is kept before it
    pub record SplitsKept (xs front : List X) (x : X) : Type 0 where
      pub before : List X
      pub after : List X
      pub split : xs ≡ before ++ (x ∷ after)
      pub kept : p x ≡ true
      pub front_is : filter p before ≡ front

    kept_here : (y : X) (ys front : List X) (x : X) (rear : List X) → p y ≡ true → y ∷ filter p ys ≡ front ++ (x ∷ rear)
        → ((front' : List X) → filter p ys ≡ front' ++ (x ∷ rear) → SplitsKept ys front' x) → SplitsKept (y ∷ ys) front x
    kept_here y ys [] x rear is e rest =
        let same : y ≡ x = cons_first y x (filter p ys) rear e in
        record { before = []; after = ys; split = ap (λ (z : X). z ∷ ys) same; kept = subst (λ (z : X). p z ≡ true) same is; front_is = refl }
    kept_here y ys (f ∷ front) x rear is e rest =
        let same : y ≡ f = cons_first y f (filter p ys) (front ++ (x ∷ rear)) e in
        let found = rest front (cons_rest y f (filter p ys) (front ++ (x ∷ rear)) e) in
        record {
          before = y ∷ found.before;
          after = found.after;
          split = ap (λ (zs : List X). y ∷ zs) found.split;
          kept = found.kept;
          front_is = ap (λ (b : Bool). cond b (y ∷ filter p found.before) (filter p found.before)) is
              ∙ ap (λ (zs : List X). y ∷ zs) found.front_is ∙ ap (λ (z : X). z ∷ front) same;
        }

    not_kept_here : (y : X) (ys front : List X) (x : X) → p y ≡ false → SplitsKept ys front x → SplitsKept (y ∷ ys) front x
    not_kept_here y ys front x is found = record {
      before = y ∷ found.before;
      after = found.after;
      split = ap (λ (zs : List X). y ∷ zs) found.split;
      kept = found.kept;
      front_is = ap (λ (b : Bool). cond b (y ∷ filter p found.before) (filter p found.before)) is ∙ found.front_is;
    }

    kept_or_not : (y : X) (ys front : List X) (x : X) (rear : List X) (b : Bool) → p y ≡ b
        → cond b (y ∷ filter p ys) (filter p ys) ≡ front ++ (x ∷ rear)
        → ((front' : List X) → filter p ys ≡ front' ++ (x ∷ rear) → SplitsKept ys front' x) → SplitsKept (y ∷ ys) front x
    kept_or_not y ys front x rear true is e rest = kept_here y ys front x rear is e rest
    kept_or_not y ys front x rear false is e rest = not_kept_here y ys front x is (rest front e)

    -- an element among the kept ones is in the whole list
    pub split-filter : (xs front : List X) (x : X) (rear : List X) → filter p xs ≡ front ++ (x ∷ rear) → SplitsKept xs front x
    split-filter [] front x rear e = absurd (nil_has_no_middle front x rear e)
    split-filter (y ∷ ys) front x rear e =
        kept_or_not y ys front x rear (p y) refl e (λ front' e'. split-filter ys front' x rear e')

HasPair-with_pair : (n i j : ℕ) (o : Option ℕ) (rest : List (ℕ × ℕ)) → HasPair rest i j → HasPair (with_pair n o rest) i j
HasPair-with_pair n i j None rest h = h
HasPair-with_pair n i j (Some m) rest h = inr h

module _ {K : Type 0} where
  -- all these results have numbers above n
  abbrev pub IsAbove : ℕ → List (ℕ × K) → Type 0
  IsAbove n [] = Unit {0}
  IsAbove n (e ∷ es) = (n < e.0) × IsAbove n es

  module _ (eq : K → K → Bool) where
    -- the place of a result in the list of its key
    pub slice_get-places : (key : K) (before : List (ℕ × K)) (e : ℕ × K) (after : List (ℕ × K)) → eq e.1 key ≡ true
        → slice_get (places eq key (before ++ (e ∷ after))) (length (places eq key before)) ≡ Some e.0
    slice_get-places key before e after same =
        let number = λ (x : ℕ × K). x.0 in
        let test = λ (x : ℕ × K). eq x.1 key in
        ap (λ (ns : List ℕ). slice_get ns (length (places eq key before)))
        (ap (map number) (filter-split test before e after same) ∙ map-append number (filter test before) (e ∷ filter test after))
        ∙ slice_get-middle (places eq key before) e.0 (map number (filter test after))

    -- a result at a place in the list of a key
    pub record StandsInPlaces (key : K) (es : List (ℕ × K)) (r j : ℕ) : Type 0 where
      pub before : List (ℕ × K)
      pub own : K
      pub after : List (ℕ × K)
      pub split : es ≡ before ++ ((j, own) ∷ after)
      pub same : eq own key ≡ true
      pub place : length (places eq key before) ≡ r

    stands_here : (key : K) (e : ℕ × K) (es : List (ℕ × K)) (j : ℕ) → eq e.1 key ≡ true → e.0 ≡ j → StandsInPlaces key (e ∷ es) 0 j
    stands_here key e es j same at = record {
      before = [];
      own = e.1;
      after = es;
      split = ap (λ (n : ℕ). (n, e.1) ∷ es) at;
      same = same;
      place = refl;
    }

    stands_further : (key : K) (e : ℕ × K) (es : List (ℕ × K)) (r j : ℕ) → eq e.1 key ≡ true → StandsInPlaces key es r j → StandsInPlaces key (e ∷ es) (suc r) j
    stands_further key e es r j same rest = record {
      before = e ∷ rest.before;
      own = rest.own;
      after = rest.after;
      split = ap (λ (xs : List (ℕ × K)). e ∷ xs) rest.split;
      same = rest.same;
      place =
          ap
          (λ (b : Bool). length
          (map (λ (x : ℕ × K). x.0)
          (cond b (e ∷ filter (λ (x : ℕ × K). eq x.1 key) rest.before) (filter (λ (x : ℕ × K). eq x.1 key) rest.before))))
          same ∙ ap suc rest.place;
    }

    stands_past : (key : K) (e : ℕ × K) (es : List (ℕ × K)) (r j : ℕ) → eq e.1 key ≡ false → StandsInPlaces key es r j → StandsInPlaces key (e ∷ es) r j
    stands_past key e es r j other rest = record {
      before = e ∷ rest.before;
      own = rest.own;
      after = rest.after;
      split = ap (λ (xs : List (ℕ × K)). e ∷ xs) rest.split;
      same = rest.same;
      place =
          ap
          (λ (b : Bool). length
          (map (λ (x : ℕ × K). x.0)
          (cond b (e ∷ filter (λ (x : ℕ × K). eq x.1 key) rest.before) (filter (λ (x : ℕ × K). eq x.1 key) rest.before)))) other ∙ rest.place;
    }

    stands_by : (key : K) (e : ℕ × K) (es : List (ℕ × K)) (r j : ℕ) (b : Bool) → eq e.1 key ≡ b
        → slice_get (map (λ (x : ℕ × K). x.0) (cond b (e ∷ filter (λ (x : ℕ × K). eq x.1 key) es) (filter (λ (x : ℕ × K). eq x.1 key) es)))
        r ≡ Some j → ((q : ℕ) → slice_get (places eq key es) q ≡ Some j → StandsInPlaces key es q j) → StandsInPlaces key (e ∷ es) r j
    stands_by key e es zero j true is found rest = stands_here key e es j is (same_Some e.0 j found)
    stands_by key e es (suc r) j true is found rest = stands_further key e es r j is (rest r found)
    stands_by key e es r j false is found rest = stands_past key e es r j is (rest r found)

    pub stands_in_places : (key : K) (es : List (ℕ × K)) (r j : ℕ) → slice_get (places eq key es) r ≡ Some j → StandsInPlaces key es r j
    stands_in_places key [] r j found = absurd (none_is_no_some j found)
    stands_in_places key (e ∷ es) r j found =
        stands_by key e es r j (eq e.1 key) refl found (λ q. stands_in_places key es q j)

    -- a current result with a baseline result at its place is paired with it
    pub pair_made : (seen before : List (ℕ × K)) (i : ℕ) (key : K) (after bs : List (ℕ × K)) (j : ℕ)
        → slice_get (places eq key bs) (length (places eq key (seen ++ before))) ≡ Some j
        → HasPair (pairs_from eq seen (before ++ ((i, key) ∷ after)) bs) i j
    pair_made seen [] i key after bs j found =
        let rest : List (ℕ × ℕ) = pairs_from eq (seen ++ ((i, key) ∷ [])) after bs in
        let partner : slice_get (places eq key bs) (length (places eq key seen)) ≡ Some j =
        ap (λ (xs : List (ℕ × K)). slice_get (places eq key bs) (length (places eq key xs))) (sym (append-nil seen)) ∙ found in
        subst (λ (o : Option ℕ). HasPair (with_pair i o rest) i j) (sym partner) (inl refl)
    pair_made seen (b ∷ before) i key after bs j found =
        let found' : slice_get (places eq key bs) (length (places eq key ((seen ++ (b ∷ [])) ++ before))) ≡ Some j =
        ap (λ (xs : List (ℕ × K)). slice_get (places eq key bs) (length (places eq key xs))) (append_assoc seen (b ∷ []) before) ∙ found in
        HasPair-with_pair b.0 i j (slice_get (places eq b.1 bs) (length (places eq b.1 seen)))
        (pairs_from eq (seen ++ (b ∷ [])) (before ++ ((i, key) ∷ after)) bs) (pair_made (seen ++ (b ∷ [])) before i key after bs j found')

    -- a pair is of a current result and the baseline result at its place
    pub record IsPairOf (seen es bs : List (ℕ × K)) (i j : ℕ) : Type 0 where
      pub before : List (ℕ × K)
      pub key : K
      pub after : List (ℕ × K)
      pub split : es ≡ before ++ ((i, key) ∷ after)
      pub found : slice_get (places eq key bs) (length (places eq key (seen ++ before))) ≡ Some j

    pair_further : (seen : List (ℕ × K)) (e : ℕ × K) (es bs : List (ℕ × K)) (i j : ℕ) → IsPairOf (seen ++ (e ∷ [])) es bs i j → IsPairOf seen (e ∷ es) bs i j
    pair_further seen e es bs i j rest = record {
      before = e ∷ rest.before;
      key = rest.key;
      after = rest.after;
      split = ap (λ (xs : List (ℕ × K)). e ∷ xs) rest.split;
      found = ap (λ (xs : List (ℕ × K)). slice_get (places eq rest.key bs) (length (places eq rest.key xs)))
          (sym (append_assoc seen (e ∷ []) rest.before)) ∙ rest.found;
    }

    pair_here : (seen : List (ℕ × K)) (e : ℕ × K) (es bs : List (ℕ × K)) (i j m : ℕ)
        → slice_get (places eq e.1 bs) (length (places eq e.1 seen)) ≡ Some m → ◌≡◌ {A = ℕ × ℕ} (e.0, m) (i, j)
        → IsPairOf seen (e ∷ es) bs i j
    pair_here seen e es bs i j m found same =
        let at : e.0 ≡ i = ap (λ (p : ℕ × ℕ). p.0) same in
        let to : m ≡ j = ap (λ (p : ℕ × ℕ). p.1) same in
        record {
          before = [];
          key = e.1;
          after = es;
          split = ap (λ (n : ℕ). (n, e.1) ∷ es) at;
          found = ap (λ (xs : List (ℕ × K)). slice_get (places eq e.1 bs) (length (places eq e.1 xs))) (append-nil seen) ∙ found ∙ ap Some to;
        }

    pair_by : (seen : List (ℕ × K)) (e : ℕ × K) (es bs : List (ℕ × K)) (i j : ℕ) (o : Option ℕ)
        → slice_get (places eq e.1 bs) (length (places eq e.1 seen)) ≡ o
        → HasPair (with_pair e.0 o (pairs_from eq (seen ++ (e ∷ [])) es bs)) i j
        → (HasPair (pairs_from eq (seen ++ (e ∷ [])) es bs) i j → IsPairOf (seen ++ (e ∷ [])) es bs i j) → IsPairOf seen (e ∷ es) bs i j
    pair_by seen e es bs i j None is h rest = pair_further seen e es bs i j (rest h)
    pair_by seen e es bs i j (Some m) is (inl same) rest = pair_here seen e es bs i j m is same
    pair_by seen e es bs i j (Some m) is (inr h) rest = pair_further seen e es bs i j (rest h)

    pub pair_found : (seen es bs : List (ℕ × K)) (i j : ℕ) → HasPair (pairs_from eq seen es bs) i j → IsPairOf seen es bs i j
    pair_found seen [] bs i j h = absurd h
    pair_found seen (e ∷ es) bs i j h =
        pair_by seen e es bs i j (slice_get (places eq e.1 bs) (length (places eq e.1 seen))) refl h (pair_found (seen ++ (e ∷ [])) es bs i j)

    -- the rank of a result is the number of places before it
    abbrev pub ranked : (ℕ → Bool) → K → ℕ → ℕ × K → Bool
    ranked test key i e = nat_lt e.0 i && (test e.0 && eq e.1 key)

    rank-before : (test : ℕ → Bool) (key : K) (i : ℕ) (before : List (ℕ × K)) → AreNumberedBelow i before
        → length (filter (ranked test key i) before) ≡ length (places eq key (filter (λ (e : ℕ × K). test e.0) before))
    rank-before test key i [] below = refl
    rank-before test key i (e ∷ before) below =
        ap
        (λ (b : Bool). length
        (cond (b && (test e.0 && eq e.1 key)) (e ∷ filter (ranked test key i) before) (filter (ranked test key i) before)))
        (lt-ltb e.0 i below.0) ∙ by_tests (test e.0) (eq e.1 key) refl (rank-before test key i before below.1)
      where
        by_tests : (b c : Bool) → eq e.1 key ≡ c
            → length (filter (ranked test key i) before) ≡ length (places eq key (filter (λ (e : ℕ × K). test e.0) before))
            → length (cond (b && c) (e ∷ filter (ranked test key i) before) (filter (ranked test key i) before))
            ≡ length (places eq key (cond b (e ∷ filter (λ (e : ℕ × K). test e.0) before) (filter (λ (e : ℕ × K). test e.0) before)))
        by_tests true true is rest = ap suc rest
            ∙ sym
            (ap
            (λ (b : Bool). length
            (map (λ (x : ℕ × K). x.0)
            (cond b (e ∷ filter (λ (x : ℕ × K). eq x.1 key) (filter (λ (e : ℕ × K). test e.0) before))
            (filter (λ (x : ℕ × K). eq x.1 key) (filter (λ (e : ℕ × K). test e.0) before))))) is)
        by_tests true false is rest = rest
            ∙ sym
            (ap
            (λ (b : Bool). length
            (map (λ (x : ℕ × K). x.0)
            (cond b (e ∷ filter (λ (x : ℕ × K). eq x.1 key) (filter (λ (e : ℕ × K). test e.0) before))
            (filter (λ (x : ℕ × K). eq x.1 key) (filter (λ (e : ℕ × K). test e.0) before))))) is)
        by_tests false c is rest = rest

    rank-after : (test : ℕ → Bool) (key : K) (i : ℕ) (after : List (ℕ × K)) → IsAbove i after → filter (ranked test key i) after ≡ []
    rank-after test key i [] above = refl
    rank-after test key i (e ∷ after) above =
        let past : i < e.0 = above.0 in
        ap (λ (b : Bool). cond (b && (test e.0 && eq e.1 key)) (e ∷ filter (ranked test key i) after) (filter (ranked test key i) after))
        (le-ltb e.0 i (omega arith)) ∙ rank-after test key i after above.1

    pub rank-split : (test : ℕ → Bool) (key : K) (i : ℕ) (own : K) (before after : List (ℕ × K)) → AreNumberedBelow i before
        → IsAbove i after → length (filter (ranked test key i) (before ++ ((i, own) ∷ after)))
        ≡ length (places eq key (filter (λ (e : ℕ × K). test e.0) before))
    rank-split test key i own before after below above =
        let here : filter (ranked test key i) ((i, own) ∷ after) ≡ [] =
        ap
        (λ (b : Bool). cond (b && (test i && eq own key)) ((i, own) ∷ filter (ranked test key i) after) (filter (ranked test key i) after))
        (le-ltb i i (omega arith)) ∙ rank-after test key i after above in
        ap length (filter-append (ranked test key i) before ((i, own) ∷ after)
        ∙ ap (λ (xs : List (ℕ × K)). filter (ranked test key i) before ++ xs) here ∙ append-nil (filter (ranked test key i) before))
        ∙ rank-before test key i before below

    AreNumberedBelow-from : (i k : ℕ) (es : List (ℕ × K)) → i < k → AreNumberedBelow i es → AreNumberedBelow k es
    AreNumberedBelow-from i k [] lt below = tt
    AreNumberedBelow-from i k (e ∷ es) lt below = let first : e.0 < i = below.0 in (omega arith, AreNumberedBelow-from i k es lt below.1)

    -- a rank rises from one result with the key to the next
    pub rank-more : (test : ℕ → Bool) (key : K) (i k : ℕ) (own : K) (before after : List (ℕ × K)) → AreNumberedBelow i before → i < k
        → test i ≡ true → eq own key ≡ true
        → length (places eq key (filter (λ (e : ℕ × K). test e.0) before)) < length
        (filter (ranked test key k) (before ++ ((i, own) ∷ after)))
    rank-more test key i k own before after below lt is_left same =
        let here : ranked test key k (i, own) ≡ true = ap (λ (b : Bool). b && (test i && eq own key)) (lt-ltb i k lt)
        ∙ ap (λ (b : Bool). b && eq own key) is_left ∙ same in
        let split : length (filter (ranked test key k) (before ++ ((i, own) ∷ after))) ≡ length (filter (ranked test key k) before)
        + suc (length (filter (ranked test key k) after)) = ap length (filter-split (ranked test key k) before (i, own) after here)
        ∙ length-append (filter (ranked test key k) before) ((i, own) ∷ filter (ranked test key k) after) in
        let front = rank-before test key k before (AreNumberedBelow-from i k before lt below) in
        omega (arith, split, front)
