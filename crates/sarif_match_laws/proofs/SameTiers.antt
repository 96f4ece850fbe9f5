-- A tier of a name that no current result has adds no matches, so a matching may have the names of other results too.
use Rattle.std.proofs.Common.{◌≡◌, ℕ, suc, Bool, true, false, cond, ◌||◌, ◌&&◌, bytes_eq, List, [], ◌∷◌, ◌++◌, Option, None, Some, Ordering, option_map, fold, map, replicate, length, reverse, refl, sym, ap, ap₂, subst, ◌∙◌, append-nil, true≢false}
use Rattle.std.specs.Prelude.{filter}
use Rattle.std.specs.List.{AllByRecursion}
use Rattle.std.specs.List.Sorted.{IsStrictlySortedBy}
use Rattle.std.specs.Ordering.{nat_cmp, ordering_reverse, is_eq}
use Rattle.std.specs.declared.cmp.Ordering.TheVariants.{Less, Equal, Greater}
use Rattle.std.specs.Cmp.Lexicographic.{slice_cmp, nat_list_cmp_total, texts_ties}
use Rattle.std.proofs.lemmas.Bool.{or_parts}
use Rattle.std.proofs.lemmas.List.{reverse-append}
use Rattle.std.proofs.lemmas.List.Elements.{filter-append}
use Rattle.std.proofs.lemmas.List.Folds.{list_any-append}
use Rattle.std.proofs.lemmas.List.Kept.{IsStrictlySortedBy-filter}
use Rattle.std.proofs.lemmas.List.Sums.{fold-append}
use Rattle.std.proofs.lemmas.Slice.Eq.{bytes_eq-Decides}
use Rattle.sarif_model.specs.declared.record.Record.{Record}
use Rattle.sarif_match.specs.declared.tier.Tier.{Tier}
use Rattle.sarif_match.specs.declared.tier.Tier.TheVariants.{Guid, Same, SameText, FingerprintHere, Fingerprint, PartialHere, PartialMoved, PlaceText, Place, PlaceLeft}
use Rattle.sarif_match.specs.Key.{group_of, key_of, value_of}
use Rattle.sarif_match.specs.KeyParts.{fingerprint_here_parts, fingerprint_parts, same_parts}
use Rattle.sarif_match.specs.Pairing.{pairs_from}
use Rattle.sarif_match.specs.Partners.{after_tier, free, keyed_from, left, partners_after, put_all, with_key}
use Rattle.sarif_match.specs.Tiers.{falling_names, finer_tiers, has_name, names_of, rising_names}
use Rattle.sarif_match.proofs.SortedLemmas.{has_names, sorted_names}
use Rattle.sarif_evidence.proofs.EqualLemmas.{same_text}

-- ---- lists

pub all_to : {X : Type 0} (P Q : X → Type 0) (xs : List X) → ((x : X) → P x → Q x) → AllByRecursion P xs → AllByRecursion Q xs
all_to P Q [] so all = tt
all_to P Q (x ∷ xs) so all = (so x all.0, all_to P Q xs so all.1)

all_append : {X : Type 0} (P : X → Type 0) (xs ys : List X) → AllByRecursion P xs → AllByRecursion P ys → AllByRecursion P (xs ++ ys)
all_append P [] ys here there = there
all_append P (x ∷ xs) ys here there = (here.0, all_append P xs ys here.1 there)

pub all_reverse : {X : Type 0} (P : X → Type 0) (xs : List X) → AllByRecursion P xs → AllByRecursion P (reverse xs)
all_reverse P [] all = tt
all_reverse P (x ∷ xs) all =
    subst (AllByRecursion P) (sym (reverse-append (x ∷ []) xs)) (all_append P (reverse xs) (x ∷ []) (all_reverse P xs all.1) (all.0, tt))

filter_reverse : {X : Type 0} (p : X → Bool) (xs : List X) → filter p (reverse xs) ≡ reverse (filter p xs)
filter_reverse p [] = refl
filter_reverse {X} p (x ∷ xs) =
    ap (filter p) (reverse-append (x ∷ []) xs) ∙ filter-append p (reverse xs) (x ∷ [])
    ∙ ap (λ l. l ++ filter p (x ∷ [])) (filter_reverse p xs) ∙ by_test (p x)
  where
    by_test : (b : Bool) → reverse (filter p xs) ++ cond b (x ∷ []) [] ≡ reverse (cond b (x ∷ filter p xs) (filter p xs))
    by_test true = sym (reverse-append (x ∷ []) (filter p xs))
    by_test false = append-nil (reverse (filter p xs))

-- ---- names in order

abbrev text_cmp : List ℕ → List ℕ → Ordering
text_cmp = slice_cmp nat_cmp

not_equal : (x y : List ℕ) → text_cmp x y ≡ Less → bytes_eq y x ≡ false
not_equal x y is = by_test (bytes_eq y x) refl
  where
    by_test : (b : Bool) → bytes_eq y x ≡ b → b ≡ false
    by_test true same =
        let e : y ≡ x = same_text y x same in
        absurd (true≢false (sym (ap (λ z. bytes_eq x z) e ∙ (bytes_eq-Decides x x).1 refl) ∙ (texts_ties x y ∙ ap is_eq is)))
    by_test false same = refl

not_among : (x : List ℕ) (ys : List (List ℕ)) → AllByRecursion (λ y. text_cmp x y ≡ Less) ys → has_name x ys ≡ false
not_among x [] all = refl
not_among x (y ∷ ys) all = ap (λ b. b || has_name x ys) (not_equal x y all.0) ∙ not_among x ys all.1

all_above : (x y : List ℕ) (ys : List (List ℕ)) → text_cmp x y ≡ Less → AllByRecursion (λ z. text_cmp y z ≡ Less) ys
    → AllByRecursion (λ z. text_cmp x z ≡ Less) ys
all_above x y [] lt all = tt
all_above x y (z ∷ ys) lt all = (nat_list_cmp_total.trans x y z lt all.0, all_above x y ys lt all.1)

itself_first : (x : List ℕ) (xs : List (List ℕ)) → has_name x (x ∷ xs) ≡ true
itself_first x xs = ap (λ b. b || has_name x xs) ((bytes_eq-Decides x x).1 refl)

-- the rest of two lists with the same first name and the same names
same_rest : (x y : List ℕ) (xs ys : List (List ℕ)) → x ≡ y → AllByRecursion (λ z. text_cmp x z ≡ Less) xs
    → AllByRecursion (λ z. text_cmp y z ≡ Less) ys → ((name : List ℕ) → has_name name (x ∷ xs) ≡ has_name name (y ∷ ys))
    → (name : List ℕ) → has_name name xs ≡ has_name name ys
same_rest x y xs ys e first second same name = by_test (bytes_eq x name) refl
  where
    by_test : (b : Bool) → bytes_eq x name ≡ b → has_name name xs ≡ has_name name ys
    by_test true is =
        let n : x ≡ name = same_text x name is in
        ap (λ m. has_name m xs) (sym n) ∙ not_among x xs first ∙ sym (ap (λ m. has_name m ys) (sym n ∙ e) ∙ not_among y ys second)
    by_test false is =
        sym (ap (λ b. b || has_name name xs) is) ∙ same name ∙ ap (λ b. b || has_name name ys) (ap (λ z. bytes_eq z name) (sym e) ∙ is)

-- two rising lists with the same names are the same
same_sorted : (xs ys : List (List ℕ)) → IsStrictlySortedBy text_cmp xs → IsStrictlySortedBy text_cmp ys
    → ((name : List ℕ) → has_name name xs ≡ has_name name ys) → xs ≡ ys
unfolding IsStrictlySortedBy
same_sorted [] [] first second same = refl
same_sorted [] (y ∷ ys) first second same = absurd (true≢false (sym (itself_first y ys) ∙ sym (same y)))
same_sorted (x ∷ xs) [] first second same = absurd (true≢false (sym (itself_first x xs) ∙ same x))
same_sorted (x ∷ xs) (y ∷ ys) first second same = at (text_cmp x y) refl (same_sorted xs ys first.1 second.1)
  where
    at : (o : Ordering) → text_cmp x y ≡ o → (((name : List ℕ) → has_name name xs ≡ has_name name ys) → xs ≡ ys) → x ∷ xs ≡ y ∷ ys
    at Less is rest =
        absurd (true≢false (sym (itself_first x xs) ∙ same x ∙ not_among x (y ∷ ys) (is, all_above x y ys is second.0)))
    at Equal is rest =
        let e : x ≡ y = same_text x y (texts_ties x y ∙ ap is_eq is) in
        ap₂ (λ z zs. z ∷ zs) e (rest (same_rest x y xs ys e first.0 second.0 same))
    at Greater is rest =
        let below : text_cmp y x ≡ Less = nat_list_cmp_total.antisymm y x ∙ ap ordering_reverse is in
        absurd (true≢false (sym (itself_first y ys) ∙ sym (same y) ∙ not_among y (x ∷ xs) (below, all_above y x xs below first.0)))

has_kept : (test : List ℕ → Bool) (name : List ℕ) (names : List (List ℕ)) → has_name name (filter test names) ≡ (test name && has_name name names)
has_kept test name [] = by_test (test name)
  where
    by_test : (b : Bool) → false ≡ (b && false)
    by_test true = refl
    by_test false = refl
has_kept test name (own ∷ names) = by_tests (bytes_eq own name) (test own) refl refl (has_kept test name names)
  where
    same_test : bytes_eq own name ≡ true → test own ≡ test name
    same_test is = ap test (same_text own name is)

    by_tests : (a b : Bool) → bytes_eq own name ≡ a → test own ≡ b → has_name name (filter test names) ≡ (test name && has_name name names)
        → has_name name (cond b (own ∷ filter test names) (filter test names)) ≡ (test name && (a || has_name name names))
    by_tests true true is kept rest =
        ap (λ c. c || has_name name (filter test names)) is ∙ sym (ap (λ c. c && true) (sym (same_test is) ∙ kept))
    by_tests true false is kept rest =
        rest ∙ ap (λ c. c && has_name name names) (sym (same_test is) ∙ kept) ∙ sym (ap (λ c. c && true) (sym (same_test is) ∙ kept))
    by_tests false true is kept rest = ap (λ c. c || has_name name (filter test names)) is ∙ rest
    by_tests false false is kept rest = rest

-- names that are in the first current results and in the second ones are kept of both in the same order
pub same_names : (test : List ℕ → Bool) (rs ss xs ys : List Record)
    → ((name : List ℕ) → test name ≡ true → has_name name (names_of rs) ≡ true)
    → ((name : List ℕ) → test name ≡ true → has_name name (names_of xs) ≡ true)
    → filter test (falling_names rs ss) ≡ filter test (falling_names xs ys)
same_names test rs ss xs ys first second =
    filter_reverse test (rising_names rs ss)
    ∙ ap reverse
    (same_sorted (filter test (rising_names rs ss)) (filter test (rising_names xs ys))
    (IsStrictlySortedBy-filter text_cmp test (rising_names rs ss) (sorted_names rs ss))
    (IsStrictlySortedBy-filter text_cmp test (rising_names xs ys) (sorted_names xs ys))
    (λ name. has_kept test name (rising_names rs ss) ∙ by_test name (test name) refl ∙ sym (has_kept test name (rising_names xs ys))))
    ∙ sym (filter_reverse test (rising_names xs ys))
  where
    by_test : (name : List ℕ) (b : Bool) → test name ≡ b → (b && has_name name (rising_names rs ss)) ≡ (b && has_name name (rising_names xs ys))
    by_test name true is =
        has_names name rs ss ∙ ap (λ b. b || has_name name (names_of ss)) (first name is)
        ∙ sym (has_names name xs ys ∙ ap (λ b. b || has_name name (names_of ys)) (second name is))
    by_test name false is = refl

-- ---- results without a name

no_value : (name : List ℕ) (ps : List (List ℕ × List ℕ)) → has_name name (map (λ pair. pair.0) ps) ≡ false → value_of name ps ≡ None
no_value name [] none = refl
no_value name (p ∷ ps) none =
    let parts = or_parts (bytes_eq p.0 name) (has_name name (map (λ (pair : List ℕ × List ℕ). pair.0) ps)) none in
    ap (λ b. cond b (Some p.1) (value_of name ps)) parts.0 ∙ no_value name ps parts.1

pub no_values : (name : List ℕ) (rs : List Record) → has_name name (names_of rs) ≡ false → AllByRecursion (λ r. value_of name r.full ≡ None) rs
no_values name [] none = tt
no_values name (r ∷ rs) none =
    let own = map (λ (pair : List ℕ × List ℕ). pair.0) r.full in
    let parts = or_parts (has_name name own) (has_name name (names_of rs)) (sym (list_any-append (λ own. bytes_eq own name) own (names_of rs)) ∙ none) in
    (no_value name r.full parts.0, no_values name rs parts.1)

-- ---- matchings with more names

module _ (cs bs : List Record) where
  keyed_none : (tier : Tier) (n : ℕ) (rs : List Record) → AllByRecursion (λ r. key_of r tier ≡ None) rs → keyed_from tier n rs ≡ []
  keyed_none tier n [] all = refl
  keyed_none tier n (r ∷ rs) all = ap (λ o. with_key n o (keyed_from tier (suc n) rs)) all.0 ∙ keyed_none tier (suc n) rs all.1

  idle : (tier : Tier) (ps : List (Option ℕ)) → AllByRecursion (λ r. key_of r tier ≡ None) cs → after_tier cs bs ps tier ≡ ps
  idle tier ps all = ap (λ l. put_all ps (pairs_from same_parts [] (left ps l) (free ps (keyed_from tier 0 bs)))) (keyed_none tier 0 cs all)

  module _ (test : List ℕ → Bool) (none : (name : List ℕ) → test name ≡ false → AllByRecursion (λ r. value_of name r.full ≡ None) cs) where
    no_keys : (name : List ℕ) → test name ≡ false → AllByRecursion (λ r. key_of r (Fingerprint name) ≡ None) cs
    no_keys name is =
        all_to (λ r. value_of name r.full ≡ None) (λ r. key_of r (Fingerprint name) ≡ None) cs
        (λ r no. ap (option_map (λ value. fingerprint_parts r.tool name value)) no) (none name is)

    no_keys_here : (name : List ℕ) → test name ≡ false → AllByRecursion (λ r. key_of r (FingerprintHere name) ≡ None) cs
    no_keys_here name is =
        all_to (λ r. value_of name r.full ≡ None) (λ r. key_of r (FingerprintHere name) ≡ None) cs
        (λ r no. ap (option_map (λ value. fingerprint_here_parts (group_of r) name value)) no) (none name is)

    module _ (make : List ℕ → Tier) (no : (name : List ℕ) → test name ≡ false → AllByRecursion (λ r. key_of r (make name) ≡ None) cs) where
      only_kept : (names : List (List ℕ)) (ps : List (Option ℕ))
          → fold (after_tier cs bs) ps (map make names) ≡ fold (after_tier cs bs) ps (map make (filter test names))
      only_kept [] ps = refl
      only_kept (name ∷ names) ps = by_test (test name) refl (λ qs. only_kept names qs)
        where
          by_test : (b : Bool) → test name ≡ b
              → ((qs : List (Option ℕ)) → fold (after_tier cs bs) qs (map make names) ≡ fold (after_tier cs bs) qs (map make (filter test names)))
              → fold (after_tier cs bs) (after_tier cs bs ps (make name)) (map make names)
              ≡ fold (after_tier cs bs) ps (map make (cond b (name ∷ filter test names) (filter test names)))
          by_test true is rest = rest (after_tier cs bs ps (make name))
          by_test false is rest = ap (λ qs. fold (after_tier cs bs) qs (map make names)) (idle (make name) ps (no name is)) ∙ rest ps

      swap_names : (names others : List (List ℕ)) (rest more : List Tier) (ps : List (Option ℕ)) → filter test names ≡ filter test others
          → ((qs : List (Option ℕ)) → fold (after_tier cs bs) qs rest ≡ fold (after_tier cs bs) qs more)
          → fold (after_tier cs bs) ps (map make names ++ rest) ≡ fold (after_tier cs bs) ps (map make others ++ more)
      swap_names names others rest more ps same later =
          fold-append (after_tier cs bs) ps (map make names) rest
          ∙ ap (λ qs. fold (after_tier cs bs) qs rest)
          (only_kept names ps ∙ ap (λ l. fold (after_tier cs bs) ps (map make l)) same ∙ sym (only_kept others ps))
          ∙ later (fold (after_tier cs bs) ps (map make others))
          ∙ sym (fold-append (after_tier cs bs) ps (map make others) more)

    pub same_two : (names others : List (List ℕ)) → filter test names ≡ filter test others
        → partners_after cs bs (Guid ∷ (map Fingerprint names ++ PartialHere ∷ (PartialMoved ∷ (Place ∷ []))))
        ≡ partners_after cs bs (Guid ∷ (map Fingerprint others ++ PartialHere ∷ (PartialMoved ∷ (Place ∷ []))))
    same_two names others same =
        let last : List Tier = PartialHere ∷ (PartialMoved ∷ (Place ∷ [])) in
        swap_names Fingerprint no_keys names others last last (after_tier cs bs (replicate (length cs) None) Guid) same (λ qs. refl)

    pub same_three : (names others : List (List ℕ)) → filter test names ≡ filter test others
        → partners_after cs bs (finer_tiers names) ≡ partners_after cs bs (finer_tiers others)
    same_three names others same =
        let last : List Tier = PartialMoved ∷ (PlaceText ∷ (Place ∷ (PlaceLeft ∷ []))) in
        let begun = after_tier cs bs (after_tier cs bs (after_tier cs bs (replicate (length cs) None) Guid) Same) SameText in
        swap_names FingerprintHere no_keys_here names others (PartialHere ∷ (map Fingerprint names ++ last)) (PartialHere ∷ (map Fingerprint others ++ last))
        begun same
        (λ qs. swap_names Fingerprint no_keys names others last last (after_tier cs bs qs PartialHere) same (λ later. refl))
