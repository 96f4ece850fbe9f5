-- Names of hits, looked up in tables.
use Rattle.std.proofs.Common.{◌≡◌, ℕ, ◌==◌, Bool, true, false, cond, ◌||◌, not, List, [], ◌∷◌, ◌++◌, length, bytes_eq, refl, sym, ap, ◌∙◌, true≢false}
use Rattle.std.specs.Prelude.{flat_map}
use Rattle.std.specs.List.{list_any, position, position_or_len}
use Rattle.std.proofs.lemmas.List.Folds.{list_any-append}
use Rattle.std.proofs.lemmas.Slice.Eq.{bytes_eq-Decides}
use Rattle.indexmap.specs.IndexSet.{IndexSet, Updates, contains}
use Rattle.sarif_findings.specs.declared.finding.Finding.{Finding}
use Rattle.sarif_choice.specs.Choice.{fits, fits_one, unfit_among}
use Rattle.sarif_choice.specs.Internal.Tables.{HasTexts}

-- ---- a table with one string more

either : (a b : Bool) → cond a true b ≡ (b || (a || false))
either true true = refl
either true false = refl
either false true = refl
either false false = refl

pub one_more : {S : Type 0} (old new : IndexSet (List ℕ) S) (added text : List ℕ) (texts : List (List ℕ)) → added ≡ text
    → Updates bytes_eq old new added true → HasTexts old texts → HasTexts new (texts ++ text ∷ [])
one_more old new added text texts same updates has = λ q.
    updates.0 q ∙ rw (same, has q) (either (bytes_eq text q) (list_any (λ t. bytes_eq t q) texts))
    ∙ sym (list_any-append (λ t. bytes_eq t q) texts (text ∷ []))

-- ---- a string of a list that names a hit

eq_by : (x y : List ℕ) (a b : Bool) → bytes_eq x y ≡ a → bytes_eq y x ≡ b → bytes_eq x y ≡ bytes_eq y x
eq_by x y true b is other = is ∙ sym (let same : x ≡ y = (bytes_eq-Decides x y).0 is in (bytes_eq-Decides y x).1 (sym same))
eq_by x y false false is other = is ∙ sym other
eq_by x y false true is other = let same : y ≡ x = (bytes_eq-Decides y x).0 other in (bytes_eq-Decides x y).1 (sym same) ∙ sym other

pub eq_turned : (x y : List ℕ) → bytes_eq x y ≡ bytes_eq y x
eq_turned x y = eq_by x y (bytes_eq x y) (bytes_eq y x) refl refl

any_same : {X : Type 0} (p q : X → Bool) (xs : List X) → ((x : X) → p x ≡ q x) → list_any p xs ≡ list_any q xs
any_same p q [] same = refl
any_same p q (x ∷ xs) same = rw (same x, any_same p q xs same) refl

any_none : {X : Type 0} (xs : List X) → list_any (λ x. false) xs ≡ false
any_none [] = refl
any_none (x ∷ xs) = any_none xs

shuffled : (a b c d : Bool) → ((a || b) || (c || d)) ≡ ((a || c) || (b || d))
shuffled true b c d = refl
shuffled false true true d = refl
shuffled false true false d = refl
shuffled false false c d = refl

any_or : {X : Type 0} (p q : X → Bool) (xs : List X) → (list_any p xs || list_any q xs) ≡ list_any (λ x. p x || q x) xs
any_or p q [] = refl
any_or p q (x ∷ xs) = shuffled (p x) (list_any p xs) (q x) (list_any q xs) ∙ ap (λ b. (p x || q x) || b) (any_or p q xs)

-- one of the names is one of the strings, asked either way
any_turned : (texts names : List (List ℕ))
    → list_any (λ name. list_any (λ t. bytes_eq t name) texts) names ≡ list_any (λ t. list_any (bytes_eq t) names) texts
any_turned texts [] = sym (any_none texts)
any_turned texts (name ∷ names) =
    ap (λ b. list_any (λ t. bytes_eq t name) texts || b) (any_turned texts names)
    ∙ any_or (λ t. bytes_eq t name) (λ t. list_any (bytes_eq t) names) texts

module _ {S : Type 0} (table : IndexSet (List ℕ) S) where
  any_in : (texts names : List (List ℕ)) → HasTexts table texts
      → list_any (λ name. contains bytes_eq table name) names ≡ list_any (λ t. list_any (bytes_eq t) names) texts
  any_in texts names has =
      any_same (λ name. contains bytes_eq table name) (λ name. list_any (λ t. bytes_eq t name) texts) names has
      ∙ any_turned texts names

  -- whether one of the strings fits a hit, if some are given
  pub fits_by_table : (of : Finding → List (List ℕ)) (texts names : List (List ℕ)) (hit : Finding) → HasTexts table texts
      → names ≡ of hit → (length texts == 0) ≡ false
      → list_any (λ name. contains bytes_eq table name) names ≡ fits_one of texts hit
  fits_by_table of [] names hit has is some = absurd (true≢false some)
  fits_by_table of (t ∷ texts) names hit has is some = any_in (t ∷ texts) names has ∙ ap (λ ns. list_any (λ t. list_any (bytes_eq t) ns) (t ∷ texts)) is

-- ---- a string that fits none

any_flat : (of : Finding → List (List ℕ)) (text : List ℕ) (hits : List Finding)
    → list_any (λ t. bytes_eq t text) (flat_map of hits) ≡ list_any (fits of text) hits
any_flat of text [] = refl
any_flat of text (hit ∷ hits) =
    list_any-append (λ t. bytes_eq t text) (of hit) (flat_map of hits)
    ∙ ap (λ b. b || list_any (λ t. bytes_eq t text) (flat_map of hits))
    (any_same (λ t. bytes_eq t text) (bytes_eq text) (of hit) (λ t. eq_turned t text))
    ∙ ap (λ b. list_any (bytes_eq text) (of hit) || b) (any_flat of text hits)

len_same : {X : Type 0} (p q : X → Bool) (xs : List X) → ((x : X) → p x ≡ q x) → position_or_len p xs ≡ position_or_len q xs
len_same p q [] same = refl
len_same p q (x ∷ xs) same = rw (same x, len_same p q xs same) refl

position_same : {X : Type 0} (p q : X → Bool) (xs : List X) → ((x : X) → p x ≡ q x) → position p xs ≡ position q xs
position_same p q xs same = rw (len_same p q xs same) refl

module _ {S : Type 0} (table : IndexSet (List ℕ) S) where
  -- the number of the first string that names none of these hits
  pub unfit_by_table : (of : Finding → List (List ℕ)) (texts names : List (List ℕ)) (hits : List Finding) → HasTexts table names
      → names ≡ flat_map of hits
      → position (λ text. not (contains bytes_eq table text)) texts ≡ unfit_among of texts hits
  unfit_by_table of texts names hits has are =
      position_same (λ text. not (contains bytes_eq table text)) (λ text. not (list_any (fits of text) hits)) texts
      (λ text. ap not (has text ∙ ap (list_any (λ t. bytes_eq t text)) are ∙ any_flat of text hits))
