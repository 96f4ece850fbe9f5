-- The names gone through, with one name more before them.
use Rattle.std.proofs.Common.{◌≡◌, ℕ, ◌+◌, ◌-◌, ◌<◌, ◌≤◌, Bool, true, false, not, cond, ◌||◌, List, ◌∷◌, length, drop, slice_index_or, Some, Bor, bytes_eq, refl, ◌∙◌, arith}
use Rattle.std.proofs.lemmas.List.{drop_more}
use Rattle.std.specs.HashSet.{HashSet, Updates, contains}
use Rattle.sarif_model.specs.declared.text.Text.{Text}
use Rattle.sarif_request.specs.Names.{first_repeated, is_among}

abbrev pub same : Bor Text → Bor Text → Bool
same x y = bytes_eq x.now y.now

-- what is left from the name before
pub left_from : (names : List Text) (n : ℕ) (name : Text) → 0 < n → n ≤ length names → name ≡ slice_index_or names (n - 1) name
    → drop (n - 1) names ≡ name ∷ drop n names
left_from names n name some within is =
    let back : (n - 1) + 1 ≡ n = grind (arith, within, some) in
    let inside : n - 1 < length names = grind (arith, within, some) in
    drop_more names (n - 1) name inside ∙ rw (← is, back) refl

either : (a b : Bool) → cond a true b ≡ (a || b)
either true b = refl
either false b = refl

-- the set has one name more
pub one_more : {S : Type 0} (old new : HashSet (Bor Text) S) (name : Bor Text) (names before : List Text) → before ≡ name.now ∷ names
    → Updates same old new name true
    → ((q : Bor Text) → contains same old q ≡ is_among q.now names) → (q : Bor Text) → contains same new q ≡ is_among q.now before
one_more old new name names before is updates has = λ q. updates.0 q ∙ rw (has q, is) (either (bytes_eq name.now q.now) (is_among q.now names))

-- a name was added to a set unless that had it
pub had : (added has : Bool) → added ≡ not has → added ≡ false → has ≡ true
had added true is not_added = refl
had added false is not_added = let never : ⊥ = cc in absurd never

pub had_not : (added has : Bool) → added ≡ not has → added ≡ true → has ≡ false
had_not added false is is_added = refl
had_not added true is is_added = let never : ⊥ = cc in absurd never

-- a name that is repeated
pub repeated : (name : Text) (names before : List Text) → before ≡ name ∷ names → is_among name names ≡ true → Some name ≡ first_repeated before
repeated name names before is among = rw (is, among) refl

-- a name that is not
pub not_repeated : (name : Text) (names before : List Text) → before ≡ name ∷ names → is_among name names ≡ false → first_repeated names ≡ first_repeated before
not_repeated name names before is among = rw (is, among) refl
