-- The first place at which a test passes, as a list is gone through.
use Rattle.std.proofs.Common.{◌≡◌, ℕ, ◌+◌, ◌<◌, ◌≤◌, Bool, true, false, ◌&&◌, cond, ltb, eqb, List, [], ◌∷◌, ◌++◌, length, get_or, take, Option, Some, None, position, find, slice_get, option_and_then, refl, sym, ap, subst, ◌∙◌, arith}
use Rattle.std.specs.List.{position_or_len}
use Rattle.std.proofs.lemmas.Bool.Decides.{nat_tests}
use Rattle.std.proofs.lemmas.Grind.{take_at_read}
use Rattle.std.proofs.lemmas.List.{length_push, length-take-le}
use Rattle.std.proofs.lemmas.List.Folds.{position_or_len_push, find_at}
use Rattle.std.proofs.lemmas.List.Sums.{prefix_len-le-length}
use Rattle.std.proofs.lemmas.Option.{slice_get_past, slice_get_read}
use Rattle.sarif_runs.specs.Reading.{first_or}
use Rattle.sarif_runs.specs.Overrides.{is_same_descriptor, is_descriptor, specifies, first_for}
use Rattle.sarif_runs.specs.Level.{overriding_level}
use Rattle.sarif_runs.specs.declared.component.Descriptor.{Descriptor}
use Rattle.sarif_runs.specs.declared.invocation.Override.{Override}

pub first_or-not_here : (o : Option ℕ) (i : ℕ) → first_or o false i ≡ o
first_or-not_here None i = refl
first_or-not_here (Some j) i = refl

-- the place, by the index of the first that passes, which is the length where none does
place_at_push : (n len len' : ℕ) (b : Bool) → n ≤ len → len' ≡ len + 1
    → cond (ltb (cond (eqb n len) (len + cond b 0 1) n) len') (Some (cond (eqb n len) (len + cond b 0 1) n)) None
    ≡ first_or (cond (ltb n len) (Some n) None) b len
place_at_push n len len' true h e = grind (arith, nat_tests)
place_at_push n len len' false h e = grind (arith, nat_tests)

pub position-push : {X : Type 0} (p : X → Bool) (xs : List X) (y : X) → position p (xs ++ y ∷ []) ≡ first_or (position p xs) (p y) (length xs)
position-push p xs y =
    ap (λ m. cond (ltb m (length (xs ++ y ∷ []))) (Some m) None) (position_or_len_push p xs y)
    ∙ place_at_push (position_or_len p xs) (length xs) (length (xs ++ y ∷ [])) (p y) (prefix_len-le-length _ xs) (length_push xs y)

pub position-take : {X : Type 0} (p : X → Bool) (xs : List X) (i : ℕ) (d : X) → i < length xs
    → position p (take (i + 1) xs) ≡ first_or (position p (take i xs)) (p (get_or xs i d)) i
position-take p xs i d h =
    let long : length (take i xs) ≡ i = length-take-le i xs (omega arith) in
    ap (position p) (take_at_read xs i d h).1
    ∙ position-push p (take i xs) (get_or xs i d)
    ∙ ap (first_or (position p (take i xs)) (p (get_or xs i d))) long

place_is : (n len i : ℕ) → cond (ltb n len) (Some n) None ≡ Some i → (n ≡ i) × (n < len)
place_is n len i e = grind (arith, nat_tests)

place_is_none : (n len : ℕ) → cond (ltb n len) (Some n) None ≡ None → len ≤ n
place_is_none n len e = grind (arith, nat_tests)

pub found_at : {X : Type 0} (p : X → Bool) (xs : List X) (i : ℕ) → position p xs ≡ Some i → (i < length xs) × (find p xs ≡ slice_get xs i)
found_at p xs i e =
    let at = place_is (position_or_len p xs) (length xs) i e in
    (omega (arith, at.0, at.1), find_at p xs ∙ ap (slice_get xs) at.0)

pub found_nowhere : {X : Type 0} (p : X → Bool) (xs : List X) → position p xs ≡ None → find p xs ≡ None
found_nowhere p xs e =
    find_at p xs ∙ slice_get_past xs (position_or_len p xs) (place_is_none _ _ e)

-- the value at a key after a new value is added at a key that had none
put_at : (same : Bool) (had : Option ℕ) (i : ℕ) → (same ≡ true → had ≡ None) → cond same (Some i) had ≡ first_or had same i
put_at true had i none = sym (ap (λ o. first_or o true i) (none refl))
put_at false had i none = sym (first_or-not_here had i)

eqb_symmetric : (a b : ℕ) → eqb a b ≡ eqb b a
eqb_symmetric a b = grind (arith, nat_tests)

both_equal : (a b a' b' : ℕ) → eqb a a' && eqb b b' ≡ true → (a ≡ a') × (b ≡ b')
both_equal a b a' b' e = grind (arith, nat_tests)

pub is_same_descriptor-equal : (d e : Descriptor) → is_same_descriptor d e ≡ true → d ≡ e
is_same_descriptor-equal d e same =
    let parts = both_equal d.component d.rule e.component e.rule same in
    ap (λ n. let p : Descriptor = record { component = n; rule = d.rule } in p) parts.0
    ∙ ap (λ n. let p : Descriptor = record { component = e.component; rule = n } in p) parts.1

pub is_same_descriptor-symmetric : (d e : Descriptor) → is_same_descriptor d e ≡ is_same_descriptor e d
is_same_descriptor-symmetric d e =
    ap (λ b. b && eqb d.rule e.rule) (eqb_symmetric d.component e.component)
    ∙ ap (λ b. eqb e.component d.component && b) (eqb_symmetric d.rule e.rule)

-- after a new key is put at a descriptor that had none, each descriptor keeps its first place
pub kept_first : (old new : Descriptor → Option ℕ) (d : Descriptor) (i : ℕ)
    → ((q : Descriptor) → new q ≡ cond (is_same_descriptor d q) (Some i) (old q)) → old d ≡ None → (q : Descriptor)
    → new q ≡ first_or (old q) (is_same_descriptor q d) i
kept_first old new d i updated none q =
    updated q
    ∙ put_at (is_same_descriptor d q) (old q) i (λ same. subst (λ e. old e ≡ None) (is_same_descriptor-equal d q same) none)
    ∙ ap (λ b. first_or (old q) b i) (is_same_descriptor-symmetric d q)

-- how the first places go on with an override that specifies a descriptor, and with one that specifies none
pub first_for-some : (q d : Descriptor) (os : List Override) (i : ℕ) (o : Override) → i < length os → (get_or os i o).descriptor ≡ Some d
    → first_for q (take (i + 1) os) ≡ first_or (first_for q (take i os)) (is_same_descriptor q d) i
first_for-some q d os i o h s =
    position-take (specifies q) os i o h
    ∙ ap (λ named. first_or (first_for q (take i os)) (is_descriptor q named) i) s

none_from_not_some : {X : Type 0} (o : Option X) → ((x : X) → o ≡ Some x → ⊥) → o ≡ None
none_from_not_some None h = refl
none_from_not_some (Some x) h = absurd (h x refl)

pub first_for-none : (q : Descriptor) (os : List Override) (i : ℕ) (o : Override) → i < length os
    → ((d : Descriptor) → (get_or os i o).descriptor ≡ Some d → ⊥) → first_for q (take (i + 1) os) ≡ first_for q (take i os)
first_for-none q os i o h s =
    position-take (specifies q) os i o h
    ∙ ap (λ named. first_or (first_for q (take i os)) (is_descriptor q named) i) (none_from_not_some (get_or os i o).descriptor s)
    ∙ first_or-not_here (first_for q (take i os)) i

-- the level of the first override that specifies the descriptor, by its place
pub level_at_place : (d : Descriptor) (os : List Override) (i : ℕ) (o : Override) → first_for d os ≡ Some i → o ≡ get_or os i o
    → o.level ≡ overriding_level os (Some d)
level_at_place d os i o found e =
    let at = found_at (specifies d) os i found in
    sym (ap (λ f. option_and_then (λ o. o.level) f) (at.1 ∙ slice_get_read os (length os) i o refl at.0 e))

pub no_level_at_place : (d : Descriptor) (os : List Override) → first_for d os ≡ None → None ≡ overriding_level os (Some d)
no_level_at_place d os missing =
    sym (ap (λ f. option_and_then (λ o. o.level) f) (found_nowhere (specifies d) os missing))
