-- A value reads the same at any depth that it doesn't nest beyond.
use Rattle.std.proofs.Common.{◌≡◌, ℕ, zero, suc, ◌≤◌, max, List, [], ◌∷◌, length, Option, Some, None, option_and_then, refl, ap, ◌∙◌, subst, arith}
use Rattle.std.specs.Prelude.{⊤}
use Rattle.json.specs.Token.{Token}
use Rattle.json.specs.Json.{Json, array, object, Items, item, Members, member, Parse, parse_map, after_end_array, read_key, items_step, members_step, items, members, value_with, value}
use Rattle.json.specs.Tree.{depth, items_depth, members_depth}

-- if o is a result of at most that depth, p is the same
abbrev KeptIf : {A : Type 0} → (A → ℕ) → ℕ → Option (A × List Token) → Option (A × List Token) → Type 0
KeptIf f e None p = ⊤
KeptIf f e (Some a) p = f a.0 ≤ e → p ≡ Some a

abbrev Below : {A : Type 0} → (A → ℕ) → ℕ → Parse A → Parse A → Type 0
Below f e p q = (ts : List Token) → KeptIf f e (p ts) (q ts)

mapped : {A B : Type 0} (f : A → ℕ) (g : B → ℕ) (d e : ℕ) (h : A → B) → ((a : A) → g (h a) ≤ e → f a ≤ d) → (o p : Option (A × List Token))
    → KeptIf f d o p → KeptIf g e (parse_map h o) (parse_map h p)
mapped f g d e h k None p x = tt
mapped f g d e h k (Some a) p x = λ le. ap (parse_map h) (x (k a.0 le))

module _ {B : Type 0} (g : B → ℕ) (e : ℕ) (h : Json → B → B) (is : (j : Json) (b : B) → g (h j b) ≡ max (depth j) (g b)) (n : Parse B) where
  and_more : (q : Json × List Token) (p : Option (Json × List Token)) → (depth q.0 ≤ e → p ≡ Some q) → (m : Option (B × List Token)) → KeptIf g e m (n q.1)
      → KeptIf g e (parse_map (h q.0) m) (option_and_then (λ z. parse_map (h z.0) (n z.1)) p)
  and_more q p x None k = tt
  and_more q p x (Some b) k = λ le.
      let first : depth q.0 ≤ e = omega (arith, is q.0 b.0) in
      let more : g b.0 ≤ e = omega (arith, is q.0 b.0) in
      ap (option_and_then (λ z. parse_map (h z.0) (n z.1))) (x first) ∙ ap (parse_map (h q.0)) (k more)

  both : (m : Parse B) → Below g e m n → (o p : Option (Json × List Token)) → KeptIf depth e o p
      → KeptIf g e (option_and_then (λ z. parse_map (h z.0) (m z.1)) o) (option_and_then (λ z. parse_map (h z.0) (n z.1)) p)
  both m below None p x = tt
  both m below (Some q) p x = and_more q p x (m q.1) (below q.1)

module _ (e : ℕ) (p q : Parse Json) (below : Below depth e p q) where
  item_turn : (m n : Parse Items) → Below items_depth e m n → (ts : List Token) (o : Option (List Token))
      → KeptIf items_depth e (items_step p m ts o) (items_step q n ts o)
  item_turn m n h ts (Some r) = λ _. refl
  item_turn m n h ts None = both items_depth e item (λ j b. refl) n m h (p ts) (q ts) (below ts)

  Below-items : (n : ℕ) → Below items_depth e (items p n) (items q n)
  unfolding items
  Below-items zero ts = tt
  Below-items (suc n) ts = item_turn (items p n) (items q n) (Below-items n) ts (after_end_array ts)

  member_turn : (m n : Parse Members) → Below members_depth e m n → (o : Option (Option (List ℕ) × List Token))
      → KeptIf members_depth e (option_and_then (λ z. members_step p m z.0 z.1) o) (option_and_then (λ z. members_step q n z.0 z.1) o)
  member_turn m n h None = tt
  member_turn m n h (Some (None, s)) = λ _. refl
  member_turn m n h (Some (Some k, s)) = both members_depth e (member k) (λ j b. refl) n m h (p s) (q s) (below s)

  Below-members : (n : ℕ) → Below members_depth e (members p n) (members q n)
  unfolding members
  Below-members zero ts = tt
  Below-members (suc n) ts = member_turn (members p n) (members q n) (Below-members n) (read_key ts)

one_level : (e : ℕ) (a b : Parse Items) (o p : Parse Members) → ((ts : List Token) → KeptIf depth e (parse_map array (a ts)) (parse_map array (b ts)))
    → ((ts : List Token) → KeptIf depth e (parse_map object (o ts)) (parse_map object (p ts))) → Below depth e (value_with a o) (value_with b p)
one_level e a b o p x y [] = tt
one_level e a b o p x y (Token.begin_object ∷ ts) = y ts
one_level e a b o p x y (Token.end_object ∷ ts) = tt
one_level e a b o p x y (Token.begin_array ∷ ts) = x ts
one_level e a b o p x y (Token.end_array ∷ ts) = tt
one_level e a b o p x y (Token.key s ∷ ts) = tt
one_level e a b o p x y (Token.string s ∷ ts) = λ _. refl
one_level e a b o p x y (Token.number s ∷ ts) = λ _. refl
one_level e a b o p x y (Token.boolean b' ∷ ts) = λ _. refl
one_level e a b o p x y (Token.null ∷ ts) = λ _. refl
one_level e a b o p x y (Token.bad ∷ ts) = tt

no_array : (o : Option (Items × List Token)) (p : Option (Json × List Token)) → KeptIf depth 0 (parse_map array o) p
no_array None p = tt
no_array (Some a) p = λ le. let never : ⊥ = omega arith in absurd never

no_object : (o : Option (Members × List Token)) (p : Option (Json × List Token)) → KeptIf depth 0 (parse_map object o) p
no_object None p = tt
no_object (Some a) p = λ le. let never : ⊥ = omega arith in absurd never

abbrev inner_items : ℕ → Parse Items
inner_items d ts = items (value d) (length ts) ts

abbrev inner_members : ℕ → Parse Members
inner_members d ts = members (value d) (length ts) ts

Below-value : (d e : ℕ) → Below depth e (value d) (value e)
unfolding value
Below-value zero zero = one_level 0 (λ ts. None) (λ ts. None) (λ ts. None) (λ ts. None) (λ ts. tt) (λ ts. tt)
Below-value zero (suc e) = one_level (suc e) (λ ts. None) (inner_items e) (λ ts. None) (inner_members e) (λ ts. tt) (λ ts. tt)
Below-value (suc d) zero =
    one_level 0 (inner_items d) (λ ts. None) (inner_members d) (λ ts. None) (λ ts. no_array (inner_items d ts) None) (λ ts. no_object (inner_members d ts) None)
Below-value (suc d) (suc e) =
    one_level (suc e) (inner_items d) (inner_items e) (inner_members d) (inner_members e)
    (λ ts. mapped items_depth depth e (suc e) array (λ js le. omega arith) _ _ (Below-items e (value d) (value e) (Below-value d e) (length ts) ts))
    (λ ts. mapped members_depth depth e (suc e) object (λ ms le. omega arith) _ _ (Below-members e (value d) (value e) (Below-value d e) (length ts) ts))

pub value_at : (d e : ℕ) (ts r : List Token) (j : Json) → value d ts ≡ Some (j, r) → depth j ≤ e → value e ts ≡ Some (j, r)
value_at d e ts r j is le = subst (λ o. KeptIf depth e o (value e ts)) is (Below-value d e ts) le
