-- How the nodes grow.
use Rattle.std.proofs.Common.{◌≡◌, ℕ, zero, suc, ◌+◌, ◌<◌, ◌≤◌, ◌⊎◌, inl, inr, ⊎_elim, List, [], ◌∷◌, ◌++◌, map, length, take, drop, get_or, slice_set, Some, refl, sym, ap, ◌∙◌, subst, arith}
use Rattle.std.proofs.lemmas.List.{append_assoc, map-append, length-map, length-append, length-set, take_at, take-take, take-set, drop_at, get_or-take, get_or_push, get_or-set_same, get_or-set_other}
use Rattle.std.proofs.lemmas.Bool.{cases_lt}
use Rattle.json.specs.Token.{Token}
use Rattle.json.specs.Json.{skip_value}
use Rattle.json.specs.Tape.{node_token, Passes, LinkAt, Grown}
use Rattle.json.specs.declared.tape.Node.{Node}
use Rattle.json.specs.declared.tape.Node.TheVariants.{Null}

pub grown_trans : (a : List Node) (l : List Token) (b : List Node) (m : List Token) (c : List Node) (r : List Token) → Grown a l b m
    → Grown b m c r → Grown a l c r
grown_trans a l b m c r g h = record {
  same = h.same ∙ g.same;
  longer = omega (arith, g.longer, h.longer);
  front = sym (take-take (length a) (length b) c g.longer) ∙ ap (take (length a)) h.front ∙ g.front;
  linked = λ i from below. go i from below (cases_lt i (length b));
}
  where
    go : (i : ℕ) → length a ≤ i → i < length c → (i < length b) ⊎ (length b ≤ i) → LinkAt (map node_token a ++ l) i (get_or c i Null)
    go i from below (inl early) =
        subst (LinkAt (map node_token a ++ l) i) (ap (λ x. get_or x i Null) (sym h.front) ∙ get_or-take (length b) c i Null early)
        (g.linked i from early)
    go i from below (inr late) = subst (λ all. LinkAt all i (get_or c i Null)) g.same (h.linked i late below)

pushed : (old : List Node) (node : Node) (rest : List Token) → map node_token (old ++ node ∷ []) ++ rest ≡ map node_token old ++ node_token node ∷ rest
pushed old node rest = ap (λ x. x ++ rest) (map-append node_token old (node ∷ [])) ∙ append_assoc (map node_token old) (node_token node ∷ []) rest

pub grown_push : (old : List Node) (node : Node) (new : List Node) (left rest : List Token) → new ≡ old ++ node ∷ []
    → left ≡ node_token node ∷ rest → ((all : List Token) (i : ℕ) → LinkAt all i node) → Grown old left new rest
grown_push old node new left rest e l plain =
    let long : length new ≡ length old + 1 = ap length e ∙ length-append old (node ∷ []) in
    record {
      same = ap (λ x. map node_token x ++ rest) e ∙ pushed old node rest ∙ ap (λ x. map node_token old ++ x) (sym l);
      longer = omega arith;
      front = ap (take (length old)) e ∙ take_at old (node ∷ []) _ refl;
      linked = λ i from below. subst (LinkAt _ i) (sym (ap (λ x. get_or x i Null) e ∙ get_or_push old node Null i (omega arith))) (plain _ i);
    }

same_token : (l : List Node) (i : ℕ) (x : Node) → i < length l → node_token x ≡ node_token (get_or l i Null)
    → map node_token (slice_set l i x) ≡ map node_token l
same_token [] i x h e = let never : ⊥ = omega arith in absurd never
same_token (y ∷ l) zero x h e = ap (λ t. t ∷ map node_token l) e
same_token (y ∷ l) (suc i) x h e = ap (λ ts. node_token y ∷ ts) (same_token l i x (omega arith) e)

module _ (f : ℕ → Node) (t : Token) (opens : (a : ℕ) → node_token (f a) ≡ t) (link : (all : List Token) (i a : ℕ) → Passes all i a → LinkAt all i (f a)) where
  pub grown_close : (old opened : List Node) (left : List Token) (new : List Node) (rest : List Token) (depth : ℕ)
      → opened ≡ old ++ f 0 ∷ [] → Grown opened left new rest → skip_value depth (t ∷ left) ≡ Some rest
      → Grown old (t ∷ left) (slice_set new (length old) (f (length new))) rest
  grown_close old opened left new rest depth e g skipped =
      let i = length old in
      let x = f (length new) in
      let all = map node_token old ++ t ∷ left in
      let long : length opened ≡ i + 1 = ap length e ∙ length-append old (f 0 ∷ []) in
      let within : i < length new = omega (arith, g.longer) in
      let was : map node_token opened ++ left ≡ all = ap (λ l. map node_token l ++ left) e ∙ pushed old (f 0) left
      ∙ ap (λ k. map node_token old ++ k ∷ left) (opens 0) in
      let there : get_or new i Null ≡ f 0 = sym (get_or-take (length opened) new i Null (omega arith))
      ∙ ap (λ l. get_or l i Null) (g.front ∙ e) ∙ get_or_push old (f 0) Null i refl in
      let from_here : drop i all ≡ t ∷ left = drop_at (map node_token old) (t ∷ left) i (length-map old node_token) in
      let to_there : drop (length new) all ≡ rest = ap (drop (length new)) (sym (g.same ∙ was))
      ∙ drop_at (map node_token new) rest _ (length-map new node_token) in
      let passes : Passes all i (length new) = (
        depth,
        ap (skip_value depth) from_here ∙ skipped
            ∙ ap Some (sym to_there),
        within,
        omega (arith, ap length (g.same ∙ was), length-append (map node_token new) rest, length-map new node_token),
      ) in
      record {
        same = ap (λ l. l ++ rest) (same_token new i x within (opens _ ∙ sym (ap node_token there ∙ opens 0))) ∙ g.same ∙ was;
        longer = omega (arith, length-set new i x);
        front = take-set new i x ∙ sym (take-take i (length opened) new (omega arith)) ∙ ap (take i) (g.front ∙ e) ∙ take_at old (f 0 ∷ []) i refl;
        linked = λ j from below. ⊎_elim
            (λ (later : i < j). subst (LinkAt all j) (sym (get_or-set_other new i j x Null (λ z. omega arith)))
            (subst (λ a. LinkAt a j (get_or new j Null)) was (g.linked j (omega arith) (omega (arith, length-set new i x)))))
            (λ (here : j ≤ i). (let z : i ≡ j =
            omega arith in subst (λ k. LinkAt all k (get_or (slice_set new i x) k Null)) z
            (subst (LinkAt all i) (sym (get_or-set_same new i x Null within)) (link all i _ passes))))
            (cases_lt i j);
      }
