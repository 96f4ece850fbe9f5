-- Each step of a deal keeps the claim core.
use Rattle.std.proofs.Common.{◌≡◌, ℕ, zero, suc, ◌+◌, ◌-◌, ◌%◌, ◌^◌, ◌<◌, ◌≤◌, cond, min, eqb, List, [], ◌∷◌, ◌++◌, set, refl, sym, ap, ◌∙◌, subst, ⊎_elim, arith, length-set}
use Rattle.std.specs.Prelude.{slice_index}
use Rattle.std.proofs.Math.Nat.{mod-eq_of_lt}
use Rattle.std.proofs.lemmas.Bool.{cases_lt, cases_order, lt-ltb, le-ltb, eq-eqb, ne_eqb}
use Rattle.std.proofs.lemmas.List.{get_or-set_same, set-get_or}
use mathlib.Core.Option.{some, some-injective, some-ne-none}
use lib.ListN.{get_elem?}
use Rattle.atomic_table.specs.Table.{State, keeps, Allows, Splits, Joins, Me}
use Rattle.atomic_table.proofs.Lists.{at_set, at_snoc, set_else, set_again}
use Rattle.sarif_dispatch.specs.declared.deal.rule.Terms.{Terms}
use Rattle.sarif_dispatch.specs.declared.deal.rule.HandView.{HandView}
use Rattle.sarif_dispatch.specs.Claims.{times, total, once_below, hand_view, drew, Fits, Dealt, Learns}

pub times-append : (x : ℕ) (a b : List ℕ) → times x (a ++ b) ≡ times x a + times x b
times-append x [] b = omega arith
times-append x (y ∷ a) b = let h = times-append x a b in omega arith

module _ {A : Type 0} (f : A → ℕ) where
  pub total_push : (vs : List A) (w : A) → total f (vs ++ w ∷ []) ≡ total f vs + f w
  total_push [] w = omega arith
  total_push (v ∷ vs) w = let h = total_push vs w in omega arith

  pub total_set : (vs : List A) (i : ℕ) (v w : A) → get_elem? vs i ≡ some v → total f (set vs i w) + f v ≡ total f vs + f w
  total_set [] i v w at = absurd (some-ne-none v (sym at))
  total_set (u ∷ vs) zero v w at = let same : f u ≡ f v = ap f (some-injective u v at) in omega arith
  total_set (u ∷ vs) (suc i) v w at = let h = total_set vs i v w at in omega arith

  pub total_at : (vs : List A) (i : ℕ) (v : A) → get_elem? vs i ≡ some v → f v ≤ total f vs
  total_at [] i v at = absurd (some-ne-none v (sym at))
  total_at (u ∷ vs) zero v at = let same : f u ≡ f v = ap f (some-injective u v at) in omega arith
  total_at (u ∷ vs) (suc i) v at = let h = total_at vs i v at in omega arith

  pub total_none : (vs : List A) → ((j : ℕ) (u : A) → get_elem? vs j ≡ some u → f u ≡ 0) → total f vs ≡ 0
  total_none [] none = refl
  total_none (u ∷ vs) none = let h = total_none vs (λ j w at. none (suc j) w at) in let here = none 0 u refl in omega arith

pub total_le : {A : Type 0} (f g : A → ℕ) (vs : List A) → ((j : ℕ) (u : A) → get_elem? vs j ≡ some u → f u ≤ g u) → total f vs ≤ total g vs
total_le f g [] le = omega arith
total_le f g (u ∷ vs) le = let h = total_le f g vs (λ j w at. le (suc j) w at) in let here = le 0 u refl in omega arith

-- if one has all of g, it has all of f
pub total_whole : {A : Type 0} (f g : A → ℕ) (vs : List A) (i : ℕ) (v : A) → get_elem? vs i ≡ some v → g v ≡ total g vs
    → ((j : ℕ) (u : A) → get_elem? vs j ≡ some u → g u ≡ 0 → f u ≡ 0) → total f vs ≡ f v
total_whole f g [] i v at whole none = absurd (some-ne-none v (sym at))
total_whole f g (u ∷ vs) zero v at whole none =
    let same : u ≡ v = some-injective u v at in
    let here : f u ≡ f v = ap f same in
    let here' : g u ≡ g v = ap g same in
    let rest = total_none f vs (λ j w at'. none (suc j) w at' (let le = total_at g vs j w at' in omega arith)) in
    omega arith
total_whole f g (u ∷ vs) (suc i) v at whole none =
    let le = total_at g vs i v at in
    let zero_here = none 0 u refl (omega arith) in
    let rest = total_whole f g vs i v at (omega arith) (λ j w at'. none (suc j) w at') in
    omega arith

fits_more : (k : Terms) (c d : ℕ) (v : HandView) → c ≤ d → Fits k c v → Fits k d v
fits_more k c d v le h = record { marks = h.marks; spent = λ m. (let s = h.spent m in omega arith); terms = h.terms; behind = h.behind }

once_more : (x c runs : ℕ) → c < runs → once_below x (min (c + 1) runs) ≡ once_below x (min c runs) + cond (eqb c x) 1 0
once_more x c runs lt = ⊎_elim
    (λ (e : x ≡ c). ap (λ b. cond b 1 0) (lt-ltb x (min (c + 1) runs) (omega arith))
    ∙ sym (λ i. cond (le-ltb x (min c runs) (omega arith) i) 1 0 + cond (eq-eqb c x (sym e) i) 1 0))
    (λ o. ⊎_elim
    (λ (l : x < c). ap (λ b. cond b 1 0) (lt-ltb x (min (c + 1) runs) (omega arith))
    ∙ sym (λ i. cond (lt-ltb x (min c runs) (omega arith) i) 1 0 + cond (ne_eqb c x (λ q. omega arith) i) 1 0))
    (λ (g : c < x). ap (λ b. cond b 1 0) (le-ltb x (min (c + 1) runs) (omega arith))
    ∙ sym (λ i. cond (le-ltb x (min c runs) (omega arith) i) 1 0 + cond (ne_eqb c x (λ q. omega arith) i) 1 0))
    o)
    (cases_order x c)

once_same : (x c runs : ℕ) → runs ≤ c → once_below x (min (c + 1) runs) ≡ once_below x (min c runs)
once_same x c runs le = ap (once_below x) (omega arith)

-- the deal after a draw by a hand that found a run so far
module _ (k : Terms) (s : State (Unit {0}) HandView) (id : ℕ) (v : HandView) (h : Dealt k s) (at : get_elem? s.views id ≡ some v)
    (part : 0 < v.parts) (unmarked : v.marks < v.parts) where
  small_word : slice_index s.words 0 + 1 < 2 ^ 64
  small_word =
      let marks = total_le (λ u. u.marks) (λ u. u.parts) s.views (λ j u a. (h.each j u a).marks) in
      let word = h.word in let parts = h.parts in let small = h.small in omega arith

  word_after : (n : ℕ) → slice_index (set s.words 0 n) 0 ≡ n
  word_after n = get_or-set_same s.words 0 n 0 h.words

  took : (c : ℕ) → slice_index s.words 0 ≡ c → c < k.runs
      → Dealt k record {
        words = set s.words 0 (c + 1);
        homes = s.homes;
        views =
            set s.views id (hand_view v.runs v.hands v.parts v.marks (v.drawn ++ c ∷ []));
      }
  took c is lt =
      let w : HandView = hand_view v.runs v.hands v.parts v.marks (v.drawn ++ c ∷ []) in
      let mine = h.each id v at in
      let after = word_after (c + 1) in
      let fit : Fits k (c + 1) w =
      record {
        marks = mine.marks;
        spent = λ m. (let r = mine.spent m in omega arith);
        terms = mine.terms;
        behind =
            λ p. absurd (omega arith);
      } in
      record {
        words = (let l = length-set s.words 0 (c + 1) in let was = h.words in omega arith);
        small = h.small;
        parts = (let t = total_set (λ u. u.parts) s.views id v w at in let was = h.parts in omega arith);
        word = omega arith;
        each = λ j u a. subst (λ n. Fits k n u) (sym after)
            (⊎_elim (λ e. subst (λ q. Fits k (c + 1) q) e.1 fit)
            (λ e. fits_more k (slice_index s.words 0) (c + 1) u (omega arith) (h.each j u e.1)) (at_set s.views id j w u a));
        drawn = λ x.
            let t = total_set (λ u. times x u.drawn) s.views id v w at in
            let more = times-append x v.drawn (c ∷ []) in
            let was : total (λ u. times x u.drawn) s.views ≡ once_below x (min c k.runs) = h.drawn x ∙ ap (λ n. once_below x (min n k.runs)) is in
            let one = once_more x c k.runs lt in
            let goal : total (λ u. times x u.drawn) (set s.views id w) ≡ once_below x (min (c + 1) k.runs) = omega arith in
            goal ∙ ap (λ n. once_below x (min n k.runs)) (sym after);
      }

  found_none : (c : ℕ) → slice_index s.words 0 ≡ c → k.runs ≤ c
      → Dealt k record {
        words = set s.words 0 (c + 1);
        homes = s.homes;
        views =
            set s.views id (hand_view v.runs v.hands v.parts (v.marks + 1) v.drawn);
      }
  found_none c is le =
      let w : HandView = hand_view v.runs v.hands v.parts (v.marks + 1) v.drawn in
      let mine = h.each id v at in
      let after = word_after (c + 1) in
      let fit : Fits k (c + 1) w = record { marks = omega arith; spent = λ m. omega arith; terms = mine.terms; behind = mine.behind } in
      record {
        words = (let l = length-set s.words 0 (c + 1) in let was = h.words in omega arith);
        small = h.small;
        parts = (let t = total_set (λ u. u.parts) s.views id v w at in let was = h.parts in omega arith);
        word = (let t = total_set (λ u. u.marks) s.views id v w at in let was = h.word in omega arith);
        each = λ j u a. subst (λ n. Fits k n u) (sym after)
            (⊎_elim (λ e. subst (λ q. Fits k (c + 1) q) e.1 fit)
            (λ e. fits_more k (slice_index s.words 0) (c + 1) u (omega arith) (h.each j u e.1)) (at_set s.views id j w u a));
        drawn = λ x.
            let t = total_set (λ u. times x u.drawn) s.views id v w at in
            let was : total (λ u. times x u.drawn) s.views ≡ once_below x (min c k.runs) = h.drawn x ∙ ap (λ n. once_below x (min n k.runs)) is in
            let one = once_same x c k.runs le in
            let goal : total (λ u. times x u.drawn) (set s.views id w) ≡ once_below x (min (c + 1) k.runs) = omega arith in
            goal ∙ ap (λ n. once_below x (min n k.runs)) (sym after);
      }

  drawn_after : Dealt k record { words = set s.words 0 (slice_index s.words 0 + 1); homes = s.homes; views = set s.views id (drew (slice_index s.words 0) v) }
  drawn_after =
      let c = slice_index s.words 0 in
      let runs : v.runs ≡ k.runs = ((h.each id v at).terms part).0 in
      let F : HandView → Type 0 = λ w. Dealt k record { words = set s.words 0 (c + 1); homes = s.homes; views = set s.views id w } in
      ⊎_elim
      (λ (lt : c < v.runs). subst F
      (sym
      (ap
      (λ b. cond b (hand_view v.runs v.hands v.parts v.marks (v.drawn ++ c ∷ [])) (hand_view v.runs v.hands v.parts (v.marks + 1) v.drawn))
      (lt-ltb c v.runs lt))) (took c refl (omega arith)))
      (λ (le : v.runs ≤ c). subst F
      (sym
      (ap
      (λ b. cond b (hand_view v.runs v.hands v.parts v.marks (v.drawn ++ c ∷ [])) (hand_view v.runs v.hands v.parts (v.marks + 1) v.drawn))
      (le-ltb c v.runs le))) (found_none c refl (omega arith)))
      (cases_lt c v.runs)

-- a draw, by a hand that found a run so far
pub draws : (k : Terms) (slots id : ℕ) (me : Me (Unit {0}) HandView) → 0 < me.0.parts → me.0.marks < me.0.parts
    → Allows (Dealt k) slots id me 0 (λ n. (n + 1) % 2 ^ 64) (λ found after. after ≡ (drew found me.0, me.1))
draws k slots id me part unmarked s h len at fits =
    let c = slice_index s.words 0 in
    let F : ℕ → Type 0 = λ n. Dealt k record { words = set s.words 0 n; homes = s.homes; views = set s.views id (drew c me.0) } in
    (drew c me.0, keeps, tt, subst F (sym (mod-eq_of_lt (small_word k s id me.0 h at part unmarked))) (drawn_after k s id me.0 h at part unmarked), refl)

-- a look at the word
pub counts : (k : Terms) (slots id : ℕ) (me : Me (Unit {0}) HandView)
    → Allows (Dealt k) slots id me 0 (λ n. n) (λ found after. (after ≡ me) × Learns me.0 found)
counts k slots id me s h len at fits =
    let c = slice_index s.words 0 in
    let mine = h.each id me.0 at in
    let F : List ℕ → List HandView → Type 0 = λ ws vs. Dealt k record { words = ws; homes = s.homes; views = vs } in
    let same : F (set s.words 0 c) (set s.views id me.0) =
    subst (λ ws. F ws (set s.views id me.0)) (sym (set-get_or s.words 0 0))
    (subst (λ vs. F s.words vs) (sym (set_again s.views id me.0 at)) h) in (
      me.0,
      keeps,
      tt,
      same,
      (
        refl,
        record {
          spent = λ m. (let r = mine.spent m in let t = mine.terms (let le = mine.marks in omega arith) in omega (arith, t.0));
          drawn = λ all part x.
              let t = mine.terms part in
              let whole = total_whole (λ u. times x u.drawn) (λ u. u.parts) s.views id me.0 at (all ∙ t.1 ∙ sym h.parts)
              (λ j u a none. ap (times x) ((h.each j u a).behind none)) in
              sym whole ∙ h.drawn x ∙ ap (λ n. once_below x (min c n)) (sym t.0);
        },
      ),
    )

-- a hand is split off a seat that drew nothing
pub splits : (k : Terms) (id : ℕ) (v : HandView) → 0 < v.parts → v.marks ≡ 0 → v.drawn ≡ []
    → Splits (Dealt k) id v (hand_view v.runs v.hands (v.parts - 1) v.marks v.drawn) (hand_view v.runs v.hands 1 0 [])
splits k id v part unmarked none s h at =
    let l : HandView = hand_view v.runs v.hands (v.parts - 1) v.marks v.drawn in
    let r : HandView = hand_view v.runs v.hands 1 0 [] in
    let vs = set s.views id l in
    let mine = h.each id v at in
    let c = slice_index s.words 0 in
    let left : Fits k c l = record { marks = omega arith; spent = mine.spent; terms = λ p. mine.terms part; behind = λ p. none } in
    let right : Fits k c r = record { marks = omega arith; spent = λ m. absurd (omega arith); terms = λ p. mine.terms part; behind = λ p. refl } in
    record {
      words = h.words;
      small = h.small;
      parts = (let t = total_set (λ u. u.parts) s.views id v l at in let p = total_push (λ u. u.parts) vs r in let was = h.parts in omega arith);
      word = (let t = total_set (λ u. u.marks) s.views id v l at in let p = total_push (λ u. u.marks) vs r in let was = h.word in omega arith);
      each = λ j u a. ⊎_elim (λ a'. ⊎_elim (λ e. subst (λ q. Fits k c q) e.1 left) (λ e. h.each j u e.1) (at_set s.views id j l u a'))
          (λ e. subst (λ q. Fits k c q) e right) (at_snoc vs r u j a);
      drawn = λ x. let t = total_set (λ u. times x u.drawn) s.views id v l at in let p = total_push (λ u. times x u.drawn) vs r in let was = h.drawn x in
          let goal : total (λ u. times x u.drawn) (vs ++ r ∷ []) ≡ total (λ u. times x u.drawn) s.views = omega arith in goal ∙ was;
    }

-- a hand comes back to a seat
pub joins : (k : Terms) (id : ℕ) (v : HandView) (other : ℕ) (w : HandView) → 0 < v.parts
    → Joins (Dealt k) id v other w (hand_view v.runs v.hands (v.parts + w.parts) (v.marks + w.marks) (v.drawn ++ w.drawn)) (hand_view 0 0 0 0 [])
joins k id v other w part s h at apart at' =
    let both : HandView = hand_view v.runs v.hands (v.parts + w.parts) (v.marks + w.marks) (v.drawn ++ w.drawn) in
    let gone : HandView = hand_view 0 0 0 0 [] in
    let vs = set s.views id both in
    let was : get_elem? s.views other ≡ some w = sym (set_else s.views id other both apart) ∙ at' in
    let mine = h.each id v at in
    let theirs = h.each other w was in
    let c = slice_index s.words 0 in
    let fit : Fits k c both = record {
      marks = (let a = mine.marks in let b = theirs.marks in omega arith);
      spent = λ m. ⊎_elim (λ (p : 0 < v.marks). mine.spent p) (λ (p : v.marks ≤ 0). theirs.spent (omega arith)) (cases_lt 0 v.marks);
      terms = λ p. mine.terms part;
      behind = λ p. absurd (omega arith);
    } in
    let left : Fits k c gone = record { marks = omega arith; spent = λ m. absurd (omega arith); terms = λ p. absurd (omega arith); behind = λ p. refl } in
    record {
      words = h.words;
      small = h.small;
      parts = (let t = total_set (λ u. u.parts) s.views id v both at in let p = total_set (λ u. u.parts) vs other w gone at' in let q = h.parts in omega arith);
      word = (let t = total_set (λ u. u.marks) s.views id v both at in let p = total_set (λ u. u.marks) vs other w gone at' in let q = h.word in omega arith);
      each = λ j u a. ⊎_elim (λ e. subst (λ q. Fits k c q) e.1 left)
          (λ e. ⊎_elim (λ f. subst (λ q. Fits k c q) f.1 fit) (λ f. h.each j u f.1) (at_set s.views id j both u e.1))
          (at_set vs other j gone u a);
      drawn = λ x. let t = total_set (λ u. times x u.drawn) s.views id v both at in let p =
          total_set (λ u. times x u.drawn) vs other w gone at' in let m = times-append x v.drawn w.drawn in
          let goal : total (λ u. times x u.drawn) (set vs other gone) ≡ total (λ u. times x u.drawn) s.views = omega arith in goal ∙ h.drawn x;
    }
