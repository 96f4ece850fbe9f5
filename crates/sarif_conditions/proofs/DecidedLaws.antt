-- Laws of what the conditions of a policy decide.
use Rattle.std.proofs.Common.{◌≡◌, ◌↔◌, ℕ, zero, suc, ◌+◌, ◌<◌, ◌≤◌, Bool, true, false, not, ◌&&◌, ◌||◌, if◌then◌else◌, List, [], ◌∷◌, ◌++◌, Option, None, IsTrue, refl, sym, ap, ◌∙◌, arith}
use Rattle.std.specs.Prelude.{nat_lt}
use Rattle.std.specs.Prelude.{IsPermutation}
use Rattle.std.specs.List.{Contains, list_any, count_by}
use Rattle.std.proofs.Common.{map}
use Rattle.std.proofs.lemmas.Bool.{false≢true}
use Rattle.std.proofs.lemmas.List.Folds.{list_any-append}
use Rattle.std.proofs.lemmas.List.Sums.{sum_by-cons, sum_by-le-sum_by}
use Rattle.std.proofs.lemmas.Bool.Decides.{nat_tests}
use Rattle.std.proofs.lemmas.List.Sorted.{Contains-permutation, IsPermutation-sym}
use mathlib.Core.Bool.{or-true, or-false, or_assoc}
use Rattle.sarif_change.specs.declared.spots.Scope.{Scope}
use Rattle.sarif_counts.specs.declared.gate_verdict.Verdict.TheVariants.{Pass, Fail}
use Rattle.sarif_model.specs.Level.{is_at_least}
use Rattle.sarif_options.specs.Policy.{is_listed}
use Rattle.sarif_options.specs.declared.policy.Policy.{Policy}
use Rattle.sarif_policy.specs.declared.condition.GateCondition.{GateCondition}
use Rattle.sarif_entries.specs.declared.entry.Entry.{Entry}
use Rattle.sarif_entries.specs.Matching.{matches}
use Rattle.sarif_policy.specs.Condition.{any_matches}
use Rattle.sarif_scope.specs.Counted.{verdict_on}
use Rattle.sarif_conditions.specs.Decided.{asks_for, is_hit_of, is_hit, hits_of, limit_of, is_failing, verdict_of, went_away, is_absent, is_inside, is_reported, meets_minimum}
use Rattle.sarif_conditions.specs.Facts.{facts_of, facts_of_condition, verdict_if, verdict_told}
use Rattle.sarif_conditions.specs.Options.{condition_of_options, is_hit_by_options, is_reported_by_options}
use Rattle.sarif_conditions.specs.Split.{with_only, with_except}
use Rattle.sarif_conditions.specs.declared.facts.ConditionFacts.{ConditionFacts}
use Rattle.sarif_conditions.specs.Judged.{Judged}

-- ---- lists

any_there : {X : Type 0} (p : X → Bool) (xs : List X) → list_any p xs ≡ true → (x : X) × Contains xs x × (p x ≡ true)
any_there p [] t = absurd (false≢true t)
any_there {X = X} p (x ∷ xs) t = by_first (any_there p xs) (p x) refl t
  where
    by_first : (list_any p xs ≡ true → (y : X) × Contains xs y × (p y ≡ true))
        → (first : Bool) → p x ≡ first → (first || list_any p xs) ≡ true → (y : X) × Contains (x ∷ xs) y × (p y ≡ true)
    by_first rest true is _ = (x, (zero, omega arith, refl), is)
    by_first rest false is more =
        let found = rest more in
        (found.0, (suc found.1.0, omega (arith, found.1.1), found.1.2), found.2)

pub there_any : {X : Type 0} (p : X → Bool) (xs : List X) (x : X) → Contains xs x → p x ≡ true → list_any p xs ≡ true
there_any p [] x (k, within, is) t = absurd (omega (arith, within))
there_any p (y ∷ ys) x (zero, within, is) t = rw (is, t) refl
there_any p (y ∷ ys) x (suc k, within, is) t =
    let later : list_any p ys ≡ true = there_any p ys x (k, omega (arith, within), is) t in
    rw later (or-true (p y))

any_permuted : {X : Type 0} (p : X → Bool) (xs ys : List X) → IsPermutation xs ys → list_any p xs ≡ list_any p ys
any_permuted p xs ys same = by_test (list_any p xs) refl (list_any p ys) refl
  where
    by_test : (s : Bool) → list_any p xs ≡ s → (t : Bool) → list_any p ys ≡ t → list_any p xs ≡ list_any p ys
    by_test true one t two =
        let found = any_there p xs one in
        one ∙ sym (there_any p ys found.0 (Contains-permutation xs ys found.0 same found.1) found.2)
    by_test false one true two =
        let found = any_there p ys two in
        let back : list_any p xs ≡ true =
        there_any p xs found.0 (Contains-permutation ys xs found.0 (IsPermutation-sym xs ys same) found.1) found.2 in
        absurd (false≢true (sym one ∙ back))
    by_test false one false two = one ∙ sym two

-- what fewer elements pass
pub count_less : {X : Type 0} (p q : X → Bool) → ((x : X) → p x ≡ true → q x ≡ true) → (xs : List X) → count_by p xs ≤ count_by q xs
count_less p q each xs =
    sum_by-le-sum_by (λ x. if p x then 1 else 0) (λ x. if q x then 1 else 0) xs (λ x. no_more (p x) (q x) (each x))
  where
    no_more : (a b : Bool) → (a ≡ true → b ≡ true) → (if a then 1 else 0) ≤ (if b then 1 else 0)
    no_more true true so = omega arith
    no_more true false so = absurd (false≢true (so refl))
    no_more false true so = omega arith
    no_more false false so = omega arith

-- ---- the verdict and the hits

pub verdict_means : (cs : List GateCondition) (rs : List Judged)
    → (verdict_of cs rs ≡ Fail) ↔ ((c : GateCondition) × Contains cs c × (limit_of c rs < hits_of c rs))
verdict_means cs rs = (there, back)
  where
    by_test : (t : Bool) → list_any (is_failing rs) cs ≡ t → verdict_of cs rs ≡ Fail → list_any (is_failing rs) cs ≡ true
    by_test true is _ = is
    by_test false is fail =
        let none : verdict_of cs rs ≡ Pass = rw is refl in
        let clash : Pass ≡ Fail = sym none ∙ fail in
        let never : ⊥ = cc in absurd never

    there : verdict_of cs rs ≡ Fail → (c : GateCondition) × Contains cs c × (limit_of c rs < hits_of c rs)
    there fail =
        let found = any_there (is_failing rs) cs (by_test (list_any (is_failing rs) cs) refl fail) in
        let over : limit_of found.0 rs < hits_of found.0 rs = grind (arith, nat_tests) in
        (found.0, found.1, over)

    back : ((c : GateCondition) × Contains cs c × (limit_of c rs < hits_of c rs)) → verdict_of cs rs ≡ Fail
    back found =
        let over : is_failing rs found.0 ≡ true = grind (arith, nat_tests) in
        rw (there_any (is_failing rs) cs found.0 found.1 over) refl

or_false : (t : Bool) → (t || false) ≡ t
or_false true = refl
or_false false = refl

pub hit_means : (cs : List GateCondition) (r : Judged)
    → IsTrue (is_hit cs r) ↔ ((c : GateCondition) × Contains cs c × IsTrue (is_hit (c ∷ []) r))
hit_means cs r = (
  λ t. let found = any_there (λ c. is_hit_of c r) cs t in (found.0, found.1, or_false (is_hit_of found.0 r) ∙ found.2),
  λ found. there_any (λ c. is_hit_of c r) cs found.0 found.1 (sym (or_false (is_hit_of found.0 r)) ∙ found.2),
)

pub same_hits : (cs ds : List GateCondition) (r : Judged) → IsPermutation cs ds → is_hit cs r ≡ is_hit ds r
same_hits cs ds r same = any_permuted (λ c. is_hit_of c r) cs ds same

pub same_verdict : (cs ds : List GateCondition) (rs : List Judged) → IsPermutation cs ds → verdict_of cs rs ≡ verdict_of ds rs
same_verdict cs ds rs same = rw (any_permuted (is_failing rs) cs ds same) refl

-- ---- limits

pub least_limit : (c : GateCondition) (rs : List Judged) → c.max ≤ limit_of c rs
least_limit c rs = omega arith

and_left : (a b : Bool) → (a && b) ≡ true → a ≡ true
and_left true b is = refl
and_left false b is = is

pub most_limit : (c : GateCondition) (rs : List Judged)
    → limit_of c rs ≤ c.max + count_by (λ (r : Judged). is_absent r.state) rs
most_limit c rs = by_ratchet c.ratchet refl
  where
    by_ratchet : (t : Bool) → c.ratchet ≡ t → limit_of c rs ≤ c.max + count_by (λ (r : Judged). is_absent r.state) rs
    by_ratchet true is =
        let fewer : count_by (went_away c) rs ≤ count_by (λ (r : Judged). is_absent r.state) rs =
        count_less (went_away c) (λ (r : Judged). is_absent r.state) (λ r t. and_left (is_absent r.state) r.is_gone (and_left (is_absent r.state && r.is_gone) (asks_for c r) t)) rs in
        rw is (omega (arith, fewer))
    by_ratchet false is = rw is (omega arith)

-- ---- the options as one condition

shuffled : (a b c d : Bool) → ((a && true && b && true) && c && d || false) ≡ (a && ((c && b) && d))
shuffled false b c d = refl
shuffled true false false d = refl
shuffled true false true d = refl
shuffled true true false d = refl
shuffled true true true false = refl
shuffled true true true true = refl

pub one_condition : (name : List ℕ) (policy : Policy) (diff : Option Scope) (r : Judged)
    → is_hit (condition_of_options name policy diff ∷ []) r ≡ is_hit_by_options policy diff r
one_condition name policy diff r =
    shuffled (not r.suppressed) (is_at_least policy.fail_on r.level) (is_listed policy.states r.state) (is_inside diff r)

reported_shuffled : (a b c : Bool) → (a && true && b && c || false) ≡ (a && (b && c))
reported_shuffled false b c = refl
reported_shuffled true false c = refl
reported_shuffled true true false = refl
reported_shuffled true true true = refl

pub one_reported : (name : List ℕ) (policy : Policy) (diff : Option Scope) (r : Judged)
    → is_reported (condition_of_options name policy diff ∷ []) r ≡ is_reported_by_options policy diff r
one_reported name policy diff r = reported_shuffled (not r.suppressed) (is_listed policy.states r.state) (is_inside diff r)

count_same : {X : Type 0} (p q : X → Bool) → ((x : X) → p x ≡ q x) → (xs : List X) → count_by p xs ≡ count_by q xs
count_same p q each [] = refl
count_same p q each (x ∷ xs) =
    sum_by-cons (λ y. if p y then 1 else 0) x xs ∙ ap (λ b. (if b then 1 else 0) + count_by p xs) (each x)
    ∙ ap (λ n. (if q x then 1 else 0) + n) (count_same p q each xs) ∙ sym (sum_by-cons (λ y. if q y then 1 else 0) x xs)

pub one_verdict : (name : List ℕ) (policy : Policy) (diff : Option Scope) (rs : List Judged)
    → verdict_of (condition_of_options name policy diff ∷ []) rs ≡ verdict_on (count_by (is_hit_by_options policy diff) rs) policy
one_verdict name policy diff rs =
    let c : GateCondition = condition_of_options name policy diff in
    let hits : hits_of c rs ≡ count_by (is_hit_by_options policy diff) rs =
    count_same (is_hit_of c) (is_hit_by_options policy diff) (λ r. sym (or_false (is_hit_of c r)) ∙ one_condition name policy diff r) rs in
    let same : policy.max + 0 ≡ policy.max = omega arith in
    ap verdict_if (or_false (is_failing rs c) ∙ ap (λ n. nat_lt n (hits_of c rs)) same ∙ ap (λ h. nat_lt policy.max h) hits)

-- ---- a condition in two parts

-- what a condition requires of a result, if it checks it
abbrev asked : Bool → Bool → Bool → Bool → Bool → Bool → Bool
asked active checked level rating listed inside = active && checked && level && rating && listed && inside

parts : (a f e l m t i : Bool)
    → asked a (not e) l m t i ≡ (asked a ((f || false) && not e) l m t i || asked a (not (f || e)) l m t i)
parts false f e l m t i = refl
parts true true true l m t i = refl
parts true true false l m t i = sym (or-false (l && m && t && i))
parts true false true l m t i = refl
parts true false false l m t i = refl

split_one : (c : GateCondition) (f : Entry) (r : Judged) → c.only ≡ None
    → is_hit_of c r ≡ (is_hit_of (with_only f c) r || is_hit_of (with_except f c) r)
split_one c f r free =
    rw free (parts (not r.suppressed) (matches None f r.found) (any_matches c.except r.found) (is_at_least c.level r.level)
    (meets_minimum c.minimum r.rating) (is_listed c.states r.state) (is_inside c.diff r))

pub split_hits : (cs ds : List GateCondition) (c : GateCondition) (f : Entry) (r : Judged) → c.only ≡ None
    → is_hit (cs ++ c ∷ ds) r ≡ is_hit (cs ++ with_only f c ∷ with_except f c ∷ ds) r
split_hits cs ds c f r free =
    let p : GateCondition → Bool = λ d. is_hit_of d r in
    let rest : (p c || list_any p ds) ≡ (p (with_only f c) || (p (with_except f c) || list_any p ds)) =
    ap (λ b. b || list_any p ds) (split_one c f r free) ∙ or_assoc (p (with_only f c)) (p (with_except f c)) (list_any p ds) in
    list_any-append p cs (c ∷ ds) ∙ ap (λ b. list_any p cs || b) rest
    ∙ sym (list_any-append p cs (with_only f c ∷ with_except f c ∷ ds))

-- ---- a gate that fails

any_counted : {X : Type 0} (p : X → Bool) (xs : List X) → 0 < count_by p xs → (x : X) × Contains xs x × (p x ≡ true)
any_counted p [] some = absurd (omega (arith, some))
any_counted {X = X} p (x ∷ xs) some = by_first (any_counted p xs) (p x) refl
  where
    by_first : (0 < count_by p xs → (y : X) × Contains xs y × (p y ≡ true))
        → (first : Bool) → p x ≡ first → (y : X) × Contains (x ∷ xs) y × (p y ≡ true)
    by_first rest true is = (x, (zero, omega arith, refl), is)
    by_first rest false is =
        let weight : Bool → ℕ = λ b. if b then 1 else 0 in
        let split : count_by p (x ∷ xs) ≡ weight (p x) + count_by p xs = sum_by-cons (λ y. if p y then 1 else 0) x xs in
        let none : weight (p x) ≡ 0 = ap weight is in
        let more : 0 < count_by p xs = omega (arith, split, none, some) in
        let found = rest more in
        (found.0, (suc found.1.0, omega (arith, found.1.1), found.1.2), found.2)

pub fail_has_hit : (cs : List GateCondition) (rs : List Judged) → verdict_of cs rs ≡ Fail
    → (r : Judged) × Contains rs r × IsTrue (is_hit cs r)
fail_has_hit cs rs fail =
    let found = (verdict_means cs rs).0 fail in
    let some : 0 < hits_of found.0 rs = omega (arith, found.2) in
    let hit = any_counted (is_hit_of found.0) rs some in
    (hit.0, hit.1, there_any (λ c. is_hit_of c hit.0) cs found.0 found.1 hit.2)

any_told : (cs : List GateCondition) (rs : List Judged)
    → list_any (λ (c : ConditionFacts). c.fails) (map (facts_of_condition rs) cs) ≡ list_any (is_failing rs) cs
any_told [] rs = refl
any_told (c ∷ cs) rs = rw (any_told cs rs) refl

pub told_verdict : (cs : List GateCondition) (rs : List Judged) → verdict_told (facts_of cs rs) ≡ verdict_of cs rs
told_verdict cs rs = rw (any_told cs rs) refl
