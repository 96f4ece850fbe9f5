-- The hits once results were accepted.
use Rattle.std.proofs.Common.{◌≡◌, ◌≤◌, Bool, true, false, not, ◌&&◌, ◌||◌, List, [], ◌∷◌, Option, Some, None, refl, sym, ap, ◌∙◌, arith}
use Rattle.std.specs.List.{list_any, count_by}
use Rattle.sarif_change.specs.declared.spots.Scope.{Scope}
use Rattle.sarif_change.specs.declared.spots.Scope.TheVariants.{Lines, Files}
use Rattle.sarif_counts.specs.declared.gate_verdict.Verdict.TheVariants.{Pass, Fail}
use Rattle.sarif_model.specs.Level.{is_at_least}
use Rattle.sarif_options.specs.Policy.{is_listed}
use Rattle.sarif_policy.specs.Condition.{checks}
use Rattle.sarif_policy.specs.declared.condition.GateCondition.{GateCondition}
use Rattle.sarif_conditions.specs.Accepting.{suppressed_if}
use Rattle.sarif_conditions.specs.Decided.{hits_of, is_failing, is_hit, is_hit_of, is_inside, is_known, meets_minimum, verdict_of, would_hit}
use Rattle.sarif_conditions.specs.Judged.{Judged}
use Rattle.sarif_conditions.proofs.DecidedLaws.{count_less, there_any, verdict_means}

-- ---- one condition and one result

and_true : (a : Bool) → (a && true) ≡ a
and_true true = refl
and_true false = refl

and_false : (a : Bool) → (a && false) ≡ false
and_false true = refl
and_false false = refl

and_swap : (a b c : Bool) → ((a && b) && c) ≡ ((a && c) && b)
and_swap false b c = refl
and_swap true true true = refl
and_swap true true false = refl
and_swap true false true = refl
and_swap true false false = refl

-- what a condition requires of an active result, with any `diff`
abbrev would_by : Bool → Bool → Bool → Bool → Bool → Bool
would_by active checked level rating listed = (active && checked && level && rating) && listed

would_left : (s m checked level rating listed : Bool)
    → would_by (not (s || m)) checked level rating listed ≡ (would_by (not s) checked level rating listed && not m)
would_left true m checked level rating listed = refl
would_left false true checked level rating listed = sym (and_false (would_by true checked level rating listed))
would_left false false checked level rating listed = sym (and_true (would_by true checked level rating listed))

one_would : (m : Bool) (r : Judged) (c : GateCondition) → would_hit c (suppressed_if m r) ≡ (would_hit c r && not m)
one_would m r c =
    would_left r.suppressed m (checks c r.found) (is_at_least c.level r.level) (meets_minimum c.minimum r.rating) (is_listed c.states r.state)

inside_same : (diff : Option Scope) (m : Bool) (r : Judged) → is_inside diff (suppressed_if m r) ≡ is_inside diff r
inside_same None m r = refl
inside_same (Some Lines) m r = refl
inside_same (Some Files) m r = refl

one_hit : (m : Bool) (r : Judged) (c : GateCondition) → is_hit_of c (suppressed_if m r) ≡ (is_hit_of c r && not m)
one_hit m r c =
    ap (λ i. would_hit c (suppressed_if m r) && i) (inside_same c.diff m r)
    ∙ ap (λ w. w && is_inside c.diff r) (one_would m r c)
    ∙ and_swap (would_hit c r) (not m) (is_inside c.diff r)

-- ---- all conditions

or_and : (a b c : Bool) → ((a && c) || (b && c)) ≡ ((a || b) && c)
or_and true b true = refl
or_and true b false = and_false b
or_and false b c = refl

any_and : {X : Type 0} (p q : X → Bool) (b : Bool) (xs : List X) → ((x : X) → q x ≡ (p x && b)) → list_any q xs ≡ (list_any p xs && b)
any_and p q b [] each = refl
any_and p q b (x ∷ xs) each = rw (each x, any_and p q b xs each) (or_and (p x) (list_any p xs) b)

pub hits_left : (cs : List GateCondition) (m : Bool) (r : Judged) → is_hit cs (suppressed_if m r) ≡ (is_hit cs r && not m)
hits_left cs m r = any_and (λ c. is_hit_of c r) (λ c. is_hit_of c (suppressed_if m r)) (not m) cs (one_hit m r)

pub known_left : (cs : List GateCondition) (m : Bool) (r : Judged) → is_known cs (suppressed_if m r) ≡ (is_known cs r && not m)
known_left cs m r = any_and (λ c. would_hit c r) (λ c. would_hit c (suppressed_if m r)) (not m) cs (one_would m r)

-- ---- no hits

pub none_pass : (cs : List GateCondition) (rs : List Judged) → count_by (is_hit cs) rs ≡ 0 → verdict_of cs rs ≡ Pass
none_pass cs rs none = by_test (list_any (is_failing rs) cs) refl
  where
    by_test : (t : Bool) → list_any (is_failing rs) cs ≡ t → verdict_of cs rs ≡ Pass
    by_test true is =
        let fail : verdict_of cs rs ≡ Fail = rw is refl in
        let found = (verdict_means cs rs).0 fail in
        let fewer : hits_of found.0 rs ≤ count_by (is_hit cs) rs =
        count_less (is_hit_of found.0) (is_hit cs) (λ r t. there_any (λ c. is_hit_of c r) cs found.0 found.1 t) rs in
        absurd (omega (arith, fewer, none, found.2))
    by_test false is = rw is refl
