-- What conditions decide together, with one condition more.
use Rattle.std.proofs.Common.{◌≡◌, ℕ, ◌+◌, Bool, true, false, not, ◌&&◌, ◌||◌, List, [], ◌∷◌, ◌++◌, length, map, min, Option, refl, sym, ap, ◌∙◌, arith, nat_lt, if◌then◌else◌}
use mathlib.Core.Bool.{or-false}
use Rattle.std.specs.List.{list_any, count_by}
use Rattle.std.proofs.lemmas.List.{map-append, length-map}
use Rattle.std.proofs.lemmas.List.Folds.{fold-map, list_any-append}
use Rattle.std.proofs.lemmas.List.Sums.{sum_by-append, sum_by_push}
use Rattle.sarif_entries.specs.declared.entry.Entry.{Entry}
use Rattle.sarif_policy.specs.Condition.{checks}
use Rattle.sarif_policy.specs.declared.condition.GateCondition.{GateCondition}
use Rattle.sarif_conditions.specs.Decided.{is_failing, hits_of, impact_of, is_absent, is_hit_of, is_inside, is_known, is_reported_by, unused_by, unused_of, went_away, would_hit}
use Rattle.sarif_conditions.specs.Facts.{decided_of, facts_of_condition, most_unused, with_scope}
use Rattle.sarif_conditions.specs.Internal.Deciding.{deciding_of, fails_by, facts_by, impact_in, outcome_of, standing_before, standing_of, with_condition, with_outcome, with_outcomes}
use Rattle.sarif_counts.specs.declared.gate_verdict.Impact.{Impact}
use Rattle.sarif_conditions.specs.declared.decided.Decided.{Decided}
use Rattle.sarif_conditions.specs.declared.deciding.Deciding.{Deciding}
use Rattle.sarif_conditions.specs.declared.facts.ConditionFacts.{ConditionFacts}
use Rattle.sarif_conditions.specs.Judged.{Judged, judged_of}
use Rattle.sarif_conditions.specs.declared.judged.JudgedResult.{JudgedResult}
use Rattle.sarif_conditions.specs.declared.outcome.Outcome.{Outcome}
use Rattle.sarif_conditions.specs.declared.standing.Standing.{Standing}

-- ---- lists

pub count_of_map : {X Y : Type 0} (f : X → Y) (p : Y → Bool) (xs : List X) → count_by p (map f xs) ≡ count_by (λ x. p (f x)) xs
count_of_map f p xs = fold-map (λ n y. n + (if p y then 1 else 0)) f 0 xs

any_more : {X : Type 0} (p : X → Bool) (xs : List X) (x : X) → list_any p (xs ++ x ∷ []) ≡ (list_any p xs || p x)
any_more p xs x = list_any-append p xs (x ∷ []) ∙ ap (λ b. list_any p xs || b) (or-false (p x))

-- ---- one result

known_by : (would inside : Bool) → ((would && inside) || (would && not inside)) ≡ would
known_by true true = refl
known_by true false = refl
known_by false inside = refl

unchecked_by : (a b c d : Bool) → (((a && b) && not c) && not d) ≡ ((a && b) && not (c || d))
unchecked_by true true true d = refl
unchecked_by true true false d = refl
unchecked_by true false c d = refl
unchecked_by false b c d = refl

abbrev standing_with : Bool → Bool → Bool → Bool → Bool → Standing
standing_with reported hit stops known unchecked = record {
  reported = reported;
  hit = hit;
  stops = stops;
  known = known;
  unchecked = unchecked;
}

same_standing : {a b c d e f g h i j : Bool} → a ≡ f → b ≡ g → c ≡ h → d ≡ i → e ≡ j → standing_with a b c d e ≡ standing_with f g h i j
same_standing one two three four five = cc

-- what is known about a result, with one condition more
one_standing : (cs : List GateCondition) (c : GateCondition) (rs : List Judged) (r : Judged)
    → with_outcome (is_failing rs c) (standing_of cs rs r) (outcome_of c r) ≡ standing_of (cs ++ c ∷ []) rs r
one_standing cs c rs r =
    let checked : list_any (λ (d : GateCondition). checks d r.found) (cs ++ c ∷ [])
    ≡ (list_any (λ (d : GateCondition). checks d r.found) cs || checks c r.found) = any_more (λ (d : GateCondition). checks d r.found) cs c in
    same_standing
    (sym (any_more (λ (d : GateCondition). is_reported_by d r) cs c))
    (sym (any_more (λ (d : GateCondition). is_hit_of d r) cs c))
    (sym (any_more (λ (d : GateCondition). is_failing rs d && is_hit_of d r) cs c))
    (ap (λ b. is_known cs r || b) (known_by (would_hit c r) (is_inside c.diff r)) ∙ sym (any_more (λ (d : GateCondition). would_hit d r) cs c))
    (unchecked_by (not r.suppressed) (not (is_absent r.state)) (list_any (λ (d : GateCondition). checks d r.found) cs) (checks c r.found)
    ∙ ap (λ b. (not r.suppressed && not (is_absent r.state)) && not b) (sym checked))

-- ---- all results

pub all_standings : (cs : List GateCondition) (c : GateCondition) (all rs : List Judged)
    → with_outcomes (is_failing all c) (map (standing_of cs all) rs) (map (outcome_of c) rs) ≡ map (standing_of (cs ++ c ∷ []) all) rs
all_standings cs c all [] = refl
all_standings cs c all (r ∷ rs) = rw (one_standing cs c all r, all_standings cs c all rs) refl

-- ---- one condition

abbrev facts_with : GateCondition → ℕ → ℕ → ℕ → ConditionFacts
facts_with c hits gone outside = record {
  name = c.name;
  hits = hits;
  limit = c.max + (if c.ratchet then gone else 0);
  outside = with_scope c.diff outside;
  fails = nat_lt (c.max + (if c.ratchet then gone else 0)) hits;
}

facts_same : (c : GateCondition) (rs : List Judged) → facts_by c (map (outcome_of c) rs) ≡ facts_of_condition rs c
facts_same c rs =
    let os : List Outcome = map (outcome_of c) rs in
    let outsides : ℕ = count_by (λ (o : Outcome). o.outside) os in
    ap (λ n. facts_with c n (count_by (λ (o : Outcome). o.gone) os) outsides) (count_of_map (outcome_of c) (λ (o : Outcome). o.hit) rs)
    ∙ ap (λ n. facts_with c (hits_of c rs) n outsides) (count_of_map (outcome_of c) (λ (o : Outcome). o.gone) rs)
    ∙ ap (λ n. facts_with c (hits_of c rs) (count_by (went_away c) rs) n) (count_of_map (outcome_of c) (λ (o : Outcome). o.outside) rs)

unused_more : (cs : List GateCondition) (c : GateCondition) (rs : List Judged)
    → min most_unused (min most_unused (unused_of cs rs) + unused_by rs c) ≡ min most_unused (unused_of (cs ++ c ∷ []) rs)
unused_more cs c rs = let sum = sum_by_push (unused_by rs) cs c in omega (arith, sum)

abbrev deciding_with : List Standing → List ConditionFacts → ℕ → Deciding
deciding_with standings facts unused = record { standings = standings; facts = facts; unused = unused }

same_deciding : {a d : List Standing} {b e : List ConditionFacts} {c f : ℕ} → a ≡ d → b ≡ e → c ≡ f → deciding_with a b c ≡ deciding_with d e f
same_deciding one two three = cc

one_added : (before : List GateCondition) (c : GateCondition) (rs : List Judged)
    → with_condition c (map (outcome_of c) rs) (unused_by rs c) (deciding_of before rs) ≡ deciding_of (before ++ c ∷ []) rs
one_added before c rs =
    let failing : fails_by c (map (outcome_of c) rs) ≡ is_failing rs c = ap (λ (f : ConditionFacts). f.fails) (facts_same c rs) in
    same_deciding
    (ap (λ b. with_outcomes b (map (standing_of before rs) rs) (map (outcome_of c) rs)) failing ∙ all_standings before c rs rs)
    (ap (λ f. map (facts_of_condition rs) before ++ f ∷ []) (facts_same c rs) ∙ sym (map-append (facts_of_condition rs) before (c ∷ [])))
    (unused_more before c rs)

-- what is decided with one condition more
pub one_condition : (before : List GateCondition) (c : GateCondition) (rs : List Judged) (old new : Deciding) (os : List Outcome) (unused : ℕ)
    → os ≡ map (outcome_of c) rs → unused ≡ unused_by rs c → new ≡ with_condition c os unused old → old ≡ deciding_of before rs
    → new ≡ deciding_of (before ++ c ∷ []) rs
one_condition before c rs old new os unused os_are unused_is new_is old_is =
    new_is ∙ ap (λ d. with_condition c os unused d) old_is
    ∙ ap (λ xs. with_condition c xs unused (deciding_of before rs)) os_are
    ∙ ap (λ n. with_condition c (map (outcome_of c) rs) n (deciding_of before rs)) unused_is
    ∙ one_added before c rs

-- what is decided before any condition
pub none_added : (rs : List Judged) (d : Deciding) → d.standings ≡ map standing_before rs → d.facts ≡ [] → d.unused ≡ 0 → d ≡ deciding_of [] rs
none_added rs d standings facts unused =
    let same : map standing_before rs ≡ map (standing_of [] rs) rs = before rs in
    same_deciding {a = d.standings} {b = d.facts} {c = d.unused} (standings ∙ same) facts unused
  where
    one : (all : List Judged) (r : Judged) → standing_before r ≡ standing_of [] all r
    one all r = same_standing refl refl refl refl (same (not r.suppressed && not (is_absent r.state)))
      where
        same : (b : Bool) → b ≡ (b && true)
        same true = refl
        same false = refl

    each : (all rs : List Judged) → map standing_before rs ≡ map (standing_of [] all) rs
    each all [] = refl
    each all (r ∷ rs) = rw (one all r, each all rs) refl

    before : (rs : List Judged) → map standing_before rs ≡ map (standing_of [] rs) rs
    before rs = each rs rs

-- ---- the facts about the results

impacts_same : (cs : List GateCondition) (all rs : List Judged) → map impact_in (map (standing_of cs all) rs) ≡ map (impact_of cs all) rs
impacts_same cs all [] = refl
impacts_same cs all (r ∷ rs) = rw (impacts_same cs all rs) refl

known_same : (cs : List GateCondition) (all rs : List Judged)
    → map (λ (s : Standing). s.known) (map (standing_of cs all) rs) ≡ map (is_known cs) rs
known_same cs all [] = refl
known_same cs all (r ∷ rs) = rw (known_same cs all rs) refl

abbrev decided_with : List ConditionFacts → ℕ → ℕ → ℕ → ℕ → List (Option Impact) → List Bool → Decided
decided_with conditions hits reported unchecked unused impacts known = record {
  facts = record {
    conditions = conditions;
    hits = hits;
    reported = reported;
    unchecked = unchecked;
    unused_filters = unused;
  };
  impacts = impacts;
  known = known;
}

-- what the gate says about the results at the end
abbrev told_by : Deciding → Decided
told_by d = decided_with d.facts (count_by (λ (s : Standing). s.hit) d.standings) (count_by (λ (s : Standing). s.reported) d.standings)
    (count_by (λ (s : Standing). s.unchecked) d.standings) d.unused (map impact_in d.standings)
    (map (λ (s : Standing). s.known) d.standings)

same_decided : {fs : List ConditionFacts} {unused : ℕ} {a b c d e f : ℕ} {xs ys : List (Option Impact)} {ks ls : List Bool}
    → a ≡ d → b ≡ e → c ≡ f → xs ≡ ys → ks ≡ ls → decided_with fs a b c unused xs ks ≡ decided_with fs d e f unused ys ls
same_decided one two three four five = cc

-- the facts at the end
pub decided_is : (cs : List GateCondition) (rs : List Judged) (d : Deciding) → d ≡ deciding_of cs rs
    → decided_with d.facts (count_by (λ (s : Standing). s.hit) d.standings) (count_by (λ (s : Standing). s.reported) d.standings)
    (count_by (λ (s : Standing). s.unchecked) d.standings) d.unused
    (map impact_in d.standings) (map (λ (s : Standing). s.known) d.standings) ≡ decided_of cs rs
decided_is cs rs d is =
    ap told_by is
    ∙ same_decided
    (count_of_map (standing_of cs rs) (λ (s : Standing). s.hit) rs)
    (count_of_map (standing_of cs rs) (λ (s : Standing). s.reported) rs)
    (count_of_map (standing_of cs rs) (λ (s : Standing). s.unchecked) rs)
    (impacts_same cs rs rs)
    (known_same cs rs rs)

pub standings_alike : (cs : List GateCondition) (rs : List Judged) (d : Deciding) → d ≡ deciding_of cs rs → length d.standings ≡ length rs
standings_alike cs rs d is = ap (λ (x : Deciding). length x.standings) is ∙ length-map rs (standing_of cs rs)

-- ---- results that are borrowed

map_twice : {X Y Z : Type 0} (f : X → Y) (g : Y → Z) (xs : List X) → map (λ x. g (f x)) xs ≡ map g (map f xs)
map_twice f g [] = refl
map_twice f g (x ∷ xs) = rw (map_twice f g xs) refl

pub before_same : (rs : List JudgedResult) (ss : List Standing) → ss ≡ map (λ r. standing_before (judged_of r)) rs
    → ss ≡ map standing_before (map judged_of rs)
before_same rs ss is = is ∙ map_twice judged_of standing_before rs

-- ---- the filters of a condition

-- the count over two lists is the sum of the counts
pub parts_counted : (p : Entry → Bool) (xs ys : List Entry) → count_by p xs + count_by p ys ≡ count_by p (xs ++ ys)
parts_counted p xs ys = sym (sum_by-append (λ e. if p e then 1 else 0) xs ys)
