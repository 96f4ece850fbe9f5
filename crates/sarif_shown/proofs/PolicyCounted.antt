-- The findings of results that conditions report, counted.
use Rattle.std.proofs.Common.{◌≡◌, ◌<◌, ◌≤◌, ◌+◌, ℕ, Bool, true, false, not, ◌&&◌, ◌||◌, cond, List, [], ◌∷◌, Option, Some, None, length, map, ap, sym, refl, ◌∙◌, take, if◌then◌else◌, arith}
use Rattle.std.specs.Prelude.{nat_lt}
use Rattle.std.specs.List.{cons_option, count_by, filter, filter_map, list_any}
use Rattle.std.proofs.Math.Seq.{take-append_seam}
use Rattle.std.proofs.lemmas.Bool.{and_parts, le-ltb, lt-ltb, ltb-true, or_parts, true≢false}
use Rattle.std.proofs.lemmas.List.{length-map}
use Rattle.std.proofs.lemmas.List.Sums.{length-filter, sum_by-cons}
use Rattle.sarif_conditions.specs.Decided.{hits_of, impact_by, impact_of, is_failing, is_hit as is_policy_hit, is_hit_of, is_inside, is_reported, is_reported_by, is_stopping, limit_of, meets_minimum}
use Rattle.sarif_conditions.specs.Facts.{facts_of, facts_of_condition, verdict_if, verdict_told}
use Rattle.sarif_conditions.specs.Judged.{Judged}
use Rattle.sarif_conditions.specs.declared.facts.ConditionFacts.{ConditionFacts}
use Rattle.sarif_counts.specs.Impacts.{is_hit}
use Rattle.sarif_counts.specs.declared.gate_verdict.Impact.{Impact}
use Rattle.sarif_counts.specs.declared.gate_verdict.Impact.TheVariants as impacts
use Rattle.sarif_findings.specs.Reported.{is_among}
use Rattle.sarif_findings.specs.declared.finding.Finding.{Finding}
use Rattle.sarif_findings.specs.declared.reporting.Show.{Show}
use Rattle.sarif_findings.specs.declared.reporting.Show.TheVariants.{Hits, All}
use Rattle.sarif_model.specs.Level.{is_at_least}
use Rattle.sarif_options.specs.Policy.{is_listed}
use Rattle.sarif_policy.specs.Condition.{checks}
use Rattle.sarif_policy.specs.declared.condition.GateCondition.{GateCondition}
use Rattle.sarif_shown.specs.Listed.{hits_among, listed, others_among}
use Rattle.sarif_shown.specs.PolicyLaws.{AreRuled, is_fail, reported_impacts}
use Rattle.sarif_shown.specs.Ruled.{left_by}
use Rattle.sarif_shown.specs.Stopping.{is_marked}
use Rattle.sarif_shown.proofs.ListedMore.{length_hits}

-- ---- each hit is reported, and what stops the change is a hit

reported_if : (active checked level rated listed inside : Bool) → (((active && checked && level && rated) && listed) && inside) ≡ true
    → (active && checked && listed && inside) ≡ true
reported_if true true true true true true h = refl
reported_if true true true true true false h = h
reported_if true true true true false inside h = h
reported_if true true true false listed inside h = absurd (true≢false (sym h))
reported_if true true false rated listed inside h = absurd (true≢false (sym h))
reported_if true false level rated listed inside h = absurd (true≢false (sym h))
reported_if false checked level rated listed inside h = absurd (true≢false (sym h))

hit_reported : (c : GateCondition) (r : Judged) → is_hit_of c r ≡ true → is_reported_by c r ≡ true
hit_reported c r h =
    reported_if (not r.suppressed) (checks c r.found) (is_at_least c.level r.level) (meets_minimum c.minimum r.rating) (is_listed c.states r.state)
    (is_inside c.diff r) h

any_or : (a b x y : Bool) → (a ≡ true → x ≡ true) → (b ≡ true → y ≡ true) → (a || b) ≡ true → (x || y) ≡ true
any_or true b x y f g h = ap (λ t. t || y) (f refl)
any_or false true true y f g h = refl
any_or false true false y f g h = g refl
any_or false false x y f g h = absurd (true≢false (sym h))

hits_reported : (cs : List GateCondition) (r : Judged) → is_policy_hit cs r ≡ true → is_reported cs r ≡ true
hits_reported [] r h = h
hits_reported (c ∷ cs) r h =
    any_or (is_hit_of c r) (is_policy_hit cs r) (is_reported_by c r) (is_reported cs r) (hit_reported c r) (hits_reported cs r) h

stopping_hit : (cs : List GateCondition) (all : List Judged) (r : Judged) → is_stopping cs all r ≡ true → is_policy_hit cs r ≡ true
stopping_hit [] all r h = h
stopping_hit (c ∷ cs) all r h =
    any_or (is_failing all c && is_hit_of c r) (is_stopping cs all r) (is_hit_of c r) (is_policy_hit cs r)
    (λ e. (and_parts (is_failing all c) (is_hit_of c r) e).1) (stopping_hit cs all r) h

-- ---- the reported results, counted by what they do

module _ (test : Impact → Bool) where
  abbrev passed : List Impact → ℕ
  passed is = count_by test is

  abbrev one_of : Option Impact → ℕ
  one_of None = 0
  one_of (Some i) = cond (test i) 1 0

  one_more : (o : Option Impact) (is : List Impact) → passed (cons_option o is) ≡ one_of o + passed is
  one_more None is = omega arith
  one_more (Some i) is = sum_by-cons (λ (j : Impact). cond {A = ℕ} (test j) 1 0) i is

  module _ (cs : List GateCondition) (all : List Judged) (pass : Judged → Bool)
      (same : (r : Judged) → one_of (impact_of cs all r) ≡ cond (pass r) 1 0) where
    counted : (rs : List Judged) → passed (filter_map (impact_of cs all) rs) ≡ count_by pass rs
    counted [] = refl
    counted (r ∷ rs) =
        let first = one_more (impact_of cs all r) (filter_map (impact_of cs all) rs) in
        let one = same r in
        let whole = sum_by-cons (λ (s : Judged). cond {A = ℕ} (pass s) 1 0) r rs in
        let rest = counted rs in
        omega (arith, first, one, whole, rest)

hit_one : (reported stop hit : Bool) → (hit ≡ true → reported ≡ true) → (stop ≡ true → hit ≡ true)
    → one_of is_hit (if reported then Some (impact_by stop hit) else None) ≡ cond hit 1 0
hit_one true true true f g = refl
hit_one true true false f g = absurd (true≢false (sym (g refl)))
hit_one true false true f g = refl
hit_one true false false f g = refl
hit_one false stop true f g = absurd (true≢false (sym (f refl)))
hit_one false stop false f g = refl

stop_one : (reported stop hit : Bool) → (hit ≡ true → reported ≡ true) → (stop ≡ true → hit ≡ true)
    → one_of is_marked (if reported then Some (impact_by stop hit) else None) ≡ cond stop 1 0
stop_one true true hit f g = refl
stop_one true false true f g = refl
stop_one true false false f g = refl
stop_one false true hit f g = absurd (true≢false (sym (f (g refl))))
stop_one false false hit f g = refl

any_one : (reported stop hit : Bool) → one_of (λ i. true) (if reported then Some (impact_by stop hit) else None) ≡ cond reported 1 0
any_one true stop hit = refl
any_one false stop hit = refl

hits_impacts : (cs : List GateCondition) (rs : List Judged) → count_by is_hit (reported_impacts cs rs) ≡ (facts_of cs rs).hits
hits_impacts cs rs =
    counted is_hit cs rs (is_policy_hit cs)
    (λ r. hit_one (is_reported cs r) (is_stopping cs rs r) (is_policy_hit cs r) (hits_reported cs r) (stopping_hit cs rs r)) rs

stops_impacts : (cs : List GateCondition) (rs : List Judged) → count_by is_marked (reported_impacts cs rs) ≡ count_by (is_stopping cs rs) rs
stops_impacts cs rs =
    counted is_marked cs rs (is_stopping cs rs)
    (λ r. stop_one (is_reported cs r) (is_stopping cs rs r) (is_policy_hit cs r) (hits_reported cs r) (stopping_hit cs rs r)) rs

count_all : (is : List Impact) → count_by (λ i. true) is ≡ length is
count_all [] = refl
count_all (i ∷ is) =
    let first = sum_by-cons (λ (j : Impact). cond {A = ℕ} true 1 0) i is in
    let rest = count_all is in
    omega (arith, first, rest)

all_impacts : (cs : List GateCondition) (rs : List Judged) → length (reported_impacts cs rs) ≡ (facts_of cs rs).reported
all_impacts cs rs =
    sym (count_all (reported_impacts cs rs))
    ∙ counted (λ i. true) cs rs (is_reported cs) (λ r. any_one (is_reported cs r) (is_stopping cs rs r) (is_policy_hit cs r)) rs

-- ---- the shown results

kept_one : (test keep : Impact → Bool) (i : Impact) (is : List Impact) → (test i ≡ true → keep i ≡ true)
    → count_by test (filter keep is) ≡ count_by test is → count_by test (filter keep (i ∷ is)) ≡ count_by test (i ∷ is)
kept_one test keep i is h rest = by (keep i) (test i) refl refl
  where
    by : (b t : Bool) → keep i ≡ b → test i ≡ t → count_by test (cond b (i ∷ filter keep is) (filter keep is)) ≡ count_by test (i ∷ is)
    by true t e u =
        sum_by-cons (λ (j : Impact). cond {A = ℕ} (test j) 1 0) i (filter keep is) ∙ ap (λ n. cond {A = ℕ} (test i) 1 0 + n) rest
        ∙ sym (sum_by-cons (λ (j : Impact). cond {A = ℕ} (test j) 1 0) i is)
    by false true e u = absurd (true≢false (sym (h u) ∙ e))
    by false false e u =
        let whole = sum_by-cons (λ (j : Impact). cond {A = ℕ} (test j) 1 0) i is in
        let none = ap (λ b. cond {A = ℕ} b 1 0) u in
        omega (arith, whole, none, rest)

kept_all : (test keep : Impact → Bool) → ((i : Impact) → test i ≡ true → keep i ≡ true) → (is : List Impact)
    → count_by test (filter keep is) ≡ count_by test is
kept_all test keep h [] = refl
kept_all test keep h (i ∷ is) = kept_one test keep i is (h i) (kept_all test keep h is)

among_hit : (show : Show) (hit : Bool) → hit ≡ true → is_among show hit ≡ true
among_hit Hits hit e = e
among_hit All hit e = refl

marked_hit : (i : Impact) → is_marked i ≡ true → is_hit i ≡ true
marked_hit impacts.Stops e = refl
marked_hit impacts.Hit e = refl
marked_hit impacts.None e = e

counted_map : (test : Impact → Bool) (fs : List Finding) → count_by (λ (f : Finding). test f.impact) fs ≡ count_by test (map (λ (f : Finding). f.impact) fs)
counted_map test [] = refl
counted_map test (f ∷ fs) =
    let first = sum_by-cons (λ (g : Finding). cond {A = ℕ} (test g.impact) 1 0) f fs in
    let second = sum_by-cons (λ (j : Impact). cond {A = ℕ} (test j) 1 0) f.impact (map (λ (g : Finding). g.impact) fs) in
    let rest = counted_map test fs in
    omega (arith, first, second, rest)

pub policy_hits : (show : Show) (cs : List GateCondition) (rs : List Judged) (fs : List Finding) → AreRuled show cs rs fs
    → count_by (λ f. is_hit f.impact) fs ≡ (facts_of cs rs).hits
policy_hits show cs rs fs are =
    counted_map is_hit fs ∙ ap (count_by is_hit) are
    ∙ kept_all is_hit (λ i. is_among show (is_hit i)) (λ i e. among_hit show (is_hit i) e) (reported_impacts cs rs) ∙ hits_impacts cs rs

policy_stops : (show : Show) (cs : List GateCondition) (rs : List Judged) (fs : List Finding) → AreRuled show cs rs fs
    → count_by (λ f. is_marked f.impact) fs ≡ count_by (is_stopping cs rs) rs
policy_stops show cs rs fs are =
    counted_map is_marked fs ∙ ap (count_by is_marked) are
    ∙ kept_all is_marked (λ i. is_among show (is_hit i)) (λ i e. among_hit show (is_hit i) (marked_hit i e)) (reported_impacts cs rs) ∙ stops_impacts cs rs

filter_true : (is : List Impact) → filter (λ i. true) is ≡ is
filter_true [] = refl
filter_true (i ∷ is) = ap (λ js. i ∷ js) (filter_true is)

hits_few : (is : List Impact) → count_by is_hit is ≤ length is
hits_few [] = omega arith
hits_few (i ∷ is) =
    let first = sum_by-cons (λ (j : Impact). cond {A = ℕ} (is_hit j) 1 0) i is in
    let one = one_at_most (is_hit i) in
    let rest = hits_few is in
    omega (arith, first, one, rest)
  where
    one_at_most : (b : Bool) → cond {A = ℕ} b 1 0 ≤ 1
    one_at_most true = omega arith
    one_at_most false = omega arith

pub policy_shown : (show : Show) (cs : List GateCondition) (rs : List Judged) (fs : List Finding) → AreRuled show cs rs fs
    → length fs + left_by show (facts_of cs rs) ≡ (facts_of cs rs).reported
policy_shown All cs rs fs are =
    let size = sym (length-map fs (λ (f : Finding). f.impact)) ∙ ap length are ∙ ap length (filter_true (reported_impacts cs rs)) in
    let all = all_impacts cs rs in
    omega (arith, size, all)
policy_shown Hits cs rs fs are =
    let size = sym (length-map fs (λ (f : Finding). f.impact)) ∙ ap length are ∙ length-filter is_hit (reported_impacts cs rs) in
    let hits = hits_impacts cs rs in
    let all = all_impacts cs rs in
    let few = hits_few (reported_impacts cs rs) in
    omega (arith, size, hits, all, few)

-- ---- what stops the change, and the verdict

more : (p q : Judged → Bool) → ((r : Judged) → p r ≡ true → q r ≡ true) → (rs : List Judged) → count_by p rs ≤ count_by q rs
more p q h [] = omega arith
more p q h (r ∷ rs) =
    let first = sum_by-cons (λ (s : Judged). cond {A = ℕ} (p s) 1 0) r rs in
    let second = sum_by-cons (λ (s : Judged). cond {A = ℕ} (q s) 1 0) r rs in
    let one = by (p r) (q r) (h r) in
    let rest = more p q h rs in
    omega (arith, first, second, one, rest)
  where
    by : (a b : Bool) → (a ≡ true → b ≡ true) → cond {A = ℕ} a 1 0 ≤ cond {A = ℕ} b 1 0
    by true true f = omega arith
    by true false f = absurd (true≢false (sym (f refl)))
    by false b f = omega arith

none : (p : Judged → Bool) → ((r : Judged) → p r ≡ false) → (rs : List Judged) → count_by p rs ≡ 0
none p h [] = refl
none p h (r ∷ rs) =
    let first = sum_by-cons (λ (s : Judged). cond {A = ℕ} (p s) 1 0) r rs in
    let one = ap (λ b. cond {A = ℕ} b 1 0) (h r) in
    let rest = none p h rs in
    omega (arith, first, one, rest)

no_stop : (cs : List GateCondition) (all : List Judged) (r : Judged) → list_any (is_failing all) cs ≡ false → is_stopping cs all r ≡ false
no_stop [] all r e = refl
no_stop (c ∷ cs) all r e =
    let parts = or_parts (is_failing all c) (list_any (is_failing all) cs) e in
    ap (λ b. (b && is_hit_of c r) || is_stopping cs all r) parts.0 ∙ no_stop cs all r parts.1

stop_now : (failing hit rest : Bool) → failing ≡ true → hit ≡ true → ((failing && hit) || rest) ≡ true
stop_now true true rest f h = refl
stop_now true false rest f h = absurd (true≢false (sym h))
stop_now false hit rest f h = absurd (true≢false (sym f))

some_by : (c : GateCondition) (cs : List GateCondition) (all : List Judged) (b : Bool) → is_failing all c ≡ b
    → (list_any (is_failing all) cs ≡ true → 0 < count_by (is_stopping cs all) all) → (b || list_any (is_failing all) cs) ≡ true
    → 0 < count_by (is_stopping (c ∷ cs) all) all
some_by c cs all true fails later e =
    let over = ltb-true (limit_of c all) (hits_of c all) fails in
    let few = more (is_hit_of c) (is_stopping (c ∷ cs) all) (λ r h. stop_now (is_failing all c) (is_hit_of c r) (is_stopping cs all r) fails h) all in
    omega (arith, over, few)
some_by c cs all false passes later e =
    let rest = later e in
    let few = more (is_stopping cs all) (is_stopping (c ∷ cs) all) (λ r h. ap (λ b. (b && is_hit_of c r) || is_stopping cs all r) passes ∙ h) all in
    omega (arith, rest, few)

some_stop : (cs : List GateCondition) (all : List Judged) → list_any (is_failing all) cs ≡ true → 0 < count_by (is_stopping cs all) all
some_stop [] all e = absurd (true≢false (sym e))
some_stop (c ∷ cs) all e = some_by c cs all (is_failing all c) refl (some_stop cs all) e

stops_tell : (b : Bool) (cs : List GateCondition) (rs : List Judged) → list_any (is_failing rs) cs ≡ b → nat_lt 0 (count_by (is_stopping cs rs) rs) ≡ b
stops_tell true cs rs e = lt-ltb 0 (count_by (is_stopping cs rs) rs) (some_stop cs rs e)
stops_tell false cs rs e =
    let zero = none (is_stopping cs rs) (λ r. no_stop cs rs r e) rs in
    le-ltb 0 (count_by (is_stopping cs rs) rs) (omega (arith, zero))

fails_by : (b : Bool) → is_fail (verdict_if b) ≡ b
fails_by true = refl
fails_by false = refl

any_map : (rs : List Judged) (cs : List GateCondition) → list_any (λ (c : ConditionFacts). c.fails) (map (facts_of_condition rs) cs) ≡ list_any (is_failing rs) cs
any_map rs [] = refl
any_map rs (c ∷ cs) = ap (λ b. is_failing rs c || b) (any_map rs cs)

pub policy_verdict : (show : Show) (cs : List GateCondition) (rs : List Judged) (fs : List Finding) → AreRuled show cs rs fs
    → nat_lt 0 (count_by (λ f. is_marked f.impact) fs) ≡ is_fail (verdict_told (facts_of cs rs))
policy_verdict show cs rs fs are =
    ap (nat_lt 0) (policy_stops show cs rs fs are) ∙ stops_tell (list_any (is_failing rs) cs) cs rs refl
    ∙ sym (fails_by (list_any (is_failing rs) cs)) ∙ ap (λ b. is_fail (verdict_if b)) (sym (any_map rs cs))

-- ---- the hits first

pub policy_first : (show : Show) (cs : List GateCondition) (rs : List Judged) (fs : List Finding) → AreRuled show cs rs fs
    → take (facts_of cs rs).hits (listed fs) ≡ hits_among fs
policy_first show cs rs fs are =
    ap (λ n. take n (listed fs)) (sym (length_hits fs ∙ policy_hits show cs rs fs are)) ∙ take-append_seam (hits_among fs) (others_among fs)
