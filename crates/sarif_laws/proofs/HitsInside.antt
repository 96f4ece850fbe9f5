-- The hits of a gate for one change are the hits inside, and a hit that may be in the change is one of them.
use Rattle.std.proofs.Common.{◌≡◌, ◌+◌, ◌≤◌, ◌<◌, ℕ, zero, suc, Bool, true, false, cond, inl, inr, List, [], ◌∷◌, ◌++◌, Some, None, length, get_or, refl, ap, ap₂, sym, ◌∙◌, arith, if◌then◌else◌}
use Rattle.std.specs.Prelude.{count_by, filter, flat_map, nat_lt, Option}
use Rattle.std.proofs.lemmas.Bool.{ltb-false}
use Rattle.std.proofs.lemmas.List.Concat.{flat_map-append}
use Rattle.std.proofs.lemmas.List.Sums.{sum_by-append, sum_by-cons}
use Rattle.serde_json.specs.Data.{Data}
use Rattle.serde_json.specs.View.{items_of}
use Rattle.sarif_model.specs.Members.{elements}
use Rattle.sarif_model.specs.Run.{results_of}
use Rattle.sarif_options.specs.declared.policy.Policy.{Policy}
use Rattle.sarif_counts.specs.CountOf.{count_in, count_of}
use Rattle.sarif_counts.specs.Hits.{hits_of}
use Rattle.sarif_counts.specs.declared.gate_verdict.Verdict.TheVariants.{Fail, Pass}
use Rattle.sarif_findings.proofs.HitsCounted.{hits_add, hits_zero}
use Rattle.sarif_scope.specs.Counted.{count_inside, hits_by, verdict_by}
use Rattle.sarif_scope.specs.Inside.{is_inside, results_inside}
use Rattle.sarif_scope.specs.declared.gated.GatedChange.{GatedChange}
use Rattle.sarif_scope.proofs.HitsMore.{never_outside_of, split_by, without_locations}
use Rattle.sarif_laws.specs.Hits.{is_hit_in}
use Rattle.sarif_laws.specs.OneChange.{IsHitIn, MayBeIn}
use Rattle.sarif_laws.proofs.Counted.{in_items, none_fails}

elements_again : (ds : List Data) → elements (items_of ds) ≡ ds
elements_again [] = refl
elements_again (d ∷ ds) = ap (λ more. d ∷ more) (elements_again ds)

-- the hits inside are the results inside that are hits
pub hits_inside : (policy : Policy) (change : GatedChange) (runs : List Data)
    → hits_by (Some change) policy runs ≡ count_by (is_hit_in policy) (flat_map (results_inside change) runs)
hits_inside policy change [] = hits_zero policy
hits_inside policy change (run ∷ runs) =
    let here = results_inside change run in
    let there = flat_map (results_inside change) runs in
    hits_add (count_in (items_of here)) (count_inside change runs) policy
    ∙ ap (λ n. n + hits_of (count_inside change runs) policy)
    (in_items policy (items_of here) ∙ ap (count_by (is_hit_in policy)) (elements_again here))
    ∙ ap (λ n. count_by (is_hit_in policy) here + n) (hits_inside policy change runs)
    ∙ sym (sum_by-append (λ d. cond (is_hit_in policy d) 1 0) here there)

-- the hits inside of runs and of others are those of both
pub hits_apart : (policy : Policy) (change : GatedChange) (xs ys : List Data)
    → hits_by (Some change) policy (xs ++ ys) ≡ hits_by (Some change) policy xs + hits_by (Some change) policy ys
hits_apart policy change xs ys =
    let part = results_inside change in
    hits_inside policy change (xs ++ ys)
    ∙ ap (count_by (is_hit_in policy)) (flat_map-append part xs ys)
    ∙ sum_by-append (λ d. cond (is_hit_in policy d) 1 0) (flat_map part xs) (flat_map part ys)
    ∙ sym (ap₂ (λ m n. m + n) (hits_inside policy change xs) (hits_inside policy change ys))

-- ---- one of them

part_of_all : {X Y : Type 0} (part : X → List Y) (test : Y → Bool) (xs : List X) (k : ℕ) (d : X) → k < length xs
    → count_by test (part (get_or xs k d)) ≤ count_by test (flat_map part xs)
part_of_all part test [] k d within = absurd (omega (arith, within))
part_of_all part test (x ∷ xs) zero d within =
    let sum = sum_by-append (λ y. cond (test y) 1 0) (part x) (flat_map part xs) in omega (arith, sum)
part_of_all part test (x ∷ xs) (suc k) d within =
    let sum = sum_by-append (λ y. cond (test y) 1 0) (part x) (flat_map part xs) in
    let rest = part_of_all part test xs k d (omega (arith, within)) in
    omega (arith, sum, rest)

one_kept : {Y : Type 0} (test : Y → Bool) (kept : Bool) (y : Y) (ys : List Y) → kept ≡ true → test y ≡ true → 1 ≤ count_by test (cond kept (y ∷ ys) ys)
one_kept test true y ys is hit =
    let sum = sum_by-cons (λ x. cond (test x) 1 0) y ys in
    let one : cond (test y) (suc zero) zero ≡ suc zero = ap (λ b. cond b (suc zero) zero) hit in
    omega (arith, sum, one)
one_kept test false y ys is hit = let never : ⊥ = cc in absurd never

rest_kept : {Y : Type 0} (test : Y → Bool) (kept : Bool) (y : Y) (ys : List Y) → count_by test ys ≤ count_by test (cond kept (y ∷ ys) ys)
rest_kept test true y ys = let sum = sum_by-cons (λ x. cond (test x) 1 0) y ys in omega (arith, sum)
rest_kept test false y ys = omega arith

counted_once : {Y : Type 0} (test keep : Y → Bool) (ys : List Y) (k : ℕ) (d : Y) → k < length ys → test (get_or ys k d) ≡ true → keep (get_or ys k d) ≡ true
    → 1 ≤ count_by test (filter keep ys)
counted_once test keep [] k d within hit kept = absurd (omega (arith, within))
counted_once test keep (y ∷ ys) zero d within hit kept = one_kept test (keep y) y (filter keep ys) kept hit
counted_once test keep (y ∷ ys) (suc k) d within hit kept =
    let rest = counted_once test keep ys k d (omega (arith, within)) hit kept in
    let more = rest_kept test (keep y) y (filter keep ys) in
    omega (arith, rest, more)

stays_inside : (change : GatedChange) (run found : Data) (policy : Policy) (runs : List Data) → IsHitIn policy change runs run found
    → MayBeIn change run found → is_inside change run found ≡ true
stays_inside change run found policy runs hit (inl nowhere) = without_locations change run found hit.current nowhere
stays_inside change run found policy runs hit (inr there) = never_outside_of change run found there.0 hit.current there.1 there.2

-- a hit that may be in the change is counted
pub hit_counted : (policy : Policy) (change : GatedChange) (runs : List Data) (run found : Data) → IsHitIn policy change runs run found
    → 1 ≤ hits_by (Some change) policy runs
hit_counted policy change runs run found hit =
    let test = is_hit_in policy in
    let inside = stays_inside change run found policy runs hit hit.may_be_in in
    let in_run =
    counted_once test (is_inside change run) (results_of run) hit.is_there.0 found hit.is_there.1
    (ap test hit.is_there.2 ∙ hit.hit) (ap (is_inside change run) hit.is_there.2 ∙ inside) in
    let in_all = part_of_all (results_inside change) test runs hit.run_is_there.0 run hit.run_is_there.1 in
    let same = ap (λ r. count_by test (results_inside change r)) hit.run_is_there.2 in
    let all = hits_inside policy change runs in
    omega (arith, in_run, in_all, same, all)

-- a gate that allows no hit fails if there is one
some_fail : (policy : Policy) (hits : ℕ) → policy.max ≡ 0 → 1 ≤ hits → (if nat_lt policy.max hits then Fail else Pass) ≡ Fail
some_fail policy hits none some = by_test (nat_lt policy.max hits) refl
  where
    by_test : (b : Bool) → nat_lt policy.max hits ≡ b → (if b then Fail else Pass) ≡ Fail
    by_test true over = refl
    by_test false over = absurd (omega (arith, ltb-false policy.max hits over, none, some))

pub hit_fails : (policy : Policy) (change : GatedChange) (runs : List Data) (run found : Data) → IsHitIn policy change runs run found
    → policy.max ≡ 0 → verdict_by (Some change) policy runs ≡ Fail
hit_fails policy change runs run found hit none =
    some_fail policy (hits_by (Some change) policy runs) none (hit_counted policy change runs run found hit)

-- a change leaves at most the hits without it, so a gate without hits passes with each change
pub none_inside : (change : Option GatedChange) (policy : Policy) (runs : List Data) → hits_of (count_of runs) policy ≡ 0
    → verdict_by change policy runs ≡ Pass
none_inside None policy runs none = none_fails policy (hits_of (count_of runs) policy) none
none_inside (Some change) policy runs none =
    let all = split_by change runs policy in
    none_fails policy (hits_by (Some change) policy runs) (omega (arith, all, none))
