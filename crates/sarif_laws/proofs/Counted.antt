-- The gate counts the hits of a merged log.
use Rattle.std.proofs.Common.{◌≡◌, ◌+◌, ℕ, Bool, true, false, not, ◌&&◌, cond, List, [], ◌∷◌, Option, Some, None, codes, refl, ap, sym, ◌∙◌, arith, if◌then◌else◌}
use Rattle.std.specs.Prelude.{count_by, flat_map, nat_lt, option_and_then}
use Rattle.std.proofs.lemmas.Bool.{ltb-true}
use Rattle.std.proofs.lemmas.List.Sums.{sum_by-append, sum_by-cons}
use Rattle.serde_json.specs.Data.{Data, Items, no_items, item}
use Rattle.serde_json.specs.Find.{get, as_array}
use Rattle.sarif_model.specs.declared.kinds.Level.{Level}
use Rattle.sarif_model.specs.declared.kinds.State.{State}
use Rattle.sarif_model.specs.Members.{elements}
use Rattle.sarif_model.specs.Run.{results_of}
use Rattle.sarif_model.proofs.Elements.{items_or_none}
use Rattle.sarif_options.specs.declared.policy.Policy.{Policy}
use Rattle.sarif_counts.specs.declared.gate_verdict.Verdict.TheVariants.{Fail, Pass}
use Rattle.sarif_options.specs.Policy.{is_listed}
use Rattle.sarif_counts.specs.Hits.{count_if, hits_of}
use Rattle.sarif_counts.specs.Tally.{same_side}
use Rattle.sarif_counts.specs.CountOf.{carries, count_in, count_of, results_in, suppresses, suppressions_in}
use Rattle.sarif_findings.specs.Reported.{level_in, state_in}
use Rattle.sarif_findings.proofs.ReportedMore.{items_in_array}
use Rattle.sarif_findings.proofs.HitsCounted.{at_least_in, hits_add, hits_in, hits_one, hits_same, hits_zero, one_of}
use Rattle.sarif_findings.proofs.HitsReported.{carried, elements_there}
use Rattle.sarif_laws.specs.Hits.{fails_on, is_hit_in, lists}

severe_same : (policy : Policy) (level : Option Level) → at_least_in policy.fail_on level ≡ fails_on policy level
severe_same policy None = refl
severe_same policy (Some level) = refl

by_tests : (a b c : Bool) → count_if a (count_if (b && same_side false c) 1) ≡ cond ((a && b) && not c) 1 0
by_tests true true true = refl
by_tests true true false = refl
by_tests true false c = refl
by_tests false b c = refl

told : (policy : Policy) (state : Option State) (level : Option Level) (suppressed : Bool)
    → hits_in policy state level (same_side false suppressed) ≡ cond ((lists policy state && fails_on policy level) && not suppressed) 1 0
told policy None level suppressed = refl
told policy (Some s) level suppressed =
    ap (λ b. count_if (is_listed policy.states s) (count_if (b && same_side false suppressed) 1)) (severe_same policy level)
    ∙ by_tests (is_listed policy.states s) (fails_on policy level) suppressed

one_hit : (policy : Policy) (result : Data) → hits_of (λ s l x. count_if (carries s l x result) 1) policy ≡ cond (is_hit_in policy result) 1 0
one_hit policy result =
    let suppressed = suppresses (suppressions_in result) in
    hits_same (λ s l x. count_if (carries s l x result) 1) (one_of (state_in result) (level_in result) suppressed) policy
    (λ s l. ap (λ b. count_if b 1) (carried s l result))
    ∙ hits_one policy (state_in result) (level_in result) suppressed
    ∙ told policy (state_in result) (level_in result) suppressed

pub in_items : (policy : Policy) (ds : Items) → hits_of (count_in ds) policy ≡ count_by (is_hit_in policy) (elements ds)
in_items policy no_items = hits_zero policy
in_items policy (item d ds) =
    hits_add (λ s l x. count_if (carries s l x d) 1) (count_in ds) policy
    ∙ ap (λ n. n + hits_of (count_in ds) policy) (one_hit policy d)
    ∙ ap (λ n. cond (is_hit_in policy d) 1 0 + n) (in_items policy ds)
    ∙ sym (sum_by-cons (λ x. cond (is_hit_in policy x) 1 0) d (elements ds))

in_run : (policy : Policy) (run : Data) → hits_of (count_in (results_in run)) policy ≡ count_by (is_hit_in policy) (results_of run)
in_run policy run =
    ap (λ ds. hits_of (count_in ds) policy) (items_in_array (get (codes "results") run))
    ∙ in_items policy (items_or_none (option_and_then as_array (get (codes "results") run)))
    ∙ ap (count_by (is_hit_in policy)) (sym (elements_there (option_and_then as_array (get (codes "results") run))))

-- the hits that the gate counts are those of the results
pub hits_counted : (policy : Policy) (runs : List Data) → hits_of (count_of runs) policy ≡ count_by (is_hit_in policy) (flat_map results_of runs)
hits_counted policy [] = hits_zero policy
hits_counted policy (run ∷ runs) =
    hits_add (count_in (results_in run)) (count_of runs) policy
    ∙ ap (λ n. n + hits_of (count_of runs) policy) (in_run policy run)
    ∙ ap (λ n. count_by (is_hit_in policy) (results_of run) + n) (hits_counted policy runs)
    ∙ sym (sum_by-append (λ x. cond (is_hit_in policy x) 1 0) (results_of run) (flat_map results_of runs))

-- without hits the gate passes
pub none_fails : (policy : Policy) (hits : ℕ) → hits ≡ 0 → (if nat_lt policy.max hits then Fail else Pass) ≡ Pass
none_fails policy hits none = by_test (nat_lt policy.max hits) refl
  where
    by_test : (b : Bool) → nat_lt policy.max hits ≡ b → (if b then Fail else Pass) ≡ Pass
    by_test true over = absurd (omega (arith, ltb-true policy.max hits over, none))
    by_test false over = refl
