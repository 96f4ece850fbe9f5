-- The hits of all results are those of the results that a test keeps, and of the others.
use Rattle.std.proofs.Common.{◌≡◌, ◌<◌, inl, inr, zero, suc, length, get_or, ℕ, ◌+◌, ◌-◌, Bool, true, false, not, ◌&&◌, List, [], ◌∷◌, Option, Some, None, refl, sym, ap, ◌∙◌, arith}
use Rattle.std.specs.Prelude.{◌⊎◌, filter, cond, codes, option_and_then, option_map, unwrap_or}
use Rattle.std.specs.List.{Contains, list_all}
use Rattle.serde_json.specs.Data.{Data, null, boolean, number, string, array, object, Items, no_items, item}
use Rattle.serde_json.specs.Find.{as_array, get}
use Rattle.serde_json.specs.View.{items_of}
use Rattle.sarif_model.specs.Members.{elements}
use Rattle.sarif_model.specs.Run.{elements_or_none, is_absent_result, results_of}
use Rattle.sarif_model.specs.declared.kinds.Level.{Level}
use Rattle.sarif_model.specs.declared.kinds.Level.TheVariants.{NoLevel, Note, Warning, Error}
use Rattle.sarif_model.specs.declared.kinds.State.{State}
use Rattle.sarif_model.specs.declared.kinds.State.TheVariants.{New, Unchanged, Updated, Absent}
use Rattle.sarif_model.specs.Level.{is_at_least}
use Rattle.sarif_change.specs.Meeting.{meets}
use Rattle.sarif_change.specs.Outside.{IsInChange, are_missed, is_missed, is_outside, lines_in}
use Rattle.sarif_change.specs.Places.{places_of}
use Rattle.sarif_change.specs.declared.spots.Spot.{Spot}
use Rattle.sarif_change.specs.declared.spots.Spots.{Spots}
use Rattle.sarif_change.proofs.OutsideMore.{never_outside, not_each_missed, not_missed}
use Rattle.sarif_counts.specs.CountOf.{carries, count_in, count_of, items_in, results_in}
use Rattle.sarif_counts.specs.Hits.{Count, count_if, hits_at, hits_of, severe_of}
use Rattle.sarif_options.specs.Policy.{is_listed}
use Rattle.sarif_options.specs.declared.policy.Policy.{Policy}
use Rattle.sarif_scope.specs.Counted.{count_inside, count_kept, hits_by, outside_of, verdict_by, verdict_on}
use Rattle.sarif_scope.specs.Gate.{facts_of, gate_by, gate_of_change}
use Rattle.sarif_scope.specs.Summary.{summary_by, summary_of_change}
use Rattle.sarif_scope.specs.Told.{facts_by, gate_told, hits_told, summary_told, verdict_told}
use Rattle.sarif_scope.specs.Inside.{artifacts_in, is_outside_of, is_inside}
use Rattle.sarif_scope.specs.declared.gated.GatedChange.{GatedChange}

-- ---- counts

items_again : (ds : Items) → items_of (elements ds) ≡ ds
items_again no_items = refl
items_again (item d ds) = ap (item d) (items_again ds)

results_by : (found : Option Data) → items_of (elements_or_none (option_and_then as_array found)) ≡ items_in found
results_by None = refl
results_by (Some null) = refl
results_by (Some (boolean b)) = refl
results_by (Some (number n)) = refl
results_by (Some (string s)) = refl
results_by (Some (array ds)) = items_again ds
results_by (Some (object ms)) = refl

results_are : (run : Data) → items_of (results_of run) ≡ results_in run
results_are run = results_by (get (codes "results") run)

module _ (s : State) (l : Level) (b : Bool) where
  count_more : (n : ℕ) (kept : Bool) (d : Data) (more others : List Data)
      → n ≡ count_in (items_of more) s l b + count_in (items_of others) s l b
      → count_if (carries s l b d) 1 + n
      ≡ count_in (items_of (cond kept (d ∷ more) more)) s l b + count_in (items_of (cond (not kept) (d ∷ others) others)) s l b
  count_more n true d more others h = omega (arith, h)
  count_more n false d more others h = omega (arith, h)

  list_split : (p : Data → Bool) (ds : List Data)
      → count_in (items_of ds) s l b
      ≡ count_in (items_of (filter p ds)) s l b + count_in (items_of (filter (λ d. not (p d)) ds)) s l b
  list_split p [] = refl
  list_split p (d ∷ ds) =
      count_more (count_in (items_of ds) s l b) (p d) d (filter p ds) (filter (λ d. not (p d)) ds) (list_split p ds)

  run_split : (p : Data → Bool) (run : Data)
      → count_in (results_in run) s l b
      ≡ count_in (items_of (filter p (results_of run))) s l b
      + count_in (items_of (filter (λ d. not (p d)) (results_of run))) s l b
  run_split p run = ap (λ ds. count_in ds s l b) (sym (results_are run)) ∙ list_split p (results_of run)

  kept_split : (keeps : Data → Data → Bool) (runs : List Data)
      → count_of runs s l b
      ≡ count_kept keeps runs s l b + count_kept (λ run d. not (keeps run d)) runs s l b
  kept_split keeps [] = refl
  kept_split keeps (run ∷ runs) = omega (arith, run_split (keeps run) run, kept_split keeps runs)

-- ---- hits

if_more : (b : Bool) (m n k : ℕ) → m ≡ n + k → count_if b m ≡ count_if b n + count_if b k
if_more true m n k h = h
if_more false m n k h = refl

severe_split : (all some others : Level → ℕ) (least : Level) → ((l : Level) → all l ≡ some l + others l)
    → severe_of all least ≡ severe_of some least + severe_of others least
severe_split all some others least h =
    omega (
      arith,
      if_more (is_at_least least Error) (all Error) (some Error) (others Error) (h Error),
      if_more (is_at_least least Warning) (all Warning) (some Warning) (others Warning) (h Warning),
      if_more (is_at_least least Note) (all Note) (some Note) (others Note) (h Note),
      if_more (is_at_least least NoLevel) (all NoLevel) (some NoLevel) (others NoLevel) (h NoLevel),
    )

module _ (all some others : Count) (policy : Policy)
    (h : (s : State) (l : Level) (b : Bool) → all s l b ≡ some s l b + others s l b) where
  at_split : (state : State) → hits_at all policy state ≡ hits_at some policy state + hits_at others policy state
  at_split state =
      if_more (is_listed policy.states state)
      (severe_of (λ level. all state level false) policy.fail_on)
      (severe_of (λ level. some state level false) policy.fail_on)
      (severe_of (λ level. others state level false) policy.fail_on)
      (severe_split (λ level. all state level false) (λ level. some state level false)
      (λ level. others state level false) policy.fail_on (λ l. h state l false))

  hits_split : hits_of all policy ≡ hits_of some policy + hits_of others policy
  hits_split = omega (arith, at_split New, at_split Unchanged, at_split Updated, at_split Absent)

pub split_by : (change : GatedChange) (runs : List Data) (policy : Policy)
    → hits_of (count_of runs) policy ≡ hits_by (Some change) policy runs + outside_of change policy runs
split_by change runs policy =
    hits_split (count_of runs) (count_inside change runs)
    (count_kept (λ run d. not (is_inside change run d)) runs) policy
    (λ s l b. kept_split s l b (is_inside change) runs)

pub left_by : (change : GatedChange) (runs : List Data) (policy : Policy)
    → hits_by (Some change) policy runs ≡ hits_of (count_of runs) policy - outside_of change policy runs
left_by change runs policy = omega (arith, split_by change runs policy)

-- ---- what follows from the facts

pub gate_from : (change : Option GatedChange) (runs : List Data) (policy : Policy) (without unused : ℕ)
    → gate_by change runs policy without unused ≡ gate_told (facts_by change policy runs) (count_of runs) policy without unused
gate_from None runs policy without unused = refl
gate_from (Some change) runs policy without unused =
    ap (λ h. gate_of_change (count_of runs) h (facts_of change policy runs) policy without unused) (left_by change runs policy)

pub hits_from : (change : Option GatedChange) (runs : List Data) (policy : Policy)
    → hits_by change policy runs ≡ hits_told (facts_by change policy runs) (count_of runs) policy
hits_from None runs policy = refl
hits_from (Some change) runs policy = left_by change runs policy

pub verdict_from : (change : Option GatedChange) (runs : List Data) (policy : Policy)
    → verdict_by change policy runs ≡ verdict_told (facts_by change policy runs) (count_of runs) policy
verdict_from None runs policy = refl
verdict_from (Some change) runs policy = ap (λ h. verdict_on h policy) (left_by change runs policy)

pub summary_from : (change : Option GatedChange) (runs : List Data) (policy : Policy)
    → summary_by change runs policy ≡ summary_told (facts_by change policy runs) (count_of runs) policy
summary_from None runs policy = refl
summary_from (Some change) runs policy =
    ap (λ h. summary_of_change (count_of runs) h (facts_of change policy runs) policy) (left_by change runs policy)

-- ---- what is never outside

both_not : (a b : Bool) → a ≡ false → b ≡ false → (not a && not b) ≡ true
both_not a b h i = rw (h, i) refl

and_false : (a : Bool) → (a && false) ≡ false
and_false true = refl
and_false false = refl

not_all : (test : Spot → Bool) (spots : List Spot) (k : ℕ) (d : Spot) → k < length spots → test (get_or spots k d) ≡ false
    → list_all test spots ≡ false
not_all test [] k d within h = absurd (omega arith)
not_all test (s ∷ ss) zero d within h = rw h refl
not_all test (s ∷ ss) (suc k) d within h =
    ap (λ b. test s && b) (not_all test ss k d (omega arith) h) ∙ and_false (test s)

module _ (change : GatedChange) where
  none_outside : (spots : Spots) → false ≡ are_missed change.changed change.roots change.scope spots.locations
      → is_outside change.changed change.roots change.scope spots ≡ false
  none_outside spots h = sym (not_each_missed change.changed change.roots change.scope spots h)

  -- a location without a path is not missed
  pathless : (spots : Spots) (spot : Spot) → Contains spots.locations spot → spot.uri ≡ None
      → is_outside change.changed change.roots change.scope spots ≡ false
  pathless spots spot among no_uri =
      let met : is_missed change.changed change.roots change.scope spot ≡ false =
      ap (λ uri. not (unwrap_or (option_map (λ u. meets change.changed change.roots u (lines_in change.scope spot.region)) uri) true)) no_uri in
      none_outside spots
      (not_missed change.changed change.roots change.scope spots.locations
      (sym (not_all (is_missed change.changed change.roots change.scope) spots.locations among.0 spot among.1
      (ap (λ s. is_missed change.changed change.roots change.scope s) among.2 ∙ met))))

  there_or_pathless : (spots : Spots) (spot : Spot) → Contains spots.locations spot
      → (spot.uri ≡ None) ⊎ IsInChange change.changed change.roots change.scope spot
      → is_outside change.changed change.roots change.scope spots ≡ false
  there_or_pathless spots spot among (inl no_uri) = pathless spots spot among no_uri
  there_or_pathless spots spot among (inr there) =
      never_outside change.changed change.roots change.scope spots spot among there

pub never_outside_of : (change : GatedChange) (run found : Data) (spot : Spot)
    → is_absent_result found ≡ false
    → Contains (places_of (artifacts_in run) found).locations spot
    → (spot.uri ≡ None) ⊎ IsInChange change.changed change.roots change.scope spot
    → is_inside change run found ≡ true
never_outside_of change run found spot current among there =
    both_not (is_absent_result found) (is_outside_of change run found) current
    (there_or_pathless change (places_of (artifacts_in run) found) spot among there)

pub without_locations : (change : GatedChange) (run found : Data)
    → is_absent_result found ≡ false
    → (places_of (artifacts_in run) found).locations ≡ []
    → is_inside change run found ≡ true
without_locations change run found current none =
    both_not (is_absent_result found) (is_outside_of change run found) current
    (none_outside change (places_of (artifacts_in run) found)
    (ap (λ spots. are_missed change.changed change.roots change.scope spots) (sym none)))
