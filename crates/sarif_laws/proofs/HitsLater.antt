-- Which current results are hits of conditions, by what the suppression file does and by what it doesn't change.
use Rattle.std.proofs.Common.{◌≡◌, ◌<◌, ◌+◌, ◌&&◌, ◌||◌, ◌++◌, ℕ, zero, suc, Bool, true, false, not, List, [], ◌∷◌, length, map, take, get_or, Option, Some, None, Ok, refl, sym, ap, ap₂, ◌∙◌, arith, if◌then◌else◌}
use Rattle.std.specs.Prelude.{flat_map, slice_get, unwrap_or}
use Rattle.std.specs.List.{AllByRecursion, list_any}
use Rattle.std.proofs.lemmas.List.{get_or-append-add, get_or_append_left, length-map}
use Rattle.std.proofs.lemmas.Bool.{false≢true}
use Rattle.std.proofs.lemmas.Option.{get_or_from_slice_get, slice_get_within}
use Rattle.serde_json.specs.Data.{Data, null, boolean, number, string, array, object}
use Rattle.sarif_change.specs.declared.spots.Scope.{Scope}
use Rattle.sarif_change.specs.declared.spots.Scope.TheVariants.{Lines, Files}
use Rattle.sarif_conditions.specs.Decided.{asks_if, is_hit, is_inside}
use Rattle.sarif_conditions.specs.Judged.{Judged}
use Rattle.sarif_deciding.specs.Asked.{asks_scope, rates}
use Rattle.sarif_deciding.specs.Matched.{Matched}
use Rattle.sarif_deciding.specs.Results.{active_of, current_ratings, current_seen, for_each, inside_by, inside_in, judged_all, judged_by, seen_all, Seen}
use Rattle.sarif_deciding.proofs.Lengths.{current_rated_long, current_seen_long, each_long, inside_long}
use Rattle.sarif_entries.specs.declared.entry.Entry.{Entry}
use Rattle.sarif_entries.specs.File.{File}
use Rattle.sarif_entries.specs.Matching.{is_admitted, is_met, matches}
use Rattle.sarif_findings.specs.Reported.{is_active}
use Rattle.sarif_inputs.specs.Faults.{faults_of}
use Rattle.sarif_inputs.specs.Inputs.{Inputs, baseline_runs, input_runs, log_sources, reading_checks, record_options}
use Rattle.sarif_laws.specs.Decided.{matched_given}
use Rattle.sarif_laws.specs.LeftByPolicy.{is_hit_given}
use Rattle.sarif_laws.specs.NextMerge.{merged_result, with_file}
use Rattle.sarif_laws.proofs.Accepted.{at_place, input_run}
use Rattle.sarif_laws.proofs.Limited.{found_at}
use Rattle.sarif_laws.proofs.NothingNew.{get_object, run_objects}
use Rattle.sarif_laws.proofs.Places.{same_record}
use Rattle.sarif_laws.proofs.RuledMerge.{records_given}
use Rattle.sarif_laws_policy.proofs.TellingAll.{drafts_many, drafts_spots, states_many}
use Rattle.sarif_log.proofs.Limits.{limited_long}
use Rattle.sarif_log.proofs.Told.{active_told}
use Rattle.sarif_merge.specs.MergedLog.{change_given, current_of, file_given, limited_of}
use Rattle.sarif_merge.specs.OwnResult.{IsResult, admitted_at, number_among_all, partner_at, run_at, written_by, written_run}
use Rattle.sarif_merge.proofs.OwnResult.{own_result}
use Rattle.sarif_merge.proofs.ReadObjects.{objects_in}
use Rattle.sarif_model.specs.declared.kinds.Level.{Level}
use Rattle.sarif_model.specs.declared.kinds.State.{State}
use Rattle.sarif_model.specs.declared.kinds.State.TheVariants.{New}
use Rattle.sarif_options.specs.Policy.{is_listed}
use Rattle.sarif_model.specs.declared.record.Record.{Record}
use Rattle.sarif_model.specs.Run.{result_at, results_of, results_total}
use Rattle.sarif_evidence.specs.Evidence.{state_in}
use Rattle.sarif_outside.specs.Marks.{both, in_scope, is_outside_at}
use Rattle.sarif_policy.specs.Condition.{any_matches, checks, is_chosen}
use Rattle.sarif_policy.specs.Laws.{FiltersHaveNoMax, HasNoMax, HaveNoMax}
use Rattle.sarif_policy.specs.declared.condition.GateCondition.{GateCondition}
use Rattle.sarif_policy.specs.declared.rating.Rating.{Rating}
use Rattle.sarif_policy.specs.declared.rating.Rating.TheVariants.{Missing}
use Rattle.sarif_ratings.specs.Ratings.{rating_at}
use Rattle.sarif_results.specs.declared.draft.Draft.{Draft}
use Rattle.sarif_results.specs.Drafts.{applied_of, draft_by, drafts_by, listed_in, members_in, IsObject, Listing}
use Rattle.sarif_log.specs.LogBy.{listing_of}
use Rattle.sarif_log.specs.MergedRuns.{written}
use Rattle.sarif_runs.specs.Internal.Spots.{spots_from}
use Rattle.sarif_runs.specs.Judging.{run_values}
use Rattle.sarif_runs.specs.Placed.{Placed}
use Rattle.sarif_runs.specs.Record.{record_of}
use Rattle.sarif_scope.specs.declared.gated.GatedChange.{GatedChange}
use Rattle.sarif_suppress.specs.declared.suppressions.Applied.{Applied}
use Rattle.sarif_suppress.specs.Limited.{with_admitted}
use Rattle.sarif_suppress.proofs.LimitedResults.{met_admitted}

-- ---- lists side by side

hit_at : (cs : List GateCondition) (rs : List Record) (ss : List State) (ds : List Draft) (os : List Seen) (n : ℕ) (r : Record) (s : State) (d : Draft) (o : Seen)
    → n < length rs → n < length ss → n < length ds → n < length os
    → get_or (map (is_hit cs) (judged_all rs ss ds os)) n false
    ≡ is_hit cs (judged_by (get_or rs n r) (get_or ss n s) (get_or ds n d) (get_or os n o))
hit_at cs [] ss ds os n r s d o a b c e = absurd (omega (arith, a))
hit_at cs (x ∷ rs) [] ds os n r s d o a b c e = absurd (omega (arith, b))
hit_at cs (x ∷ rs) (y ∷ ss) [] os n r s d o a b c e = absurd (omega (arith, c))
hit_at cs (x ∷ rs) (y ∷ ss) (z ∷ ds) [] n r s d o a b c e = absurd (omega (arith, e))
hit_at cs (x ∷ rs) (y ∷ ss) (z ∷ ds) (w ∷ os) zero r s d o a b c e = refl
hit_at cs (x ∷ rs) (y ∷ ss) (z ∷ ds) (w ∷ os) (suc n) r s d o a b c e =
    hit_at cs rs ss ds os n r s d o (omega (arith, a)) (omega (arith, b)) (omega (arith, c)) (omega (arith, e))

seen_at : (xs : List Rating) (ls fs gs : List Bool) (n : ℕ) (o : Seen) (x : Rating)
    → n < length xs → n < length ls → n < length fs → n < length gs
    → get_or (seen_all xs ls fs gs) n o
    ≡ record { rating = get_or xs n x; in_lines = get_or ls n false; in_files = get_or fs n false; is_gone = get_or gs n false }
seen_at [] ls fs gs n o x a b c e = absurd (omega (arith, a))
seen_at (y ∷ xs) [] fs gs n o x a b c e = absurd (omega (arith, b))
seen_at (y ∷ xs) (l ∷ ls) [] gs n o x a b c e = absurd (omega (arith, c))
seen_at (y ∷ xs) (l ∷ ls) (f ∷ fs) [] n o x a b c e = absurd (omega (arith, e))
seen_at (y ∷ xs) (l ∷ ls) (f ∷ fs) (g ∷ gs) zero o x a b c e = refl
seen_at (y ∷ xs) (l ∷ ls) (f ∷ fs) (g ∷ gs) (suc n) o x a b c e =
    seen_at xs ls fs gs n o x (omega (arith, a)) (omega (arith, b)) (omega (arith, c)) (omega (arith, e))

drafts_at : (listed : Listing) (applied : Record → Applied) (rs : List Record) (xs : List Data) (n : ℕ) (d : Draft) (r : Record)
    → n < length rs → n < length xs
    → get_or (drafts_by listed applied rs xs) n d ≡ draft_by listed applied (get_or rs n r) (members_in (get_or xs n null))
drafts_at listed applied [] xs n d r a b = absurd (omega (arith, a))
drafts_at listed applied (q ∷ rs) [] n d r a b = absurd (omega (arith, b))
drafts_at listed applied (q ∷ rs) (x ∷ xs) zero d r a b = refl
drafts_at listed applied (q ∷ rs) (x ∷ xs) (suc n) d r a b = drafts_at listed applied rs xs n d r (omega (arith, a)) (omega (arith, b))

result_there : (runs : List Data) (k seq : ℕ) → k < length runs → seq < length (results_of (get_or runs k null))
    → get_or (flat_map results_of runs) (results_total (take k runs) + seq) null ≡ result_at (get_or runs k null) seq
result_there [] k seq there within = absurd (omega (arith, there))
result_there (run ∷ runs) zero seq there within =
    let place : 0 + seq ≡ seq = omega arith in
    ap (λ i. get_or (results_of run ++ flat_map results_of runs) i null) place
    ∙ get_or_append_left (results_of run) (flat_map results_of runs) null seq within
result_there (run ∷ runs) (suc k) seq there within =
    let before = results_total (take k runs) in
    let place : (length (results_of run) + before) + seq ≡ length (results_of run) + (before + seq) = omega arith in
    ap (λ i. get_or (results_of run ++ flat_map results_of runs) i null) place
    ∙ get_or-append-add (results_of run) (flat_map results_of runs) (before + seq) null
    ∙ result_there runs k seq (omega (arith, there)) within

-- ---- inside the change

-- which of these results are outside of the change in this scope, if a condition requires it
abbrev outs_by : Scope → Option GatedChange → List Placed → List Draft → List Bool
outs_by scope None runs ds = for_each false ds
outs_by scope (Some change) runs ds = map (is_outside_at (in_scope scope change) runs) (spots_from 0 runs)

abbrev outs_in : Scope → List GateCondition → Matched → List Bool
outs_in scope cs m = if asks_scope scope cs then outs_by scope m.change m.runs m.drafts else for_each false m.drafts

never_out : (a : Bool) → not (a && false) ≡ true
never_out true = refl
never_out false = refl

none_out : (ds : List Draft) → for_each true ds ≡ map not (both (active_of ds) (for_each false ds))
none_out [] = refl
none_out (d ∷ ds) = ap₂ (λ b l. b ∷ l) (sym (never_out (not d.suppressed))) (none_out ds)

inside_is : (scope : Scope) (cs : List GateCondition) (m : Matched)
    → inside_in scope cs m ≡ map not (both (active_of m.drafts) (outs_in scope cs m))
inside_is scope cs m = by (asks_scope scope cs) m.change
  where
    by : (asked : Bool) (change : Option GatedChange)
        → (if asked then inside_by scope change m.runs m.drafts else for_each true m.drafts)
        ≡ map not (both (active_of m.drafts) (if asked then outs_by scope change m.runs m.drafts else for_each false m.drafts))
    by true None = none_out m.drafts
    by true (Some change) = refl
    by false change = none_out m.drafts

outs_long : (scope : Scope) (cs : List GateCondition) (m : Matched) → length m.drafts ≡ length (spots_from 0 m.runs)
    → length (outs_in scope cs m) ≡ length m.drafts
outs_long scope cs m same = by (asks_scope scope cs) m.change
  where
    by : (asked : Bool) (change : Option GatedChange)
        → length (if asked then outs_by scope change m.runs m.drafts else for_each false m.drafts) ≡ length m.drafts
    by true None = each_long false m.drafts
    by true (Some change) = length-map (spots_from 0 m.runs) (is_outside_at (in_scope scope change) m.runs) ∙ sym same
    by false change = each_long false m.drafts

inside_at : (ds : List Draft) (outs : List Bool) (n : ℕ) (d : Draft) → n < length ds → n < length outs
    → get_or (map not (both (active_of ds) outs)) n false ≡ not (not (get_or ds n d).suppressed && get_or outs n false)
inside_at [] outs n d a b = absurd (omega (arith, a))
inside_at (x ∷ ds) [] n d a b = absurd (omega (arith, b))
inside_at (x ∷ ds) (o ∷ outs) zero d a b = refl
inside_at (x ∷ ds) (o ∷ outs) (suc n) d a b = inside_at ds outs n d (omega (arith, a)) (omega (arith, b))

-- ---- what the suppression file changes of a result

abbrev judged_with : Bool → Record → Level → State → Rating → Bool → Bool → Bool → Judged
judged_with suppressed r level state rating out_of_lines out_of_files gone = record {
  found = r;
  state = state;
  level = level;
  suppressed = suppressed;
  rating = rating;
  in_lines = not (not suppressed && out_of_lines);
  in_files = not (not suppressed && out_of_files);
  is_gone = gone;
}

module _ (r : Record) (level : Level) (s : State) (x : Rating) (l f g : Bool) where
  no_hit : (cs : List GateCondition) → is_hit cs (judged_with true r level s x l f g) ≡ false
  no_hit [] = refl
  no_hit (c ∷ cs) = no_hit cs

  -- a suppressed result is not a hit
  hit_if_active : (cs : List GateCondition) (b : Bool)
      → is_hit cs (judged_with b r level s x l f g) ≡ (not b && is_hit cs (judged_with false r level s x l f g))
  hit_if_active cs true = no_hit cs
  hit_if_active cs false = refl

-- an entry without `max` matches a result with any list of entries that admit it
module _ (q : Record) (a : List ℕ) where
  matches_plain : (x : Entry) → x.limit ≡ None → matches None x (with_admitted q a) ≡ is_met None x q
  matches_plain x plain = ap (λ l. is_admitted l (with_admitted q a) && is_met None x (with_admitted q a)) plain ∙ met_admitted None x q a

  any_plain : (es : List Entry) → AllByRecursion HasNoMax es → any_matches es (with_admitted q a) ≡ list_any (λ x. is_met None x q) es
  any_plain [] plain = refl
  any_plain (x ∷ es) plain = ap₂ (λ b c. b || c) (matches_plain x plain.0) (any_plain es plain.1)

module _ (q : Record) (a e : List ℕ) where
  any_same : (es : List Entry) → AllByRecursion HasNoMax es → any_matches es (with_admitted q a) ≡ any_matches es (with_admitted q e)
  any_same es plain = any_plain q a es plain ∙ sym (any_plain q e es plain)

  chosen_same : (only : Option (List Entry)) → AllByRecursion HasNoMax (unwrap_or only [])
      → is_chosen only (with_admitted q a) ≡ is_chosen only (with_admitted q e)
  chosen_same None plain = refl
  chosen_same (Some es) plain = any_same es plain

  checks_same : (c : GateCondition) → FiltersHaveNoMax c → checks c (with_admitted q a) ≡ checks c (with_admitted q e)
  checks_same c plain = ap₂ (λ b d. b && not d) (chosen_same c.only plain.0) (any_same c.except plain.1)

  module _ (b : Bool) (level : Level) (s : State) (x : Rating) (l f g : Bool) where
    abbrev one : List ℕ → Judged
    one numbers = judged_with b (with_admitted q numbers) level s x l f g

    inside_same : (diff : Option Scope) → is_inside diff (one a) ≡ is_inside diff (one e)
    inside_same None = refl
    inside_same (Some Lines) = refl
    inside_same (Some Files) = refl

    hit_same : (cs : List GateCondition) → HaveNoMax cs → is_hit cs (one a) ≡ is_hit cs (one e)
    hit_same [] plain = refl
    hit_same (c ∷ cs) plain =
        ap₂ (λ h rest. h || rest)
        (ap (λ checked. (asks_if checked c (one a) && is_listed c.states s) && is_inside c.diff (one a)) (checks_same c plain.0)
        ∙ ap (λ i. (asks_if (checks c (with_admitted q e)) c (one e) && is_listed c.states s) && i) (inside_same c.diff))
        (hit_same cs plain.1)

-- ---- a current result of a merge

for_each_same : {X : Type 0} (x : X) (ds es : List Draft) → length ds ≡ length es → for_each x ds ≡ for_each x es
for_each_same x [] [] same = refl
for_each_same x [] (e ∷ es) same = absurd (omega (arith, same))
for_each_same x (d ∷ ds) [] same = absurd (omega (arith, same))
for_each_same x (d ∷ ds) (e ∷ es) same = ap (λ l. x ∷ l) (for_each_same x ds es (omega (arith, same)))

written_active : (listed : Listing) (applied : Record → Applied) (r : Record) (s : State) (d : Data) → IsObject d
    → is_active (written listed r s d) ≡ not (draft_by listed applied r (members_in d)).suppressed
written_active listed applied r s null never = absurd never
written_active listed applied r s (boolean b) never = absurd never
written_active listed applied r s (number n) never = absurd never
written_active listed applied r s (string t) never = absurd never
written_active listed applied r s (array ds) never = absurd never
written_active listed applied r s (object ms) is = active_told r.level s (listed_in listed r ms) ms

module _ (inputs : Inputs) (none : faults_of inputs ≡ []) (k seq : ℕ) (there : IsResult inputs k seq) where
  abbrev n : ℕ
  n = number_among_all inputs k seq

  abbrev file : File
  file = file_given inputs

  abbrev given : Data
  given = result_at (run_at inputs k) seq

  own : (r : Record) × (record_of (record_options (reading_checks inputs)) (run_at inputs k) seq ≡ Ok r)
      × (result_at (written_run inputs k) seq ≡ written_by inputs r n given)
  own = own_result inputs k seq none there

  abbrev limited : Record
  limited = with_admitted own.0 (admitted_at inputs n)

  abbrev draft : Draft
  draft = draft_by (listing_of file) (applied_of file) limited (members_in given)

  abbrev m : Matched
  m = matched_given inputs

  in_runs : k < length (run_values (input_runs inputs))
  in_runs = omega (arith, there.0, length-map (input_runs inputs) (λ p. p.run))

  found : slice_get (limited_of inputs) n ≡ Some limited
  found = found_at file (current_of inputs) n own.0 (at_place inputs k seq own.0 none there own.1)

  in_records : n < length (limited_of inputs)
  in_records = slice_get_within (limited_of inputs) n limited found

  record_is : get_or (limited_of inputs) n limited ≡ limited
  record_is = get_or_from_slice_get (limited_of inputs) n limited limited found

  in_results : n < length (flat_map results_of (run_values (input_runs inputs)))
  in_results = omega (arith, in_records, limited_long file (current_of inputs), (records_given inputs none).inputs)

  draft_is : get_or m.drafts n draft ≡ draft
  draft_is =
      drafts_at (listing_of file) (applied_of file) (limited_of inputs) (flat_map results_of (run_values (input_runs inputs))) n draft limited
      in_records in_results
      ∙ ap₂ (λ q d. draft_by (listing_of file) (applied_of file) q (members_in d)) record_is
      (result_there (run_values (input_runs inputs)) k seq in_runs there.1)

  -- the result is active in the log exactly if its draft is
  active_there : is_active (merged_result inputs k seq) ≡ not draft.suppressed
  active_there =
      let is_object : IsObject given =
      get_object (results_of (run_at inputs k)) seq there.1 (run_objects (run_values (input_runs inputs)) k in_runs (objects_in (log_sources inputs))) in
      ap (λ run. is_active (result_at run seq)) (input_run inputs k there.0) ∙ ap is_active own.2
      ∙ written_active (listing_of file) (applied_of file) limited (state_in inputs.checks.matching own.0 (partner_at inputs n)) given is_object

  module _ (cs : List GateCondition) where
    drafts_all : length m.drafts ≡ length m.records
    drafts_all =
        drafts_many inputs.checks.matching file (change_given inputs) (input_runs inputs) (baseline_runs inputs) cs (records_given inputs none)

    states_all : length m.states ≡ length m.records
    states_all =
        states_many inputs.checks.matching file (change_given inputs) (input_runs inputs) (baseline_runs inputs) cs (records_given inputs none)

    spots_all : length m.drafts ≡ length (spots_from 0 m.runs)
    spots_all =
        drafts_spots inputs.checks.matching file (change_given inputs) (input_runs inputs) (baseline_runs inputs) cs (records_given inputs none)

    in_drafts : n < length m.drafts
    in_drafts = omega (arith, in_records, drafts_all)

    abbrev out_of : Scope → Bool
    out_of scope = get_or (outs_in scope cs m) n false

    inside_there : (scope : Scope) → get_or (inside_in scope cs m) n false ≡ not (not draft.suppressed && out_of scope)
    inside_there scope =
        ap (λ l. get_or l n false) (inside_is scope cs m)
        ∙ inside_at m.drafts (outs_in scope cs m) n draft in_drafts (omega (arith, in_drafts, outs_long scope cs m spots_all))
        ∙ ap (λ (d : Draft). not (not d.suppressed && out_of scope)) draft_is

    abbrev state : State
    state = get_or m.states n New

    abbrev rating : Rating
    rating = get_or (current_ratings cs m) n Missing

    abbrev gone : Bool
    gone = get_or (for_each false m.drafts) n false

    abbrev shape : Bool → Bool → Seen
    shape lines files = record { rating = rating; in_lines = lines; in_files = files; is_gone = gone }

    seen_is : get_or (current_seen cs m) n (shape false false)
        ≡ shape (not (not draft.suppressed && out_of Lines)) (not (not draft.suppressed && out_of Files))
    seen_is =
        seen_at (current_ratings cs m) (inside_in Lines cs m) (inside_in Files cs m) (for_each false m.drafts) n (shape false false) Missing
        (omega (arith, in_drafts, current_rated_long cs m spots_all)) (omega (arith, in_drafts, inside_long cs m spots_all Lines))
        (omega (arith, in_drafts, inside_long cs m spots_all Files)) (omega (arith, in_drafts, each_long false m.drafts))
        ∙ ap₂ shape (inside_there Lines) (inside_there Files)

    -- whether it would be a hit if it was active
    abbrev hits_if_active : Bool
    hits_if_active = is_hit cs (judged_with false limited own.0.level state rating (out_of Lines) (out_of Files) gone)

    hit_there : is_hit_given cs inputs n ≡ (not draft.suppressed && hits_if_active)
    hit_there =
        hit_at cs m.records m.states m.drafts (current_seen cs m) n limited New draft (shape false false) in_records
        (omega (arith, in_records, states_all)) in_drafts (omega (arith, in_drafts, current_seen_long cs m spots_all))
        ∙ ap (λ q. is_hit cs (judged_by q state (get_or m.drafts n draft) (get_or (current_seen cs m) n (shape false false)))) record_is
        ∙ ap (λ d. is_hit cs (judged_by limited state d (get_or (current_seen cs m) n (shape false false)))) draft_is
        ∙ ap (λ o. is_hit cs (judged_by limited state draft o)) seen_is
        ∙ hit_if_active limited own.0.level state rating (out_of Lines) (out_of Files) gone cs draft.suppressed

-- ---- the next merge

narrowed : (was is hit : Bool) → (was ≡ true → is ≡ true) → (not is && hit) ≡ ((not was && hit) && not is)
narrowed true true hit still = refl
narrowed true false hit still = absurd (false≢true (still refl))
narrowed false true true still = refl
narrowed false true false still = refl
narrowed false false true still = refl
narrowed false false false still = refl

not_not : (b : Bool) → not (not b) ≡ b
not_not true = refl
not_not false = refl

module _ (inputs : Inputs) (text : List ℕ) (none : faults_of inputs ≡ []) (later : faults_of (with_file inputs text) ≡ []) (cs : List GateCondition)
    (plain : HaveNoMax cs) where
  abbrev next : Inputs
  next = with_file inputs text

  abbrev before : Matched
  before = matched_given inputs

  abbrev after : Matched
  after = matched_given next

  module _ (k seq : ℕ) (there : IsResult inputs k seq) where
    drafts_same : length after.drafts ≡ length before.drafts
    drafts_same = spots_all next later k seq there cs ∙ sym (spots_all inputs none k seq there cs)

    ratings_same : current_ratings cs after ≡ current_ratings cs before
    ratings_same = by (rates cs)
      where
        by : (asked : Bool)
            → (if asked then map (rating_at before.runs) (spots_from 0 before.runs) else for_each Missing after.drafts)
            ≡ (if asked then map (rating_at before.runs) (spots_from 0 before.runs) else for_each Missing before.drafts)
        by true = refl
        by false = for_each_same Missing after.drafts before.drafts drafts_same

    outs_same : (scope : Scope) → outs_in scope cs after ≡ outs_in scope cs before
    outs_same scope = by (asks_scope scope cs) before.change
      where
        by : (asked : Bool) (change : Option GatedChange)
            → (if asked then outs_by scope change before.runs after.drafts else for_each false after.drafts)
            ≡ (if asked then outs_by scope change before.runs before.drafts else for_each false before.drafts)
        by true None = for_each_same false after.drafts before.drafts drafts_same
        by true (Some change) = refl
        by false change = for_each_same false after.drafts before.drafts drafts_same

    same_own : (own next later k seq there).0 ≡ (own inputs none k seq there).0
    same_own =
        same_record (own next later k seq there).0 (own inputs none k seq there).0
        (sym (own next later k seq there).1 ∙ (own inputs none k seq there).1)

    -- with the same record
    abbrev as_before : Record → Rating → Bool → Bool → Bool → Bool
    as_before r x l f g =
        is_hit cs (judged_with false (with_admitted r (admitted_at next (number_among_all inputs k seq))) r.level
        (get_or before.states (number_among_all inputs k seq) New) x l f g)

    if_active_same : hits_if_active next later k seq there cs ≡ hits_if_active inputs none k seq there cs
    if_active_same =
        let place = number_among_all inputs k seq in
        let r = (own inputs none k seq there).0 in
        ap (λ q. as_before q (rating next later k seq there cs) (out_of next later k seq there cs Lines) (out_of next later k seq there cs Files)
        (gone next later k seq there cs)) same_own
        ∙ ap (λ xs. as_before r (get_or xs place Missing) (out_of next later k seq there cs Lines) (out_of next later k seq there cs Files)
        (gone next later k seq there cs)) ratings_same
        ∙ ap₂ (λ ls fs. as_before r (rating inputs none k seq there cs) (get_or ls place false) (get_or fs place false)
        (gone next later k seq there cs)) (outs_same Lines) (outs_same Files)
        ∙ ap (λ gs. as_before r (rating inputs none k seq there cs) (out_of inputs none k seq there cs Lines)
        (out_of inputs none k seq there cs Files) (get_or gs place false)) (for_each_same false after.drafts before.drafts drafts_same)
        ∙ hit_same r (admitted_at next place) (admitted_at inputs place) false r.level (state inputs none k seq there cs)
        (rating inputs none k seq there cs) (out_of inputs none k seq there cs Lines) (out_of inputs none k seq there cs Files)
        (gone inputs none k seq there cs) cs plain

    pub hit_later : (is_active (merged_result inputs k seq) ≡ false → is_active (merged_result next k seq) ≡ false)
        → is_hit_given cs next (number_among_all inputs k seq)
        ≡ (is_hit_given cs inputs (number_among_all inputs k seq) && is_active (merged_result next k seq))
    hit_later still =
        let was = draft inputs none k seq there in
        let is = draft next later k seq there in
        let stays : was.suppressed ≡ true → is.suppressed ≡ true =
        λ s. sym (not_not is.suppressed)
        ∙ ap not (sym (active_there next later k seq there) ∙ still (active_there inputs none k seq there ∙ ap not s)) in
        hit_there next later k seq there cs
        ∙ ap (λ b. not is.suppressed && b) if_active_same
        ∙ narrowed was.suppressed is.suppressed (hits_if_active inputs none k seq there cs) stays
        ∙ ap₂ (λ b c. b && c) (sym (hit_there inputs none k seq there cs)) (sym (active_there next later k seq there))
