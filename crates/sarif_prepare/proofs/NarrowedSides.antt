-- What a change makes of the results of logs is what is inside of the merged log.
use Rattle.std.proofs.Common.{◌≡◌, ◌≤◌, ◌+◌, ◌++◌, ℕ, Bool, true, false, not, ◌&&◌, List, [], ◌∷◌, Option, Some, None, map, length, refl, sym, ap, subst, ◌∙◌, arith}
use Rattle.std.proofs.lemmas.List.{append-nil, length-map}
use Rattle.std.proofs.lemmas.List.Concat.{flat_map-append}
use Rattle.std.specs.Prelude.{flat_map, option_map, if◌then◌else◌, IfSome}
use Rattle.std.specs.List.{AllByRecursion}
use Rattle.serde_json.specs.Data.{Data}
use Rattle.sarif_choice.specs.declared.choice.Choice.{Choice}
use Rattle.sarif_counts.specs.Hits.{count_if, hits_at, hits_of, severe_of, Count}
use Rattle.sarif_entries.specs.File.{File}
use Rattle.sarif_evidence.specs.Evidence.{has_evidence, state_in}
use Rattle.sarif_evidence.specs.Seen.{seen}
use Rattle.sarif_evidence.specs.State.{is_unchanged}
use Rattle.sarif_evidence.specs.declared.version.MatchingVersion.{MatchingVersion}
use Rattle.sarif_evidence.specs.declared.version.MatchingVersion.TheVariants.{Two, Three}
use Rattle.sarif_findings.specs.declared.reporting.Reporting.{Reporting}
use Rattle.sarif_log.specs.Internal.Copied.{masked}
use Rattle.sarif_log.specs.Internal.Texts.{tallied}
use Rattle.sarif_log.specs.LogBy.{current_runs, leftover_runs, limited_records, listing_of, runs_by, states_from, states_of, taken_of}
use Rattle.sarif_log.specs.Told.{if_asked, reported_inside, told_by, told_of}
use Rattle.sarif_log.proofs.Limits.{limited_long}
use Rattle.sarif_log.proofs.RunCounts.{left_count}
use Rattle.sarif_log.proofs.Sides.{states_long, taken_long}
use Rattle.sarif_match.specs.Partners.{partners_in}
use Rattle.sarif_model.specs.Limits.{most_results, most_runs}
use Rattle.sarif_model.specs.declared.kinds.Level.{Level}
use Rattle.sarif_model.specs.declared.kinds.Level.TheVariants.{NoLevel, Note, Warning, Error}
use Rattle.sarif_model.specs.declared.kinds.State.{State}
use Rattle.sarif_model.specs.declared.kinds.State.TheVariants.{New, Unchanged, Updated, Absent}
use Rattle.sarif_model.specs.declared.record.Record.{Record}
use Rattle.sarif_options.specs.Policy.{is_listed}
use Rattle.sarif_options.specs.declared.policy.Policy.{Policy}
use Rattle.sarif_outside.specs.Marks.{both, is_outside_at, outside_marks}
use Rattle.sarif_prepare.specs.Chosen.{marks_in}
use Rattle.sarif_prepare.specs.Hidden.{active_of, drafts_of, hidden_by}
use Rattle.sarif_prepare.specs.Internal.Baselines.{baseline_drafts}
use Rattle.sarif_prepare.specs.Internal.Leftover.{not_taken}
use Rattle.sarif_prepare.specs.Internal.Marking.{marked_each}
use Rattle.sarif_prepare.specs.Internal.Outside.{facts_told, others_tallied, states_by, AreNarrowed, IsNarrowed}
use Rattle.sarif_prepare.specs.Internal.Telling.{own_results, pair_at, told_each}
use Rattle.sarif_prepare.specs.Internal.Together.{AreTogether, IsPaired}
use Rattle.sarif_prepare.specs.declared.baselines.Baselines.{Baselines}
use Rattle.sarif_prepare.specs.declared.halves.Half.{Half}
use Rattle.sarif_prepare.specs.declared.outside.Narrowed.{Narrowed}
use Rattle.sarif_prepare.specs.declared.pairing.Paired.{Paired}
use Rattle.sarif_prepare.proofs.EachWritten.{IsThere}
use Rattle.sarif_prepare.proofs.InsideRuns.{hidden_in, inside_marked, inside_told, others_counted, out_of}
use Rattle.sarif_prepare.proofs.LeftOutside.{left_others, left_untold}
use Rattle.sarif_prepare.proofs.LeftTexts.{counts}
use Rattle.sarif_prepare.proofs.MatchedRecords.{limited_total, matched_records}
use Rattle.sarif_prepare.proofs.ToldRuns.{pairs_of_all}
use Rattle.sarif_prepare.proofs.WrittenSides.{baseline_long, current_long, few_left}
use Rattle.sarif_results.specs.Drafts.{applied_of}
use Rattle.sarif_runs.proofs.AllSpots.{spots_count}
use Rattle.sarif_runs.specs.Internal.Opened.{placed_of}
use Rattle.sarif_runs.specs.Internal.Spots.{spots_from}
use Rattle.sarif_runs.specs.Judging.{records_of, run_values}
use Rattle.sarif_runs.specs.Placed.{Placed}
use Rattle.sarif_runs.specs.declared.spots.Spot.{Spot}
use Rattle.sarif_scope.specs.Counted.{count_kept, count_others, for_reports, outside_of}
use Rattle.sarif_scope.specs.Gate.{facts_of}
use Rattle.sarif_scope.specs.declared.facts.ChangeFacts.{ChangeFacts}
use Rattle.sarif_scope.specs.declared.gated.GatedChange.{GatedChange}

-- ---- a current result is not absent

if_there : (b : Bool) → IsThere (if b then Unchanged else Updated)
if_there true = λ e. cc
if_there false = λ e. cc

two_there : (r : Record) (o : Option Record) → IsThere (state_in Two r o)
two_there r None = λ e. cc
two_there r (Some partner) = if_there (is_unchanged r partner)

state_there : (v : MatchingVersion) (r : Record) (o : Option Record) → IsThere (state_in v r o)
state_there Two r o = two_there r o
state_there Three r None = λ e. cc
state_there Three r (Some partner) = if_there (is_unchanged r partner && has_evidence (seen r) (seen partner))

pub states_there : (v : MatchingVersion) (bs : List Record) (ps : List (Option ℕ)) (n : ℕ) (cs : List Record)
    → AllByRecursion IsThere (states_from v bs ps n cs)
states_there v bs ps n [] = tt
states_there v bs ps n (r ∷ rs) = (state_there v r _, states_there v bs ps (n + 1) rs)

-- ---- hits by counts of active results

severe_same : (f g : Level → ℕ) (least : Level) → ((l : Level) → f l ≡ g l) → severe_of f least ≡ severe_of g least
severe_same f g least h = rw (h Error, h Warning, h Note, h NoLevel) refl

module _ (all others : Count) (policy : Policy) (h : (s : State) (l : Level) → all s l false ≡ others s l false) where
  at_same : (s : State) → hits_at all policy s ≡ hits_at others policy s
  at_same s =
      ap (count_if (is_listed policy.states s))
      (severe_same (λ level. all s level false) (λ level. others s level false) policy.fail_on (h s))

  pub hits_same : hits_of all policy ≡ hits_of others policy
  hits_same = rw (at_same New, at_same Unchanged, at_same Updated, at_same Absent) refl

kept_append : (keeps : Data → Data → Bool) (xs ys : List Data) (s : State) (l : Level) (b : Bool)
    → count_kept keeps (xs ++ ys) s l b ≡ count_kept keeps xs s l b + count_kept keeps ys s l b
kept_append keeps [] ys s l b = omega arith
kept_append keeps (x ∷ xs) ys s l b = let rest = kept_append keeps xs ys s l b in omega (arith, rest)

-- ---- marks

spots_out : (change : GatedChange) (now : List Placed) (spots : List Spot)
    → map (is_outside_at change now) spots ≡ map (out_of change) (map (pair_at now) spots)
spots_out change now [] = refl
spots_out change now (spot ∷ spots) = ap (λ l. is_outside_at change now spot ∷ l) (spots_out change now spots)

pub both_long : (ms ns : List Bool) → length ms ≡ length ns → length (both ms ns) ≡ length ms
both_long [] ns same = refl
both_long (m ∷ ms) [] same = absurd (omega (arith, same))
both_long (m ∷ ms) (n ∷ ns) same = let rest = both_long ms ns (omega (arith, same)) in omega (arith, rest)

-- a mark for each result
pub outside_long : (change : GatedChange) (runs : List Placed) (asked : List Bool) → length asked ≡ length (spots_from 0 runs)
    → length (outside_marks change runs asked) ≡ length asked
outside_long change runs asked same =
    both_long asked (map (is_outside_at change runs) (spots_from 0 runs)) (same ∙ sym (length-map (spots_from 0 runs) (is_outside_at change runs)))

pub masked_long : (ms : List Bool) (ss : List (Option State)) → length ms ≡ length ss → length (masked ms ss) ≡ length ss
masked_long [] [] same = refl
masked_long [] (s ∷ ss) same = absurd (omega (arith, same))
masked_long (m ∷ ms) [] same = refl
masked_long (m ∷ ms) (s ∷ ss) same = let rest = masked_long ms ss (omega (arith, same)) in omega (arith, rest)

module _ (v : MatchingVersion) (file : File) (now before : List Placed) (c : Half) (b : Baselines) (p : Paired)
    (h : AreTogether file now before c b) (q : IsPaired v c b p) where
  abbrev pairs : List (Data × Data)
  pairs = flat_map own_results (run_values now)

  abbrev xs : List State
  xs = states_of v (records_of now) (records_of before)

  pub states_are : p.states.items ≡ map Some xs
  states_are =
      q.states ∙ ap (λ rs. map Some (states_of v rs b.records.items)) (matched_records file now c h.is_current)
      ∙ ap (λ rs. map Some (states_of v (records_of now) rs)) h.are_baselines.records

  pub taken_are : p.taken.items ≡ taken_of v (records_of now) (records_of before)
  taken_are =
      q.taken ∙ ap (λ rs. taken_of v rs b.records.items) (matched_records file now c h.is_current) ∙ ap (taken_of v (records_of now)) h.are_baselines.records

  there : AllByRecursion IsThere xs
  there = states_there v (records_of before) (partners_in v (records_of now) (records_of before)) 0 (records_of now)

  xs_long : length xs ≡ length (limited_records file now)
  xs_long =
      states_long v (records_of before) (partners_in v (records_of now) (records_of before)) 0 (records_of now) ∙ sym (limited_long file (records_of now))

  pub spots_long : length (spots_from 0 now) ≡ length c.drafts.items
  spots_long = spots_count 0 now ∙ sym h.current_records ∙ sym (current_long file now before c b h)

  pairs_long : length pairs ≡ length (drafts_of file now)
  pairs_long =
      ap length (sym (pairs_of_all now)) ∙ length-map (spots_from 0 now) (pair_at now) ∙ spots_long ∙ ap length h.is_current.drafts

  -- ---- what marking needs

  pub runs_few : length c.runs.items ≤ most_runs
  runs_few =
      let same = length-map c.runs.items placed_of in
      let opened = ap length h.is_current.opened in
      omega (arith, same, opened, h.few_runs)

  pub spots_many : length c.drafts.items ≡ length (spots_from 0 (map placed_of c.runs.items))
  spots_many = sym spots_long ∙ sym (ap (λ ps. length (spots_from 0 ps)) h.is_current.opened)

  pub drafts_few : length c.drafts.items ≤ most_results
  drafts_few = let long = current_long file now before c b h in omega (arith, long, h.few_current)

  pub left_many : length p.left.items ≤ most_results
  left_many =
      let left = ap length (q.left before h.are_baselines) in
      let fewer = few_left p.taken.items (baseline_drafts before) in
      let all = baseline_long before b h.are_baselines in
      omega (arith, left, fewer, all, h.few_baseline)

  pub states_all : length p.states.items ≡ length c.drafts.items
  states_all =
      ap length states_are ∙ length-map xs Some ∙ xs_long ∙ limited_long file (records_of now) ∙ sym (current_long file now before c b h)

  -- ---- what it makes

  module _ (change : GatedChange) (policy : Policy) (n : Narrowed) (k : IsNarrowed change policy c p n) where
    pub hidden_are : n.marks.items ≡ outside_marks change now (active_of (drafts_of file now))
    hidden_are =
        k.marks ∙ ap (λ rs. outside_marks change rs (active_of c.drafts.items)) h.is_current.opened
        ∙ ap (λ ds. outside_marks change now (active_of ds)) h.is_current.drafts

    marks_are : n.marks.items ≡ hidden_in change pairs (drafts_of file now)
    marks_are =
        hidden_are
        ∙ ap (both (active_of (drafts_of file now))) (spots_out change now (spots_from 0 now) ∙ ap (map (out_of change)) (pairs_of_all now))

    narrowed_are : n.states.items ≡ masked (hidden_in change pairs (drafts_of file now)) (map Some xs)
    narrowed_are =
        k.states ∙ ap (λ ms. masked ms p.states.items) marks_are ∙ ap (masked (hidden_in change pairs (drafts_of file now))) states_are

    pub told_narrowed : (reporting : Reporting)
        → told_each reporting (map (pair_at now) (spots_from 0 now)) c.drafts.items n.states.items
        ≡ flat_map (reported_inside change reporting) (current_runs v file now before)
    told_narrowed reporting =
        ap (λ ps. told_each reporting ps c.drafts.items n.states.items) (pairs_of_all now)
        ∙ ap (λ ds. told_each reporting pairs ds n.states.items) h.is_current.drafts
        ∙ ap (told_each reporting pairs (drafts_of file now)) narrowed_are
        ∙ inside_told change reporting (listing_of file) (applied_of file) (limited_records file now) xs (run_values now) h.current_are_runs
        (limited_total file now h.current_records) xs_long there

    -- no result that is left of baselines is reported
    pub runs_narrowed : (reporting : Reporting)
        → told_each reporting (map (pair_at now) (spots_from 0 now)) c.drafts.items n.states.items
        ≡ flat_map (reported_inside change reporting) (runs_by v file now before)
    runs_narrowed reporting =
        let here = flat_map (reported_inside change reporting) (current_runs v file now before) in
        told_narrowed reporting
        ∙ sym (append-nil here)
        ∙ ap (λ fs. here ++ fs)
        (sym (left_untold change reporting (records_of before) (taken_of v (records_of now) (records_of before)) (run_values before) h.baseline_are_runs))
        ∙ sym (flat_map-append (reported_inside change reporting) (current_runs v file now before) (leftover_runs v now before))

    pub sides_narrowed : (asked : Option Reporting)
        → if_asked asked (λ r. told_each r (map (pair_at now) (spots_from 0 now)) c.drafts.items n.states.items)
        ≡ told_by (Some change) asked (runs_by v file now before)
    sides_narrowed None = refl
    sides_narrowed (Some reporting) = runs_narrowed reporting

    pub marked_narrowed : (reporting : Reporting) (choice : Choice)
        → marked_each reporting choice (map (pair_at now) (spots_from 0 now)) c.drafts.items n.states.items
        ≡ marks_in (Some change) reporting choice (current_runs v file now before)
    marked_narrowed reporting choice =
        ap (λ ps. marked_each reporting choice ps c.drafts.items n.states.items) (pairs_of_all now)
        ∙ ap (λ ds. marked_each reporting choice pairs ds n.states.items) h.is_current.drafts
        ∙ ap (marked_each reporting choice pairs (drafts_of file now)) narrowed_are
        ∙ inside_marked change reporting choice (listing_of file) (applied_of file) (limited_records file now) xs (run_values now) h.current_are_runs
        (limited_total file now h.current_records) xs_long there

    current_others : (s : State) (l : Level)
        → tallied c.drafts.items (masked (map not n.marks.items) p.states.items) s l false
        ≡ count_others change (current_runs v file now before) s l false
    current_others s l =
        let ds = drafts_of file now in
        ap (λ es. tallied es (masked (map not n.marks.items) p.states.items) s l false) h.is_current.drafts
        ∙ ap (λ ms. tallied ds (masked (map not ms) p.states.items) s l false) marks_are
        ∙ ap (λ ss. tallied ds (masked (map not (hidden_in change pairs ds)) ss) s l false) states_are
        ∙ others_counted change s l (listing_of file) (applied_of file) (limited_records file now) xs (run_values now) h.current_are_runs
        (limited_total file now h.current_records) xs_long there pairs_long

    baseline_others : (s : State) (l : Level)
        → tallied p.left.items (map (λ _. Some Absent) p.left.items) s l false
        ≡ count_others change (leftover_runs v now before) s l false
    baseline_others s l =
        let taken = taken_of v (records_of now) (records_of before) in
        let taken_all = taken_long v (records_of now) (records_of before) in
        ap (λ es. tallied es (map (λ _. Some Absent) es) s l false)
        (q.left before h.are_baselines ∙ ap (λ ts. not_taken ts (baseline_drafts before)) taken_are)
        ∙ counts taken (baseline_drafts before) s l false (baseline_long before b h.are_baselines ∙ sym taken_all)
        ∙ left_count (records_of before) taken (run_values before) s l false h.baseline_are_runs h.are_baselines.count taken_all
        ∙ sym (left_others change s l false (records_of before) taken (run_values before) h.baseline_are_runs)

    others_are : (s : State) (l : Level)
        → others_tallied c p n.marks.items s l false ≡ count_others change (runs_by v file now before) s l false
    others_are s l =
        ap (λ m. m + tallied p.left.items (map (λ _. Some Absent) p.left.items) s l false) (current_others s l)
        ∙ ap (λ m. count_others change (current_runs v file now before) s l false + m) (baseline_others s l)
        ∙ sym (kept_append _ (current_runs v file now before) (leftover_runs v now before) s l false)

    outside_is : n.outside ≡ outside_of change policy (runs_by v file now before)
    outside_is =
        k.outside ∙ hits_same (others_tallied c p n.marks.items) (count_others change (runs_by v file now before)) policy others_are

    unreported_is : n.unreported ≡ outside_of change (for_reports policy) (runs_by v file now before)
    unreported_is =
        k.unreported
        ∙ hits_same (others_tallied c p n.marks.items) (count_others change (runs_by v file now before)) (for_reports policy) others_are

    abbrev facts_with : ℕ → ℕ → ChangeFacts
    facts_with outside unreported = record {
      files = change.files;
      lines = change.lines;
      outside = outside;
      unreported = unreported;
      scope = change.scope;
    }

    facts_narrowed : facts_told (Some change) (Some n) ≡ Some (facts_of change policy (runs_by v file now before))
    facts_narrowed =
        ap (λ m. Some (facts_with m n.unreported)) outside_is
        ∙ ap (λ m. Some (facts_with (outside_of change policy (runs_by v file now before)) m)) unreported_is

    marks_long : length n.marks.items ≡ length c.drafts.items
    marks_long =
        let active = length-map c.drafts.items (λ draft. not draft.suppressed) in
        let runs = map placed_of c.runs.items in
        let spots = length-map (spots_from 0 runs) (is_outside_at change runs) in
        let same = ap (λ ps. length (spots_from 0 ps)) h.is_current.opened in
        ap length k.marks
        ∙ both_long (active_of c.drafts.items) (map (is_outside_at change runs) (spots_from 0 runs)) (active ∙ sym spots_long ∙ sym same ∙ sym spots)
        ∙ active

    narrowed_long : length p.states.items ≡ length c.drafts.items → length n.states.items ≡ length c.drafts.items
    narrowed_long same = ap length k.states ∙ masked_long n.marks.items p.states.items (marks_long ∙ sym same) ∙ same

  -- ---- with a change, or without one

  pub shown_long : (change : Option GatedChange) (policy : Policy) (narrowed : Option Narrowed) → AreNarrowed change policy c p narrowed
      → length p.states.items ≡ length c.drafts.items → length (states_by narrowed p) ≡ length c.drafts.items
  shown_long None policy narrowed k same = ap (λ o. length (states_by o p)) k ∙ same
  shown_long (Some change) policy None k same = absurd k
  shown_long (Some change) policy (Some n) k same = narrowed_long change policy n k same

  pub some_told : (change : Option GatedChange) (policy : Policy) (o : Option Narrowed) (n : Narrowed) → o ≡ Some n → AreNarrowed change policy c p o
      → (asked : Option Reporting)
      → if_asked asked (λ r. told_each r (map (pair_at now) (spots_from 0 now)) c.drafts.items n.states.items)
      ≡ told_by change asked (runs_by v file now before)
  some_told None policy o n is k asked = let never : ⊥ = cc in absurd never
  some_told (Some g) policy o n is k asked = sides_narrowed g policy n (subst (λ x. AreNarrowed (Some g) policy c p x) is k) asked

  pub some_long : (change : Option GatedChange) (policy : Policy) (o : Option Narrowed) (n : Narrowed) → o ≡ Some n → AreNarrowed change policy c p o
      → length n.states.items ≡ length c.drafts.items
  some_long None policy o n is k = let never : ⊥ = cc in absurd never
  some_long (Some g) policy o n is k = narrowed_long g policy n (subst (λ x. AreNarrowed (Some g) policy c p x) is k) states_all

  pub none_told : (change : Option GatedChange) (policy : Policy) (o : Option Narrowed) → o ≡ None → AreNarrowed change policy c p o
      → (asked : Option Reporting) → told_of asked (runs_by v file now before) ≡ told_by change asked (runs_by v file now before)
  none_told None policy o is k asked = refl
  none_told (Some g) policy o is k asked = absurd (subst (λ x. AreNarrowed (Some g) policy c p x) is k)

  pub facts_are : (change : Option GatedChange) (policy : Policy) (narrowed : Option Narrowed) → AreNarrowed change policy c p narrowed
      → facts_told change narrowed ≡ option_map (λ g. facts_of g policy (runs_by v file now before)) change
  facts_are None policy narrowed k = refl
  facts_are (Some change) policy None k = absurd k
  facts_are (Some change) policy (Some n) k = facts_narrowed change policy n k

  pub hidden_is : (change : Option GatedChange) (policy : Policy) (narrowed : Option Narrowed) → AreNarrowed change policy c p narrowed
      → option_map (λ n. n.marks.items) narrowed ≡ hidden_by change file now
  hidden_is None policy narrowed k = ap (option_map (λ n. n.marks.items)) k
  hidden_is (Some change) policy None k = absurd k
  hidden_is (Some change) policy (Some n) k = ap Some (hidden_are change policy n k)

  pub hidden_long : (change : Option GatedChange) → IfSome (hidden_by change file now) (λ marks. length marks ≡ length (limited_records file now))
  hidden_long None = tt
  hidden_long (Some change) =
      let ds = drafts_of file now in
      let active = length-map ds (λ draft. not draft.suppressed) in
      let long = sym (ap length h.is_current.drafts) in
      let spots = length-map (spots_from 0 now) (is_outside_at change now) in
      both_long (active_of ds) (map (is_outside_at change now) (spots_from 0 now)) (active ∙ long ∙ sym spots_long ∙ sym spots)
      ∙ active ∙ long ∙ current_long file now before c b h ∙ sym (limited_long file (records_of now))

-- `AreNarrowed` is true for equal values that are lent
pub lent_narrowed : (change : Option GatedChange) (policy : Policy) (c d : Half) (p r : Paired) (n m : Option Narrowed) → d ≡ c → r ≡ p → m ≡ n
    → AreNarrowed change policy c p n → AreNarrowed change policy d r m
lent_narrowed change policy c d p r n m same_c same_p same_n k =
    subst (λ x. AreNarrowed change policy d r x) (sym same_n)
    (subst (λ x. AreNarrowed change policy d x n) (sym same_p) (subst (λ x. AreNarrowed change policy x p n) (sym same_c) k))
