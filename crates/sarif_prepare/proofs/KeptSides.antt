-- The matched merge, as what is made for later merges sees it.
use Rattle.std.proofs.Common.{◌≡◌, ◌≤◌, ◌⊎◌, inl, inr, ◌+◌, ◌++◌, ℕ, suc, Bool, List, [], ◌∷◌, Option, Some, None, map, take, drop, length, length-append, refl, sym, ap, subst, ◌∙◌, arith}
use Rattle.std.proofs.lemmas.List.{length-drop, length-map, length-take-le}
use Rattle.std.proofs.lemmas.List.Sums.{count_by-le-length}
use Rattle.serde_json.specs.Data.{Data}
use Rattle.sarif_model.specs.declared.record.Record.{Record}
use Rattle.sarif_model.specs.Run.{present, results_of}
use Rattle.sarif_evidence.specs.declared.version.MatchingVersion.{MatchingVersion}
use Rattle.sarif_match.specs.Partners.{partners_in}
use Rattle.std.specs.Prelude.{flat_map, option_map, unwrap_or, IfSome}
use Rattle.sarif_model.specs.declared.kinds.State.{State}
use Rattle.sarif_model.specs.declared.kinds.State.TheVariants.{New}
use Rattle.sarif_options.specs.declared.checks.Checks.{Checks}
use Rattle.sarif_options.specs.declared.policy.Policy.{Policy}
use Rattle.sarif_conditions.specs.declared.decided.Decided.{Decided}
use Rattle.sarif_deciding.specs.Matched.{Matched as Deciding}
use Rattle.sarif_deciding.specs.Ruling.{ruling_in}
use Rattle.sarif_entries.specs.File.{File}
use Rattle.sarif_runs.specs.Internal.Opened.{placed_of}
use Rattle.sarif_runs.specs.Judging.{records_of, run_values}
use Rattle.sarif_runs.specs.Placed.{Placed}
use Rattle.sarif_results.specs.declared.draft.Draft.{Draft}
use Rattle.sarif_results.specs.Drafts.{applied_of, drafts_by, Listing}
use Rattle.sarif_known.specs.Chosen.{knows_regions}
use Rattle.sarif_known.specs.declared.standing.Standing.{Standing}
use Rattle.sarif_policy.specs.declared.condition.GateCondition.{GateCondition}
use Rattle.sarif_upkeep.specs.Internal.IsMatched.{IsFileOf, IsMatched}
use Rattle.sarif_upkeep.specs.Life.{files_faults, if_misfit, no_hit}
use Rattle.sarif_upkeep.specs.Merge.{present_counts, present_total, Merge}
use Rattle.sarif_options.specs.declared.upkeep.Upkeep.{Upkeep}
use Rattle.sarif_model.specs.FirstFault.{first}
use Rattle.sarif_model.specs.MergeFault.{out_of_memory}
use Rattle.sarif_model.specs.declared.merge_fault.MergeFault.{MergeFault}
use Rattle.sarif_upkeep.specs.declared.matched.Matched.{Matched}
use Rattle.sarif_prepare.specs.declared.baselines.Baselines.{Baselines}
use Rattle.sarif_prepare.specs.declared.halves.Half.{Half}
use Rattle.sarif_prepare.specs.declared.pairing.Paired.{Paired}
use Rattle.sarif_prepare.specs.Internal.LeftParts.{present_counts as placed_counts}
use Rattle.sarif_prepare.specs.Chosen.{absent_among, checked_merge, chosen_merge, hits_alone, hits_among, is_hit_by, is_no_hit, marks_by, marks_in, others_among, with_choice, with_hits}
use Rattle.sarif_prepare.specs.Internal.Baselines.{baseline_drafts}
use Rattle.sarif_prepare.specs.Internal.Ruling.{absent_by, hidden_as, policy_by, standings_by, IsRuled, IsRuledIf}
use Rattle.sarif_prepare.specs.Ruled.{decided_by, matched_in}
use Rattle.sarif_prepare.specs.Told.{any_policy, of_all}
use Rattle.sarif_prepare.specs.declared.ruled.RuledSides.{RuledSides}
use Rattle.sarif_prepare.specs.Kept.{standings_from, standings_of, IsUnkept}
use Rattle.sarif_choice.specs.declared.choice.Choosing.{Choosing}
use Rattle.sarif_prepare.proofs.MarkedSides.{marks_long}
use Rattle.sarif_prepare.proofs.NarrowedSides.{both_long, hidden_is, hidden_long, states_all}
use Rattle.sarif_prepare.proofs.ToldRuled.{impacts_many, knowns_many}
use Rattle.sarif_prepare.proofs.WrittenSides.{baseline_long, current_long, few_left}
use Rattle.sarif_prepare.specs.Hidden.{hidden_by}
use Rattle.sarif_prepare.specs.Internal.Outside.{AreNarrowed}
use Rattle.sarif_prepare.specs.declared.outside.Narrowed.{Narrowed}
use Rattle.sarif_scope.specs.declared.gated.GatedChange.{GatedChange}
use Rattle.sarif_accept.specs.Choosing.{Marks}
use Rattle.sarif_model.specs.declared.merge_fault.At.{At}
use Rattle.sarif_log.specs.LogBy.{current_runs, limited_records, listing_of, states_of, taken_of}
use Rattle.sarif_log.specs.Internal.Texts.{present_results}
use Rattle.sarif_prepare.specs.Internal.Together.{AreTogether, IsPaired}
use Rattle.sarif_log.proofs.Limits.{limited_long}
use Rattle.sarif_log.proofs.Sides.{states_long, taken_long}
use Rattle.sarif_prepare.specs.Internal.Limiting.{unadmitted}
use Rattle.sarif_prepare.proofs.MatchedRecords.{limited_results, limited_total, matched_records}

standings_long : (v : MatchingVersion) (bs : List Record) (ps : List (Option ℕ)) (n : ℕ) (cs : List Record)
    → length (standings_from v bs ps n cs) ≡ length cs
standings_long v bs ps n [] = refl
standings_long v bs ps n (c ∷ cs) = ap suc (standings_long v bs ps (n + 1) cs)

-- what matching says is known for each result
pub standings_all : (v : MatchingVersion) (c : Half) (b : Baselines) (p : Paired) → IsPaired v c b p → length p.standings.items ≡ length p.states.items
standings_all v c b p q =
    let rs = map unadmitted c.records.items in
    let bs = b.records.items in
    ap length q.standings ∙ standings_long v bs (partners_in v rs bs) 0 rs
    ∙ sym (ap length q.states ∙ length-map (states_of v rs bs) Some ∙ states_long v bs (partners_in v rs bs) 0 rs)

-- the drafts of results know what the file makes of each
pub applied_are : (listed : Listing) (file : File) (rs : List Record) (ds : List Data) → length rs ≡ length ds
    → map (λ draft. draft.applied) (drafts_by listed (applied_of file) rs ds) ≡ map (applied_of file) rs
applied_are listed file [] ds same = refl
applied_are listed file (r ∷ rs) [] same = absurd (omega (arith, same))
applied_are listed file (r ∷ rs) (d ∷ ds) same = ap (λ l. applied_of file r ∷ l) (applied_are listed file rs ds (omega (arith, same)))

pub present_sum : (runs : List Data) → length (present_results runs) ≡ present_total runs
present_sum [] = refl
present_sum (run ∷ runs) = length-append (present (results_of run)) (present_results runs) ∙ ap (λ n. length (present (results_of run)) + n) (present_sum runs)

pub counts_are : (runs : List Placed) → placed_counts runs ≡ present_counts (run_values runs)
counts_are [] = refl
counts_are (p ∷ ps) = ap (λ l. length (present (results_of p.run)) ∷ l) (counts_are ps)

-- ---- the value that is passed on is that of the merge

abbrev merge_with : Merge → Policy → Marks → Option ℕ → List Standing → Merge
merge_with m policy hidden absent standings =
    record m {
      policy = policy;
      hidden = hidden;
      absent = absent;
      standings = standings;
    }

-- what the gate sees of the results: what it fails on, what is hidden, absent hits and standings
pub record IsGate (checks : Checks) (file : File) (now before : List Placed) (matched : Matched) (fails_on : Policy) (marks : Marks) (hits : Option ℕ)
    (each : List Standing) : Type 0 where
  pub policy : matched.policy ≡ fails_on
  pub hidden : option_map (λ x. x.now) matched.hidden ≡ marks
  pub hidden_long : IfSome marks (λ ms. length ms ≡ length (limited_records file now))
  pub absent : matched.absent ≡ hits
  pub absent_few : IfSome hits (λ n. n ≤ length (records_of before))
  pub standings : matched.current.standings.now ≡ each
  pub standings_long : length each ≡ length (limited_records file now)

matched_is : (checks : Checks) (file : File) (bytes : Option (List ℕ)) (change : Option GatedChange) (options policy : Policy) (hidden : Marks) (absent : Option ℕ)
    (standings : List Standing) (marks : Marks) (misfit : Option At)
    (now before : List Placed) (c : Half) (b : Baselines) (p : Paired) (matched : Matched)
    → AreTogether file now before c b → IsPaired checks.matching c b p → IsFileOf bytes file
    → matched.file.now ≡ file → option_map (λ x. x.now) matched.bytes ≡ bytes
    → matched.matching ≡ checks.matching → matched.once ≡ checks.once → matched.regions ≡ knows_regions checks.matching checks.once
    → IsGate checks file now before matched policy hidden absent standings
    → option_map (λ x. x.now) matched.chosen ≡ marks → IfSome marks (λ ms. length ms ≡ length (limited_records file now)) → misfit ≡ None
    → matched.current.runs.now ≡ c.runs.items → matched.current.records.now ≡ c.records.items → matched.current.drafts.now ≡ c.drafts.items
    → matched.current.states.now ≡ states_of checks.matching (map unadmitted c.records.items) b.records.items
    → matched.before.runs.now ≡ b.runs.items → matched.before.counts.now ≡ b.counts.items → matched.before.records.now ≡ b.records.items
    → matched.before.taken.now ≡ p.taken.items
    → IsMatched (with_choice (merge_with (checked_merge checks file bytes change options now before) policy hidden absent standings) marks misfit) matched
matched_is checks file bytes change options policy hidden absent standings marks misfit now before c b p matched h q read file_is bytes_are matching_is once_is
    regions_is gate marks_are marks_many fits runs_are records_are drafts_are states_are old_runs_are counts_is known_are taken_is =
    let rs = records_of now in
    let bs = records_of before in
    record {
      file = file_is;
      bytes = bytes_are;
      read = read;
      policy = gate.policy;
      matching = matching_is;
      once = once_is;
      regions = regions_is;
      hidden = gate.hidden;
      hidden_long = gate.hidden_long;
      absent = gate.absent;
      absent_few = gate.absent_few;
      chosen = marks_are;
      chosen_long = marks_many;
      fits = fits;
      current = record {
        runs = ap (λ all. run_values (map placed_of all)) runs_are ∙ ap run_values h.is_current.opened;
        records = records_are ∙ h.is_current.records;
        drafts =
            ap (map (λ (draft : Draft). draft.applied)) (drafts_are ∙ h.is_current.drafts)
            ∙ applied_are (listing_of file) file (limited_records file now) (flat_map results_of (run_values now)) (limited_results file now h.current_records);
        states = states_are ∙ ap (λ l. states_of checks.matching l b.records.items) (matched_records file now c h.is_current) ∙ ap (states_of checks.matching rs) h.are_baselines.records;
        standings = gate.standings;
        records_long = limited_total file now h.current_records;
        states_long = states_long checks.matching bs (partners_in checks.matching rs bs) 0 rs ∙ sym (limited_long file rs);
        standings_long = gate.standings_long;
        few = let many = limited_long file rs in omega (arith, many, h.few_current);
      };
      before = record {
        runs = ap (λ all. run_values (map placed_of all)) old_runs_are ∙ ap run_values h.are_baselines.opened;
        counts = counts_is ∙ h.are_baselines.counts ∙ counts_are before;
        records = known_are ∙ h.are_baselines.records;
        taken = taken_is ∙ q.taken ∙ ap (λ l. taken_of checks.matching l b.records.items) (matched_records file now c h.is_current) ∙ ap (taken_of checks.matching rs) h.are_baselines.records;
        records_long = h.are_baselines.count ∙ present_sum (run_values before);
        taken_long = taken_long checks.matching rs bs;
        few = h.few_baseline;
      };
    }

-- ---- what the gate sees, with conditions or without

with_hits_long : (standings : List Standing) (hits : List Bool) → length standings ≤ length hits → length (with_hits standings hits) ≡ length standings
with_hits_long [] hits few = refl
with_hits_long (standing ∷ standings) [] few = absurd (omega (arith, few))
with_hits_long (standing ∷ standings) (hit ∷ hits) few = ap suc (with_hits_long standings hits (omega (arith, few)))

module _ (checks : Checks) (file : File) (now before : List Placed) (c : Half) (b : Baselines) (p : Paired) (matched : Matched)
    (h : AreTogether file now before c b) (q : IsPaired checks.matching c b p) (change : Option GatedChange) (options : Policy)
    (narrowed : Option Narrowed) (k : AreNarrowed change options c p narrowed) where
  -- the standings by matching alone
  abbrev own : List Standing
  own = standings_of checks.matching (records_of now) (records_of before)

  own_are : p.standings.items ≡ own
  own_are =
      q.standings ∙ ap (λ l. standings_of checks.matching l b.records.items) (matched_records file now c h.is_current)
      ∙ ap (standings_of checks.matching (records_of now)) h.are_baselines.records

  own_long : length own ≡ length (limited_records file now)
  own_long =
      standings_long checks.matching (records_of before) (partners_in checks.matching (records_of now) (records_of before)) 0 (records_of now)
      ∙ sym (limited_long file (records_of now))

  pub gate_by_options : matched.policy ≡ policy_by None options → option_map (λ x. x.now) matched.hidden ≡ hidden_as None narrowed
      → matched.absent ≡ absent_by None → matched.current.standings.now ≡ standings_by None p
      → IsGate checks file now before matched options (hidden_by change file now) None own
  gate_by_options policy_is hidden_are absent_is standings_are =
      record {
        policy = policy_is;
        hidden = hidden_are ∙ hidden_is checks.matching file now before c b p h q change options narrowed k;
        hidden_long = hidden_long checks.matching file now before c b p h q change;
        absent = absent_is;
        absent_few = tt;
        standings = standings_are ∙ own_are;
        standings_long = own_long;
      }

  -- how many results of logs there are
  abbrev many : ℕ
  many = length (limited_records file now)

  pub states_are_many : length p.states.items ≡ many
  states_are_many =
      states_all checks.matching file now before c b p h q ∙ current_long file now before c b h ∙ sym (limited_long file (records_of now))

  left_fewer : length p.left.items ≤ length (records_of before)
  left_fewer =
      let left = ap length (q.left before h.are_baselines) in
      let fewer = few_left p.taken.items (baseline_drafts before) in
      let all = baseline_long before b h.are_baselines in
      omega (arith, left, fewer, all)

  module _ (ruling : Decided) (ruled : RuledSides) (is : IsRuled ruling p ruled)
      (impacts : length ruling.impacts ≡ length c.drafts.items + length p.left.items)
      (known : length ruling.known ≡ length c.drafts.items + length p.left.items) where
    enough : many ≤ length ruling.impacts
    enough =
        let same = current_long file now before c b h in
        let long = limited_long file (records_of now) in
        omega (arith, impacts, same, long)

    rest_is : length (drop many ruling.impacts) ≡ length p.left.items
    rest_is =
        let same = current_long file now before c b h in
        let long = limited_long file (records_of now) in
        let dropped = length-drop many ruling.impacts in
        omega (arith, impacts, same, long, dropped)

    absent_fewer : absent_among many ruling ≤ length (records_of before)
    absent_fewer =
        let fewer = count_by-le-length is_hit_by (drop many ruling.impacts) in
        omega (arith, fewer, rest_is, left_fewer)

    known_many : length own ≤ length (take many ruling.known)
    known_many =
        let same = current_long file now before c b h in
        let long = limited_long file (records_of now) in
        let taken : length (take many ruling.known) ≡ many = length-take-le many ruling.known (omega (arith, known, same, long)) in
        omega (arith, taken, own_long)

    pub gate_by_conditions : matched.policy ≡ policy_by (Some ruled) options
        → option_map (λ x. x.now) matched.hidden ≡ hidden_as (Some ruled) narrowed
        → matched.absent ≡ absent_by (Some ruled) → matched.current.standings.now ≡ standings_by (Some ruled) p
        → IsGate checks file now before matched any_policy (Some (others_among many ruling)) (Some (absent_among many ruling))
        (with_hits own (take many ruling.known))
    gate_by_conditions policy_is hidden_are absent_is standings_are =
        record {
          policy = policy_is;
          hidden = hidden_are ∙ ap Some (is.hidden ∙ ap (λ n. others_among n ruling) states_are_many);
          hidden_long = length-map (take many ruling.impacts) is_no_hit ∙ length-take-le many ruling.impacts enough;
          absent = absent_is ∙ ap Some (is.absent ∙ ap (λ n. absent_among n ruling) states_are_many);
          absent_few = absent_fewer;
          standings = standings_are ∙ is.standings ∙ ap (λ n. with_hits p.standings.items (take n ruling.known)) states_are_many
              ∙ ap (λ ss. with_hits ss (take many ruling.known)) own_are;
          standings_long = with_hits_long own (take many ruling.known) known_many ∙ own_long;
        }

-- ---- the merge with the conditions and the choice of hits, if there are some

module _ (checks : Checks) (file : File) (bytes : Option (List ℕ)) (change : Option GatedChange) (policy : Policy) (now before : List Placed) (c : Half)
    (b : Baselines) (p : Paired) (narrowed : Option Narrowed) (matched : Matched) (h : AreTogether file now before c b) (q : IsPaired checks.matching c b p)
    (k : AreNarrowed change policy c p narrowed) (read : IsFileOf bytes file)
    (file_is : matched.file.now ≡ file) (bytes_are : option_map (λ x. x.now) matched.bytes ≡ bytes)
    (matching_is : matched.matching ≡ checks.matching) (once_is : matched.once ≡ checks.once)
    (regions_is : matched.regions ≡ knows_regions checks.matching checks.once)
    (runs_are : matched.current.runs.now ≡ c.runs.items) (records_are : matched.current.records.now ≡ c.records.items)
    (drafts_are : matched.current.drafts.now ≡ c.drafts.items)
    (states_are : matched.current.states.now ≡ states_of checks.matching (map unadmitted c.records.items) b.records.items)
    (old_runs_are : matched.before.runs.now ≡ b.runs.items) (counts_is : matched.before.counts.now ≡ b.counts.items)
    (known_are : matched.before.records.now ≡ b.records.items) (taken_is : matched.before.taken.now ≡ p.taken.items) where
  abbrev v : MatchingVersion
  v = checks.matching

  abbrev m : Deciding
  m = matched_in v file change now before

  abbrev unruled : Merge
  unruled = checked_merge checks file bytes change policy now before

  with_gate : (gate_policy : Policy) (hidden : Marks) (absent : Option ℕ) (standings : List Standing) (marks : Marks) (misfit : Option At)
      → IsGate checks file now before matched gate_policy hidden absent standings
      → option_map (λ x. x.now) matched.chosen ≡ marks → IfSome marks (λ ms. length ms ≡ length (limited_records file now)) → misfit ≡ None
      → IsMatched (with_choice (merge_with unruled gate_policy hidden absent standings) marks misfit) matched
  with_gate gate_policy hidden absent standings marks misfit gate marks_are marks_many fits =
      matched_is checks file bytes change policy gate_policy hidden absent standings marks misfit now before c b p matched h q read file_is bytes_are matching_is once_is
      regions_is gate marks_are marks_many fits runs_are records_are drafts_are states_are old_runs_are counts_is known_are taken_is

  -- there is a mark for each result of logs
  marks_many : (conditions : Option (List GateCondition)) (choosing : Choosing)
      → length (marks_by (decided_by conditions m) change (hits_alone policy choosing.roots) choosing.choice (current_runs v file now before))
      ≡ length (limited_records file now)
  marks_many None choosing =
      marks_long v (hits_alone policy choosing.roots) choosing.choice file now before c b p h q change policy narrowed k ∙ sym (limited_long file (records_of now))
  marks_many (Some cs) choosing =
      let ms = marks_in None (of_all (hits_alone policy choosing.roots)) choosing.choice (current_runs v file now before) in
      let impacts = (ruling_in cs m).impacts in
      let all = impacts_many v file now before c b p h q change cs in
      let long : length ms ≡ length (records_of now) =
      marks_long v (of_all (hits_alone policy choosing.roots)) choosing.choice file now before c b p h q None policy None refl in
      let same = current_long file now before c b h in
      let hits : length (hits_among (length ms) (ruling_in cs m)) ≡ length ms =
      length-map (take (length ms) impacts) is_hit_by ∙ length-take-le (length ms) impacts (omega (arith, all, long, same)) in
      both_long (hits_among (length ms) (ruling_in cs m)) ms hits ∙ hits ∙ long ∙ sym (limited_long file (records_of now))

  options_gate : (ruled : Option RuledSides) → ruled ≡ None → matched.policy ≡ policy_by ruled policy
      → option_map (λ x. x.now) matched.hidden ≡ hidden_as ruled narrowed → matched.absent ≡ absent_by ruled
      → matched.current.standings.now ≡ standings_by ruled p
      → IsGate checks file now before matched policy (hidden_by change file now) None (standings_of v (records_of now) (records_of before))
  options_gate ruled none policy_is hidden_are absent_is standings_are =
      gate_by_options checks file now before c b p matched h q change policy narrowed k (policy_is ∙ ap (λ o. policy_by o policy) none)
      (hidden_are ∙ ap (λ o. hidden_as o narrowed) none) (absent_is ∙ ap absent_by none) (standings_are ∙ ap (λ o. standings_by o p) none)

  conditions_gate : (cs : List GateCondition) (ruled : RuledSides) → IsRuled (ruling_in cs m) p ruled → matched.policy ≡ policy_by (Some ruled) policy
      → option_map (λ x. x.now) matched.hidden ≡ hidden_as (Some ruled) narrowed → matched.absent ≡ absent_by (Some ruled)
      → matched.current.standings.now ≡ standings_by (Some ruled) p
      → IsGate checks file now before matched any_policy (Some (others_among (length (limited_records file now)) (ruling_in cs m)))
      (Some (absent_among (length (limited_records file now)) (ruling_in cs m)))
      (with_hits (standings_of v (records_of now) (records_of before)) (take (length (limited_records file now)) (ruling_in cs m).known))
  conditions_gate cs ruled is =
      gate_by_conditions checks file now before c b p matched h q change policy narrowed k (ruling_in cs m) ruled is
      (impacts_many v file now before c b p h q change cs) (knowns_many v file now before c b p h q change cs)

  pub matched_chosen : (conditions : Option (List GateCondition)) (choice : Option Choosing) (decided : Option Decided) (ruled : Option RuledSides)
      → decided ≡ decided_by conditions m → IsRuledIf decided p ruled → matched.policy ≡ policy_by ruled policy
      → option_map (λ x. x.now) matched.hidden ≡ hidden_as ruled narrowed → matched.absent ≡ absent_by ruled
      → matched.current.standings.now ≡ standings_by ruled p
      → option_map (λ x. x.now) matched.chosen ≡ (chosen_merge conditions checks file bytes change policy choice now before).chosen
      → (chosen_merge conditions checks file bytes change policy choice now before).misfit ≡ None
      → IsMatched (chosen_merge conditions checks file bytes change policy choice now before) matched
  matched_chosen None None decided ruled decided_is ruled_is policy_is hidden_are absent_is standings_are marks_are fits =
      with_gate policy (hidden_by change file now) None (standings_of v (records_of now) (records_of before)) None None
      (options_gate ruled (subst (λ d. IsRuledIf d p ruled) decided_is ruled_is) policy_is hidden_are absent_is standings_are) marks_are tt fits
  matched_chosen None (Some choosing) decided ruled decided_is ruled_is policy_is hidden_are absent_is standings_are marks_are fits =
      with_gate policy (hidden_by change file now) None (standings_of v (records_of now) (records_of before)) _ _
      (options_gate ruled (subst (λ d. IsRuledIf d p ruled) decided_is ruled_is) policy_is hidden_are absent_is standings_are) marks_are
      (marks_many None choosing) fits
  matched_chosen (Some cs) choice decided None decided_is ruled_is policy_is hidden_are absent_is standings_are marks_are fits =
      absurd (subst (λ d. IsRuledIf d p None) decided_is ruled_is)
  matched_chosen (Some cs) None decided (Some ruled) decided_is ruled_is policy_is hidden_are absent_is standings_are marks_are fits =
      with_gate any_policy _ _ _ None None
      (conditions_gate cs ruled (subst (λ d. IsRuledIf d p (Some ruled)) decided_is ruled_is) policy_is hidden_are absent_is standings_are) marks_are tt fits
  matched_chosen (Some cs) (Some choosing) decided (Some ruled) decided_is ruled_is policy_is hidden_are absent_is standings_are marks_are fits =
      with_gate any_policy _ _ _ _ _
      (conditions_gate cs ruled (subst (λ d. IsRuledIf d p (Some ruled)) decided_is ruled_is) policy_is hidden_are absent_is standings_are) marks_are
      (marks_many (Some cs) choosing) fits

-- a choice with a place or a rule that fits no chosen hit
pub misfit_unkept : (m : Merge) (upkeep : Upkeep) (fault : MergeFault)
    → (fault ≡ out_of_memory) ⊎ ((at : At) × (fault ≡ no_hit at) × (m.misfit ≡ Some at)) → IsUnkept m (Some upkeep) fault
misfit_unkept m upkeep fault (inl out) = inl out
misfit_unkept m upkeep fault (inr found) =
    inr (ap (λ o. first (if_misfit o ++ files_faults m upkeep)) found.2 ∙ ap Some (sym found.1))

pub states_there : (found : List (Option State)) (all : List State) → found ≡ map Some all → map (λ state. unwrap_or state New) found ≡ all
states_there found all is = ap (map (λ state. unwrap_or state New)) is ∙ each all
  where
    each : (all : List State) → map (λ state. unwrap_or state New) (map Some all) ≡ all
    each [] = refl
    each (state ∷ states) = ap (λ l. state ∷ l) (each states)
