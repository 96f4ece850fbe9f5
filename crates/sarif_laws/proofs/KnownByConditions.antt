-- With the conditions of a policy, the known log doesn't depend on the change.
use Rattle.std.proofs.Common.{◌≡◌, ◌≤◌, ◌++◌, ℕ, Bool, true, false, not, List, [], ◌∷◌, Option, Some, None, map, take, length, refl, sym, ap, ◌∙◌, arith}
use Rattle.std.proofs.lemmas.List.{length-map, map-append}
use Rattle.std.specs.Prelude.{flat_map, if◌then◌else◌}
use Rattle.serde_json.specs.Data.{Data}
use Rattle.sarif_change.specs.declared.spots.Scope.{Scope}
use Rattle.sarif_change.specs.declared.spots.Scope.TheVariants.{Lines, Files}
use Rattle.sarif_choice.specs.declared.choice.Choosing.{Choosing}
use Rattle.sarif_conditions.specs.Decided.{is_known}
use Rattle.sarif_counts.specs.declared.life.KnownLog.{KnownLog}
use Rattle.sarif_deciding.specs.Asked.{asks_scope}
use Rattle.sarif_deciding.specs.Matched.{Matched}
use Rattle.sarif_deciding.specs.Results.{absent_results, active_of, current_ratings, current_results, for_each, inside_by, inside_in, judged_all, judged_by, seen_all}
use Rattle.sarif_deciding.specs.Ruling.{ruling_in}
use Rattle.sarif_entries.specs.File.{File}
use Rattle.sarif_evidence.specs.declared.version.MatchingVersion.{MatchingVersion}
use Rattle.sarif_log.specs.LogBy.{limited_records, listing_of}
use Rattle.sarif_log.proofs.Sides.{results_long}
use Rattle.sarif_model.specs.Run.{results_of}
use Rattle.sarif_model.specs.declared.kinds.State.{State}
use Rattle.sarif_model.specs.declared.record.Record.{Record}
use Rattle.sarif_options.specs.declared.checks.Checks.{Checks}
use Rattle.sarif_options.specs.declared.policy.Policy.{Policy}
use Rattle.sarif_options.specs.declared.upkeep.Knowing.{Knowing}
use Rattle.sarif_outside.specs.Marks.{both, in_scope, is_outside_at, outside_marks}
use Rattle.sarif_policy.specs.declared.condition.GateCondition.{GateCondition}
use Rattle.sarif_policy.specs.declared.rating.Rating.{Rating}
use Rattle.sarif_prepare.specs.By.{counted_if, merge_by}
use Rattle.sarif_prepare.specs.Chosen.{checked_merge, with_hits}
use Rattle.sarif_prepare.specs.Hidden.{drafts_of}
use Rattle.sarif_prepare.specs.Kept.{standings_of}
use Rattle.sarif_prepare.specs.Ruled.{matched_in}
use Rattle.sarif_prepare.specs.Told.{any_policy}
use Rattle.sarif_results.specs.Drafts.{applied_of, drafts_by, Listing}
use Rattle.sarif_results.specs.declared.draft.Draft.{Draft}
use Rattle.sarif_runs.proofs.AllSpots.{spots_count}
use Rattle.sarif_runs.specs.Internal.Spots.{spots_from}
use Rattle.sarif_runs.specs.Judging.{records_of, run_values}
use Rattle.sarif_runs.specs.Placed.{Placed}
use Rattle.sarif_scope.specs.declared.gated.GatedChange.{GatedChange}
use Rattle.sarif_suppress.specs.declared.suppressions.Applied.{Applied}
use Rattle.sarif_upkeep.specs.Known.{remembered}

-- ---- how many marks there are

both_short : (ms ns : List Bool) → length ms ≤ length ns → length (both ms ns) ≡ length ms
both_short [] ns few = refl
both_short (m ∷ ms) [] few = absurd (omega (arith, few))
both_short (m ∷ ms) (n ∷ ns) few = let rest = both_short ms ns (omega (arith, few)) in omega (arith, rest)

drafts_fewer : (listed : Listing) (applied : Record → Applied) (rs : List Record) (ds : List Data) → length (drafts_by listed applied rs ds) ≤ length ds
drafts_fewer listed applied [] ds = omega arith
drafts_fewer listed applied (r ∷ rs) [] = omega arith
drafts_fewer listed applied (r ∷ rs) (d ∷ ds) = let rest = drafts_fewer listed applied rs ds in omega (arith, rest)

module _ (file : File) (now : List Placed) where
  abbrev drafts : List Draft
  drafts = drafts_of file now

  few : length drafts ≤ length (spots_from 0 now)
  few =
      let fewer = drafts_fewer (listing_of file) (applied_of file) (limited_records file now) (flat_map results_of (run_values now)) in
      let all = results_long (run_values now) in
      let spots = spots_count 0 now in
      omega (arith, fewer, all, spots)

  inside_many : (scope : Scope) (change : Option GatedChange) → length (inside_by scope change now drafts) ≡ length drafts
  inside_many scope None = length-map drafts (λ _. true)
  inside_many scope (Some change) =
      let asked = active_of drafts in
      let marks = map (is_outside_at (in_scope scope change) now) (spots_from 0 now) in
      let active = length-map drafts (λ draft. not draft.suppressed) in
      let spots = length-map (spots_from 0 now) (is_outside_at (in_scope scope change) now) in
      length-map (outside_marks (in_scope scope change) now asked) not ∙ both_short asked marks (omega (arith, active, spots, few)) ∙ active

  inside_if : (scope : Scope) (change : Option GatedChange) (b : Bool)
      → length (if b then inside_by scope change now drafts else for_each true drafts) ≡ length drafts
  inside_if scope change true = inside_many scope change
  inside_if scope change false = length-map drafts (λ _. true)

-- ---- whether a result would be a hit doesn't depend on what is inside

known_as : (cs : List GateCondition) (rs : List Record) (ss : List State) (ds : List Draft) (ratings : List Rating) (lines others files more gone : List Bool)
    → length lines ≡ length others → length files ≡ length more
    → map (is_known cs) (judged_all rs ss ds (seen_all ratings lines files gone)) ≡ map (is_known cs) (judged_all rs ss ds (seen_all ratings others more gone))
known_as cs [] ss ds ratings lines others files more gone same also = refl
known_as cs (r ∷ rs) [] ds ratings lines others files more gone same also = refl
known_as cs (r ∷ rs) (s ∷ ss) [] ratings lines others files more gone same also = refl
known_as cs (r ∷ rs) (s ∷ ss) (d ∷ ds) [] lines others files more gone same also = refl
known_as cs (r ∷ rs) (s ∷ ss) (d ∷ ds) (x ∷ ratings) [] [] files more gone same also = refl
known_as cs (r ∷ rs) (s ∷ ss) (d ∷ ds) (x ∷ ratings) [] (o ∷ others) files more gone same also = absurd (omega (arith, same))
known_as cs (r ∷ rs) (s ∷ ss) (d ∷ ds) (x ∷ ratings) (l ∷ lines) [] files more gone same also = absurd (omega (arith, same))
known_as cs (r ∷ rs) (s ∷ ss) (d ∷ ds) (x ∷ ratings) (l ∷ lines) (o ∷ others) [] [] gone same also = refl
known_as cs (r ∷ rs) (s ∷ ss) (d ∷ ds) (x ∷ ratings) (l ∷ lines) (o ∷ others) [] (m ∷ more) gone same also = absurd (omega (arith, also))
known_as cs (r ∷ rs) (s ∷ ss) (d ∷ ds) (x ∷ ratings) (l ∷ lines) (o ∷ others) (f ∷ files) [] gone same also = absurd (omega (arith, also))
known_as cs (r ∷ rs) (s ∷ ss) (d ∷ ds) (x ∷ ratings) (l ∷ lines) (o ∷ others) (f ∷ files) (m ∷ more) [] same also = refl
known_as cs (r ∷ rs) (s ∷ ss) (d ∷ ds) (x ∷ ratings) (l ∷ lines) (o ∷ others) (f ∷ files) (m ∷ more) (g ∷ gone) same also =
    ap (λ rest. is_known cs (judged_by r s d (record { rating = x; in_lines = l; in_files = f; is_gone = g })) ∷ rest)
    (known_as cs rs ss ds ratings lines others files more gone (omega (arith, same)) (omega (arith, also)))

module _ (cs : List GateCondition) (v : MatchingVersion) (file : File) (now before : List Placed) (change : Option GatedChange) where
  abbrev with_change : Matched
  with_change = matched_in v file change now before

  abbrev without : Matched
  without = matched_in v file None now before

  inside_same : (scope : Scope) → length (inside_in scope cs with_change) ≡ length (inside_in scope cs without)
  inside_same scope = inside_if file now scope change (asks_scope scope cs) ∙ sym (inside_if file now scope None (asks_scope scope cs))

  pub same_decided : (ruling_in cs with_change).known ≡ (ruling_in cs without).known
  same_decided =
      let gone = absent_results cs without in
      map-append (is_known cs) (current_results cs with_change) gone
      ∙ ap (λ l. l ++ map (is_known cs) gone)
      (known_as cs without.records without.states without.drafts (current_ratings cs without) (inside_in Lines cs with_change) (inside_in Lines cs without)
      (inside_in Files cs with_change) (inside_in Files cs without) (for_each false without.drafts) (inside_same Lines) (inside_same Files))
      ∙ sym (map-append (is_known cs) (current_results cs without) gone)

-- ---- the known log

module _ (cs : List GateCondition) (checks : Checks) (file : File) (bytes : Option (List ℕ)) (policy : Policy) (now before : List Placed) (knowing : Knowing) where
  abbrev xs : List Placed
  xs = counted_if checks.once now

  abbrev ys : List Placed
  ys = counted_if checks.once before

  abbrev log_with_known : List Bool → KnownLog
  log_with_known known =
      remembered (record (checked_merge checks file bytes None policy xs ys) {
        policy = any_policy;
        standings = with_hits (standings_of checks.matching (records_of xs) (records_of ys)) (take (length (limited_records file xs)) known);
      }) knowing

  pub known_by_conditions : (change : Option GatedChange) (choice : Option Choosing)
      → remembered (merge_by (Some cs) checks file bytes change policy choice now before) knowing
      ≡ remembered (merge_by (Some cs) checks file bytes None policy choice now before) knowing
  known_by_conditions change None = ap log_with_known (same_decided cs checks.matching file xs ys change)
  known_by_conditions change (Some choosing) = ap log_with_known (same_decided cs checks.matching file xs ys change)
