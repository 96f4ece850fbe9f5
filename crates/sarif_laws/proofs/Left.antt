-- What is left of a result in the next merge.
use Rattle.std.proofs.Common.{◌≡◌, Bool, true, false, ◌&&◌, ◌||◌, not, List, [], ◌∷◌, ◌++◌, map, codes, bytes_eq, refl, sym, ap, ◌∙◌, append-nil, true≢false}
use Rattle.std.specs.Prelude.{Result, Ok, Err, option_and_then}
use Rattle.std.specs.List.{list_all}
use Rattle.serde_json.specs.Data.{Data, null, boolean, number, string, array, object, Items, Members}
use Rattle.serde_json.specs.Find.{as_str}
use Rattle.serde_json.specs.View.{items_of}
use Rattle.sarif_model.specs.declared.fault.Fault.{Fault}
use Rattle.sarif_model.specs.declared.kinds.Level.{Level}
use Rattle.sarif_model.specs.declared.kinds.State.{State}
use Rattle.sarif_model.specs.declared.kinds.Status.{Status}
use Rattle.sarif_model.specs.declared.record.Record.{Record}
use Rattle.sarif_model.specs.Members.{◌>>=◌, elements, read_each, result_map}
use Rattle.sarif_model.specs.Run.{is_absent_result, is_text}
use Rattle.sarif_model.specs.State.{state_name}
use Rattle.sarif_model.specs.Suppression.{status_of}
use Rattle.sarif_options.specs.declared.policy.Policy.{Policy}
use Rattle.sarif_counts.specs.CountOf.{items_in}
use Rattle.sarif_model.specs.Level.{is_at_least}
use Rattle.sarif_model.proofs.Elements.{items_back}
use Rattle.sarif_model.specs.Status.{is_accepted}
use Rattle.sarif_options.specs.Policy.{is_listed}
use Rattle.sarif_findings.specs.Reported.{is_active, level_in}
use Rattle.sarif_entries.specs.File.{File}
use Rattle.sarif_entries.specs.Matching.{is_empty}
use Rattle.sarif_suppress.specs.Suppressing.{is_suppressed, matching, statuses_of, statuses_suppress}
use Rattle.sarif_suppress.specs.Written.{suppressions_of}
use Rattle.sarif_suppress.proofs.Numbered.{is_empty-append}
use Rattle.sarif_suppress.proofs.WrittenList.{written_empty}
use Rattle.sarif_suppress.proofs.ReadBack.{read_back, empty_map}
use Rattle.sarif_results.specs.Annotated.{annotated_members, own_suppressions}
use Rattle.sarif_results.proofs.AnnotatedResult.{list_found, state_found}
use Rattle.sarif_results.proofs.CountedAgain.{counted_again}
use Rattle.sarif_log.specs.LogBy.{listing_of}
use Rattle.sarif_log.specs.MergedRuns.{written}
use Rattle.sarif_log.proofs.Told.{active_told, level_told, state_told}
use Rattle.sarif_accept.specs.Adding.{is_hit, may_hit, stays}
use Rattle.sarif_results.specs.Drafts.{IsObject}
use Rattle.sarif_laws.specs.Accepting.{IsLeft}
use Rattle.sarif_laws.specs.Choosing.{IsKept}
use Rattle.sarif_laws.specs.Hits.{fails_on, is_hit_in, lists, stays_in, suppressions_listed}
use Rattle.sarif_laws.proofs.Read.{IsRead, statuses_read}

-- a result that is written as before
pub left_same : (policy : Policy) (d : Data) → is_hit_in policy d ≡ stays_in policy d → IsLeft policy d d
left_same policy d stay = record {
  hit = stay;
  suppressed = λ is. is;
  level = refl;
  state = refl;
  suppressions = ([], sym (append-nil (suppressions_listed d)));
}

pub kept_same : (d : Data) → IsKept d d
kept_same d = record {
  suppressed = λ is. is;
  level = refl;
  state = refl;
  suppressions = ([], sym (append-nil (suppressions_listed d)));
}

-- ---- what is found in a written result

module _ (level : Level) (state : State) (list : Items) (ms : Members) where
  list_told : suppressions_listed (object (annotated_members level state list ms)) ≡ elements list
  list_told = ap (λ o. elements (items_in o)) (list_found level state list ms)

  pub absent_told : is_absent_result (object (annotated_members level state list ms)) ≡ bytes_eq (codes "absent") (state_name state)
  absent_told = ap (λ o. is_text (codes "absent") (option_and_then as_str o)) (state_found level state list ms)

-- ---- a hit that stays

none_read : (ds : List Data) (held : List Status) → read_each status_of ds ≡ Ok held → is_empty ds ≡ is_empty held
none_read [] held is = let same : [] ≡ held = cc in ap is_empty same
none_read (d ∷ ds) held is = by_first (status_of d) is
  where
    by_rest : (s : Status) (rest : Result (List Status) Fault) → result_map (λ ss. s ∷ ss) rest ≡ Ok held → false ≡ is_empty held
    by_rest s (Ok ss) is = let same : s ∷ ss ≡ held = cc in ap is_empty same
    by_rest s (Err fault) is = let never : ⊥ = cc in absurd never

    by_first : (first : Result Status Fault) → (first >>= λ s. result_map (λ ss. s ∷ ss) (read_each status_of ds)) ≡ Ok held → false ≡ is_empty held
    by_first (Ok s) is = by_rest s (read_each status_of ds) is
    by_first (Err fault) is = let never : ⊥ = cc in absurd never

by_statuses : (ss : List Status) → statuses_suppress ss ≡ false → not (is_empty ss) ≡ not (list_all is_accepted ss)
by_statuses [] active = refl
by_statuses (s ∷ ss) active = sym (ap not active)

-- a result that isn't suppressed has suppressions if and only if it stays
has_some : (file : File) (r : Record) (own : List Data) → read_each status_of own ≡ Ok r.held → is_suppressed file r ≡ false
    → not (is_empty (suppressions_of own file r)) ≡ stays file r
has_some file r own read active =
    let es = matching file r in
    ap not (written_empty own es ∙ ap (λ b. b && is_empty es) (none_read own r.held read) ∙ ap (λ b. is_empty r.held && b) (empty_map es)
    ∙ sym (is_empty-append r.held (map (λ e. e.status) es)))
    ∙ by_statuses (statuses_of file r) active

not_true : (b : Bool) → not b ≡ false → b ≡ true
not_true true is = refl
not_true false is = absurd (true≢false is)

stays_by : (a b c d : Bool) → (b ≡ false → c ≡ d) → ((a && not b) && (c || false)) ≡ ((a && not b) && d)
stays_by false b c d so = refl
stays_by true true c d so = refl
stays_by true false true d so = so refl
stays_by true false false d so = so refl

module _ (policy : Policy) (r : Record) (state : State) where
  module _ (file : File) (ms : Members) (read : read_each status_of (elements (own_suppressions ms)) ≡ Ok r.held) where
    active_by : is_active (object (annotated_members r.level state (items_of (suppressions_of (elements (own_suppressions ms)) file r)) ms))
        ≡ not (is_suppressed file r)
    active_by =
        active_told r.level state (items_of (suppressions_of (elements (own_suppressions ms)) file r)) ms
        ∙ ap not (counted_again read_back (elements (own_suppressions ms)) file r read)

    hit_by : is_hit_in policy (object (annotated_members r.level state (items_of (suppressions_of (elements (own_suppressions ms)) file r)) ms))
        ≡ is_hit (may_hit policy) file r state
    hit_by =
        let list = items_of (suppressions_of (elements (own_suppressions ms)) file r) in
        let d = object (annotated_members r.level state list ms) in
        ap (λ o. (lists policy o && fails_on policy (level_in d)) && is_active d) (state_told r.level state list ms)
        ∙ ap (λ o. (is_listed policy.states state && fails_on policy o) && is_active d) (level_told r.level state list ms)
        ∙ ap (λ b. (is_listed policy.states state && is_at_least policy.fail_on r.level) && b) active_by

    listed_by : suppressions_listed (object (annotated_members r.level state (items_of (suppressions_of (elements (own_suppressions ms)) file r)) ms))
        ≡ suppressions_of (elements (own_suppressions ms)) file r
    listed_by =
        list_told r.level state (items_of (suppressions_of (elements (own_suppressions ms)) file r)) ms
        ∙ items_back (suppressions_of (elements (own_suppressions ms)) file r)

    stays_when : bytes_eq (codes "absent") (state_name state) ≡ false
        → stays_in policy (object (annotated_members r.level state (items_of (suppressions_of (elements (own_suppressions ms)) file r)) ms))
        ≡ (is_hit (may_hit policy) file r state && stays file r)
    stays_when current =
        let own = elements (own_suppressions ms) in
        let list = items_of (suppressions_of own file r) in
        let d = object (annotated_members r.level state list ms) in
        ap (λ b. b && (not (is_empty (suppressions_listed d)) || is_absent_result d)) hit_by
        ∙ ap (λ l. is_hit (may_hit policy) file r state && (not (is_empty l) || is_absent_result d)) listed_by
        ∙ ap (λ b. is_hit (may_hit policy) file r state && (not (is_empty (suppressions_of own file r)) || b)) (absent_told r.level state list ms ∙ current)
        ∙ stays_by (may_hit policy r state) (is_suppressed file r) (not (is_empty (suppressions_of own file r))) (stays file r) (has_some file r own read)

  -- whether it is a hit, and one that stays
  module _ (file : File) where
    pub hit_written : (d : Data) → IsObject d → IsRead d r → is_hit_in policy (written (listing_of file) r state d) ≡ is_hit (may_hit policy) file r state
    hit_written null never read = absurd never
    hit_written (boolean b) never read = absurd never
    hit_written (number n) never read = absurd never
    hit_written (string s) never read = absurd never
    hit_written (array ds) never read = absurd never
    hit_written (object ms) is read = hit_by file ms (statuses_read ms r read)

    pub stays_written : bytes_eq (codes "absent") (state_name state) ≡ false → (d : Data) → IsObject d → IsRead d r
        → stays_in policy (written (listing_of file) r state d) ≡ (is_hit (may_hit policy) file r state && stays file r)
    stays_written current null never read = absurd never
    stays_written current (boolean b) never read = absurd never
    stays_written current (number n) never read = absurd never
    stays_written current (string s) never read = absurd never
    stays_written current (array ds) never read = absurd never
    stays_written current (object ms) is read = stays_when file ms (statuses_read ms r read) current

  module _ (old new : File)
      (still : is_suppressed old r ≡ true → is_suppressed new r ≡ true)
      (begins : (own : List Data) → (rest : List Data) × (suppressions_of own new r ≡ suppressions_of own old r ++ rest)) where
    -- a current result that has its suppressions of before, and perhaps others
    pub kept_by : (d : Data) → IsRead d r → IsKept (written (listing_of old) r state d) (written (listing_of new) r state d)
    kept_by null read = kept_same null
    kept_by (boolean b) read = kept_same (boolean b)
    kept_by (number n) read = kept_same (number n)
    kept_by (string s) read = kept_same (string s)
    kept_by (array ds) read = kept_same (array ds)
    kept_by (object ms) read =
        let own = elements (own_suppressions ms) in
        let before = items_of (suppressions_of own old r) in
        let after = items_of (suppressions_of own new r) in
        let held = statuses_read ms r read in
        record {
          suppressed = λ is. active_by new ms held ∙ ap not (still (not_true (is_suppressed old r) (sym (active_by old ms held) ∙ is)));
          level = level_told r.level state after ms ∙ sym (level_told r.level state before ms);
          state = state_told r.level state after ms ∙ sym (state_told r.level state before ms);
          suppressions = ((begins own).0, listed_by new ms held ∙ (begins own).1 ∙ ap (λ l. l ++ (begins own).0) (sym (listed_by old ms held)));
        }

  module _ (old new : File) (hits : is_hit (may_hit policy) new r state ≡ (is_hit (may_hit policy) old r state && stays old r))
      (still : is_suppressed old r ≡ true → is_suppressed new r ≡ true)
      (begins : (own : List Data) → (rest : List Data) × (suppressions_of own new r ≡ suppressions_of own old r ++ rest))
      (current : bytes_eq (codes "absent") (state_name state) ≡ false) where
    -- a current result
    pub left_by : (d : Data) → IsRead d r → IsLeft policy (written (listing_of old) r state d) (written (listing_of new) r state d)
    left_by null read = left_same policy null refl
    left_by (boolean b) read = left_same policy (boolean b) refl
    left_by (number n) read = left_same policy (number n) refl
    left_by (string s) read = left_same policy (string s) refl
    left_by (array ds) read = left_same policy (array ds) refl
    left_by (object ms) read =
        let held = statuses_read ms r read in
        let kept = kept_by old new still begins (object ms) read in
        record {
          hit = hit_by new ms held ∙ hits ∙ sym (stays_when old ms held current);
          suppressed = kept.suppressed;
          level = kept.level;
          state = kept.state;
          suppressions = kept.suppressions;
        }
