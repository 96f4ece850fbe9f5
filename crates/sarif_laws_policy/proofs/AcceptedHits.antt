-- Accepting with a policy accepts the hits of its conditions.
use Rattle.std.proofs.Common.{◌≡◌, ℕ, Bool, true, false, not, ◌&&◌, List, [], ◌∷◌, ◌++◌, length, map, take, Option, Some, None, refl, sym, ap, ap₂, ◌∙◌, arith, if◌then◌else◌}
use Rattle.std.proofs.lemmas.Bool.{false≢true}
use Rattle.std.proofs.lemmas.List.{length-map, map-append}
use Rattle.std.proofs.Math.Seq.{take-append_seam}
use Rattle.std.specs.Prelude.{filter}
use Rattle.sarif_accept.specs.Adding.{accepted_among, may_hit, stays}
use Rattle.sarif_conditions.specs.Decided.{impact_of}
use Rattle.sarif_conditions.specs.Judged.{Judged}
use Rattle.sarif_counts.specs.declared.gate_verdict.Impact.{Impact}
use Rattle.sarif_deciding.specs.Matched.{Matched}
use Rattle.sarif_deciding.specs.Results.{absent_results, current_results, current_seen, judged_all, results_in, Seen}
use Rattle.sarif_deciding.specs.Ruling.{ruling_in}
use Rattle.sarif_entries.specs.File.{File}
use Rattle.sarif_model.specs.Level.{is_at_least}
use Rattle.sarif_model.specs.declared.kinds.Level.{Level}
use Rattle.sarif_model.specs.declared.kinds.Level.TheVariants.{NoLevel, Note, Warning, Error}
use Rattle.sarif_model.specs.declared.kinds.State.{State}
use Rattle.sarif_model.specs.declared.kinds.State.TheVariants.{New, Unchanged, Updated, Absent}
use Rattle.sarif_model.specs.declared.record.Record.{Record}
use Rattle.sarif_options.specs.declared.checks.Checks.{Checks}
use Rattle.sarif_options.specs.declared.policy.Policy.{Policy}
use Rattle.sarif_policy.specs.declared.condition.GateCondition.{GateCondition}
use Rattle.sarif_prepare.specs.Chosen.{chosen_merge, is_hit_by, is_no_hit, others_among}
use Rattle.sarif_prepare.specs.Ruled.{matched_in}
use Rattle.sarif_prepare.specs.Told.{any_policy}
use Rattle.sarif_read.specs.Unmarked.{unmarked}
use Rattle.sarif_results.specs.declared.draft.Draft.{Draft}
use Rattle.sarif_runs.specs.Placed.{Placed}
use Rattle.sarif_scope.specs.declared.gated.GatedChange.{GatedChange}
use Rattle.sarif_suppress.specs.Suppressing.{is_suppressed}
use Rattle.sarif_upkeep.specs.Renewed.{accepted_in}
use Rattle.sarif_deciding.proofs.Lengths.{current_seen_long}
use Rattle.sarif_laws_policy.specs.Accepted.{acceptable, current_hits}
use Rattle.sarif_laws_policy.specs.HaveRecords.{HaveRecords}
use Rattle.sarif_laws_policy.proofs.TellingAll.{current_many, drafts_many, drafts_spots, states_many}

-- ---- what conditions see of results

founds : (rs : List Record) (states : List State) (drafts : List Draft) (seen : List Seen) → length states ≡ length rs → length drafts ≡ length rs
    → length seen ≡ length rs → map (λ (r : Judged). r.found) (judged_all rs states drafts seen) ≡ rs
founds [] states drafts seen s d o = refl
founds (r ∷ rs) [] drafts seen s d o = absurd (omega (arith, s))
founds (r ∷ rs) (state ∷ states) [] seen s d o = absurd (omega (arith, d))
founds (r ∷ rs) (state ∷ states) (draft ∷ drafts) [] s d o = absurd (omega (arith, o))
founds (r ∷ rs) (state ∷ states) (draft ∷ drafts) (one ∷ seen) s d o =
    ap (λ l. r ∷ l) (founds rs states drafts seen (omega (arith, s)) (omega (arith, d)) (omega (arith, o)))

states_seen : (rs : List Record) (states : List State) (drafts : List Draft) (seen : List Seen) → length states ≡ length rs
    → length drafts ≡ length rs → length seen ≡ length rs → map (λ (r : Judged). r.state) (judged_all rs states drafts seen) ≡ states
states_seen [] [] drafts seen s d o = refl
states_seen [] (state ∷ states) drafts seen s d o = absurd (omega (arith, s))
states_seen (r ∷ rs) [] drafts seen s d o = absurd (omega (arith, s))
states_seen (r ∷ rs) (state ∷ states) [] seen s d o = absurd (omega (arith, d))
states_seen (r ∷ rs) (state ∷ states) (draft ∷ drafts) [] s d o = absurd (omega (arith, o))
states_seen (r ∷ rs) (state ∷ states) (draft ∷ drafts) (one ∷ seen) s d o =
    ap (λ l. state ∷ l) (states_seen rs states drafts seen (omega (arith, s)) (omega (arith, d)) (omega (arith, o)))

-- ---- what isn't hidden

kept_all : {X : Type 0} (hit : Judged → Bool) (of : Judged → X) (rs : List Judged)
    → unmarked (map (λ r. not (hit r)) rs) (map of rs) ≡ map of (filter hit rs)
kept_all hit of [] = refl
kept_all hit of (r ∷ rs) = by_hit (hit r) (kept_all hit of rs)
  where
    by_hit : (b : Bool) → unmarked (map (λ r. not (hit r)) rs) (map of rs) ≡ map of (filter hit rs)
        → unmarked (not b ∷ map (λ r. not (hit r)) rs) (of r ∷ map of rs) ≡ map of (if b then r ∷ filter hit rs else filter hit rs)
    by_hit true rest = ap (λ l. of r ∷ l) rest
    by_hit false rest = rest

-- ---- the hits that are accepted

least : (level : Level) → is_at_least NoLevel level ≡ true
least NoLevel = refl
least Note = refl
least Warning = refl
least Error = refl

any_hits : (state : State) (r : Record) → may_hit any_policy r state ≡ true
any_hits New r = least r.level
any_hits Unchanged r = least r.level
any_hits Updated r = least r.level
any_hits Absent r = least r.level

accept_one : (may suppressed staying : Bool) → may ≡ true → (r : Record) (xs ys : List Record) → xs ≡ ys
    → (if (may && not suppressed) && not staying then r ∷ xs else xs) ≡ (if not suppressed && not staying then r ∷ ys else ys)
accept_one true true staying is r xs ys same = same
accept_one true false true is r xs ys same = same
accept_one true false false is r xs ys same = ap (λ l. r ∷ l) same
accept_one false suppressed staying is r xs ys same = absurd (false≢true is)

found_if : (b : Bool) (r : Judged) (rs : List Judged)
    → map (λ (q : Judged). q.found) (if b then r ∷ rs else rs) ≡ (if b then r.found ∷ map (λ (q : Judged). q.found) rs else map (λ (q : Judged). q.found) rs)
found_if true r rs = refl
found_if false r rs = refl

accepted_all : (file : File) (rs : List Judged)
    → accepted_among (may_hit any_policy) file (map (λ (r : Judged). r.found) rs) (map (λ (r : Judged). r.state) rs) ≡ acceptable file rs
accepted_all file [] = refl
accepted_all file (r ∷ rs) =
    accept_one (may_hit any_policy r.found r.state) (is_suppressed file r.found) (stays file r.found) (any_hits r.state r.found) r.found
    (accepted_among (may_hit any_policy) file (map (λ (q : Judged). q.found) rs) (map (λ (q : Judged). q.state) rs)) (acceptable file rs)
    (accepted_all file rs)
    ∙ sym (found_if (not (is_suppressed file r.found) && not (stays file r.found)) r
    (filter (λ (q : Judged). not (is_suppressed file q.found) && not (stays file q.found)) rs))

-- ---- the merge

module _ (checks : Checks) (file : File) (change : Option GatedChange) (now before : List Placed) (cs : List GateCondition) (h : HaveRecords now before) where
  abbrev m : Matched
  m = matched_in checks.matching file change now before

  abbrev cur : List Judged
  cur = current_results cs m

  abbrev does : Judged → Option Impact
  does = impact_of cs (results_in cs m)

  abbrev hit : Judged → Bool
  hit r = is_hit_by (does r)

  not_hit : (rs : List Judged) → map is_no_hit (map does rs) ≡ map (λ r. not (hit r)) rs
  not_hit [] = refl
  not_hit (r ∷ rs) = ap (λ l. not (hit r) ∷ l) (not_hit rs)

  drafts : length m.drafts ≡ length m.records
  drafts = drafts_many checks.matching file change now before cs h

  states : length m.states ≡ length m.records
  states = states_many checks.matching file change now before cs h

  seen : length (current_seen cs m) ≡ length m.records
  seen = current_seen_long cs m (drafts_spots checks.matching file change now before cs h) ∙ drafts

  as_many : length m.records ≡ length (map does cur)
  as_many = sym drafts ∙ sym (current_many checks.matching file change now before cs h) ∙ sym (length-map cur does)

  hidden_is : others_among (length m.records) (ruling_in cs m) ≡ map (λ r. not (hit r)) cur
  hidden_is =
      ap (λ is. map is_no_hit (take (length m.records) is)) (map-append does cur (absent_results cs m))
      ∙ ap (λ n. map is_no_hit (take n (map does cur ++ map does (absent_results cs m)))) as_many
      ∙ ap (map is_no_hit) (take-append_seam (map does cur) (map does (absent_results cs m)))
      ∙ not_hit cur

  -- there is a mark for each record
  pub hidden_long : length (others_among (length m.records) (ruling_in cs m)) ≡ length m.records
  hidden_long = ap length hidden_is ∙ length-map cur (λ r. not (hit r)) ∙ sym (length-map cur does) ∙ sym as_many

  records_left : unmarked (others_among (length m.records) (ruling_in cs m)) m.records ≡ map (λ (r : Judged). r.found) (filter hit cur)
  records_left =
      ap (λ marks. unmarked marks m.records) hidden_is
      ∙ ap (unmarked (map (λ r. not (hit r)) cur)) (sym (founds m.records m.states m.drafts (current_seen cs m) states drafts seen))
      ∙ kept_all hit (λ (r : Judged). r.found) cur

  states_left : unmarked (others_among (length m.records) (ruling_in cs m)) m.states ≡ map (λ (r : Judged). r.state) (filter hit cur)
  states_left =
      ap (λ marks. unmarked marks m.states) hidden_is
      ∙ ap (unmarked (map (λ r. not (hit r)) cur)) (sym (states_seen m.records m.states m.drafts (current_seen cs m) states drafts seen))
      ∙ kept_all hit (λ (r : Judged). r.state) cur

pub accepted_hits : (checks : Checks) (file : File) (bytes : Option (List ℕ)) (change : Option GatedChange) (policy : Policy) (now before : List Placed)
    (cs : List GateCondition) → HaveRecords now before
    → accepted_in (chosen_merge (Some cs) checks file bytes change policy None now before)
    ≡ acceptable file (current_hits cs (matched_in checks.matching file change now before))
accepted_hits checks file bytes change policy now before cs h =
    ap₂ (λ rs states. accepted_among (may_hit any_policy) file rs states) (records_left checks file change now before cs h)
    (states_left checks file change now before cs h)
    ∙ accepted_all file (filter (λ r. is_hit_by (impact_of cs (results_in cs (matched_in checks.matching file change now before)) r))
    (current_results cs (matched_in checks.matching file change now before)))
