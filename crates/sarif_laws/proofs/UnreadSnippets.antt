-- Without entries that compare snippets, regions and snippets change nothing of a merge in version 2.
use Rattle.std.proofs.Common.{◌≡◌, ◌+◌, ◌++◌, ◌||◌, ◌&&◌, ℕ, zero, suc, Bool, false, not, cond, List, [], ◌∷◌, map, filter, length, take, drop, Option, Some, None, slice_get, slice_index_or, refl, sym, ap, ap₂, ◌∙◌, true≢false, if◌then◌else◌}
use Rattle.std.specs.Prelude.{count_by, is_some, nat_le}
use Rattle.std.specs.List.{AllByRecursion, AllZip, list_any, range_with_len}
use Rattle.std.specs.Option.{option_map_or}
use Rattle.std.proofs.lemmas.Bool.{or_parts}
use Rattle.std.proofs.lemmas.List.{drop-map, length-map, map-append, take-map}
use Rattle.std.proofs.lemmas.List.Sums.{sum_by-cons}
use Rattle.serde_json.specs.Data.{Data, null, boolean, number, string, array, object}
use Rattle.sarif_model.specs.declared.kinds.State.TheVariants.{Absent}
use Rattle.sarif_model.specs.declared.record.Record.{Record}
use Rattle.sarif_model.specs.Run.{present, results_of}
use Rattle.sarif_evidence.specs.Evidence.{state_in}
use Rattle.sarif_evidence.specs.declared.version.MatchingVersion.TheVariants.{Two}
use Rattle.sarif_entries.specs.Condition.{holds, text_in}
use Rattle.sarif_entries.specs.declared.condition.Condition.{Condition}
use Rattle.sarif_entries.specs.declared.condition.Condition.TheVariants.{Tool, RuleId, Uri, UriPrefix, Guid, Fingerprints, PartialFingerprints, Message, MessageId, MessageArguments, Snippet}
use Rattle.sarif_entries.specs.declared.condition.ConditionKind.TheVariants as kinds
use Rattle.sarif_entries.specs.declared.entry.Entry.{Entry}
use Rattle.sarif_entries.specs.declared.limit.Limit.{Limit}
use Rattle.sarif_entries.specs.File.{File}
use Rattle.sarif_entries.specs.Matching.{hold, is_admitted, is_expired, is_met, matches}
use Rattle.sarif_filing.specs.Numbers.{numbers_from}
use Rattle.sarif_inputs.specs.Snippets.{compares_snippets, names_snippet}
use Rattle.sarif_known_laws.proofs.BarePartners.{bare_both}
use Rattle.sarif_known_laws.proofs.BareRecords.{bare}
use Rattle.sarif_log.specs.LogBy.{listing_of, partner_in, states_from, states_of, taken_of}
use Rattle.sarif_log.specs.MergedRuns.{absent_runs, if_any, keep_if, unmatched, written}
use Rattle.sarif_match.specs.Partners.{is_taken, partners_of}
use Rattle.sarif_suppress.specs.Limited.{has_room_after, limited, limited_after, met_by, with_admitted}
use Rattle.sarif_suppress.specs.Suppressing.{is_unused, unused_of}
use Rattle.sarif_suppress.specs.Written.{with_objects}
use Rattle.sarif_laws.proofs.LaterResults.{IsAlike}

-- ---- conditions

-- a condition doesn't name a snippet
abbrev IsBlind : Condition → Type 0
IsBlind c = (r : Record) → holds c (bare r) ≡ holds c r

blind_each : (cs : List Condition) → is_some (text_in kinds.Snippet cs) ≡ false → AllByRecursion IsBlind cs
blind_each [] none = tt
blind_each (Tool text ∷ cs) none = ((λ r. refl), blind_each cs none)
blind_each (RuleId text ∷ cs) none = ((λ r. refl), blind_each cs none)
blind_each (Uri text ∷ cs) none = ((λ r. refl), blind_each cs none)
blind_each (UriPrefix prefix ∷ cs) none = ((λ r. refl), blind_each cs none)
blind_each (Guid guid ∷ cs) none = ((λ r. refl), blind_each cs none)
blind_each (Fingerprints pairs ∷ cs) none = ((λ r. refl), blind_each cs none)
blind_each (PartialFingerprints pairs ∷ cs) none = ((λ r. refl), blind_each cs none)
blind_each (Message text ∷ cs) none = ((λ r. refl), blind_each cs none)
blind_each (MessageId id ∷ cs) none = ((λ r. refl), blind_each cs none)
blind_each (MessageArguments texts ∷ cs) none = ((λ r. refl), blind_each cs none)
blind_each (Snippet text ∷ cs) none = absurd (true≢false none)

hold_bare : (cs : List Condition) (r : Record) → AllByRecursion IsBlind cs → hold cs (bare r) ≡ hold cs r
hold_bare [] r blind = refl
hold_bare (c ∷ cs) r blind = ap₂ (λ a b. a && b) (blind.0 r) (hold_bare cs r blind.1)

-- ---- entries

-- an entry reads no snippet
abbrev IsBlindEntry : Option ℕ → Entry → Type 0
IsBlindEntry today e = (r : Record) → is_met today e (bare r) ≡ is_met today e r

blind_entry : (today : Option ℕ) (e : Entry) → names_snippet e ≡ false → IsBlindEntry today e
blind_entry today e none = λ r. ap (λ b. not (is_expired today e) && b) (hold_bare e.conditions r (blind_each e.conditions none))

blind_entries : (today : Option ℕ) (es : List Entry) → list_any names_snippet es ≡ false → AllByRecursion (IsBlindEntry today) es
blind_entries today [] none = tt
blind_entries today (e ∷ es) none =
    let parts = or_parts (names_snippet e) (list_any names_snippet es) none in
    (blind_entry today e parts.0, blind_entries today es parts.1)

is_admitted_bare : (limit : Option Limit) (r : Record) → is_admitted limit (bare r) ≡ is_admitted limit r
is_admitted_bare None r = refl
is_admitted_bare (Some limit) r = refl

module _ (today : Option ℕ) where
  met_bare : (e : Entry) → IsBlindEntry today e → (rs : List Record) → met_by today e (map bare rs) ≡ met_by today e rs
  met_bare e blind [] = refl
  met_bare e blind (r ∷ rs) =
      sum_by-cons (λ x. cond (is_met today e x) 1 0) (bare r) (map bare rs)
      ∙ ap₂ (λ b n. cond b 1 0 + n) (blind r) (met_bare e blind rs)
      ∙ sym (sum_by-cons (λ x. cond (is_met today e x) 1 0) r rs)

  room_bare : (e : Entry) → IsBlindEntry today e → (before : List Record) (r : Record)
      → (is_met today e (bare r) && has_room_after today (map bare before) e) ≡ (is_met today e r && has_room_after today before e)
  room_bare e blind before r =
      ap₂ (λ a n. a && (is_some e.limit && not (option_map_or (λ limit. nat_le limit.most n) e.limit false))) (blind r) (met_bare e blind before)

  numbers_bare : (n : ℕ) (es : List Entry) → AllByRecursion (IsBlindEntry today) es → (before : List Record) (r : Record)
      → numbers_from (λ e. is_met today e (bare r) && has_room_after today (map bare before) e) n es
      ≡ numbers_from (λ e. is_met today e r && has_room_after today before e) n es
  numbers_bare n [] blind before r = refl
  numbers_bare n (e ∷ es) blind before r =
      ap₂ (λ b ns. if b then n ∷ ns else ns) (room_bare e blind.0 before r) (numbers_bare (n + 1) es blind.1 before r)

  matches_bare : (e : Entry) → IsBlindEntry today e → (r : Record) → matches today e (bare r) ≡ matches today e r
  matches_bare e blind r = ap₂ (λ a b. a && b) (is_admitted_bare e.limit r) (blind r)

  matching_bare : (es : List Entry) → AllByRecursion (IsBlindEntry today) es → (r : Record)
      → filter (λ e. matches today e (bare r)) es ≡ filter (λ e. matches today e r) es
  matching_bare [] blind r = refl
  matching_bare (e ∷ es) blind r = ap₂ (λ b xs. cond b (e ∷ xs) xs) (matches_bare e blind.0 r) (matching_bare es blind.1 r)

  any_bare : (e : Entry) → IsBlindEntry today e → (rs : List Record) → list_any (λ r. matches today e r) (map bare rs) ≡ list_any (λ r. matches today e r) rs
  any_bare e blind [] = refl
  any_bare e blind (r ∷ rs) = ap₂ (λ a b. a || b) (matches_bare e blind r) (any_bare e blind rs)

-- ---- the file

module _ (file : File) (none : compares_snippets file ≡ false) where
  blind : AllByRecursion (IsBlindEntry file.today) file.entries
  blind = blind_entries file.today file.entries none

  limited_bare_after : (before rs : List Record) → limited_after file (map bare before) (map bare rs) ≡ map bare (limited_after file before rs)
  limited_bare_after before [] = refl
  limited_bare_after before (r ∷ rs) =
      ap₂ (λ ns more. with_admitted (bare r) ns ∷ more) (numbers_bare file.today 0 file.entries blind before r)
      (ap (λ l. limited_after file l (map bare rs)) (sym (map-append bare before (r ∷ []))) ∙ limited_bare_after (before ++ r ∷ []) rs)

  -- the same entries admit each result
  pub limited_bare : (rs : List Record) → limited file (map bare rs) ≡ map bare (limited file rs)
  limited_bare rs = limited_bare_after [] rs

  -- each result has the same suppressions
  pub listed_bare : (rs : List Record) → AllZip (IsAlike (listing_of file) (listing_of file)) (map bare rs) rs
  listed_bare [] = tt
  listed_bare (r ∷ rs) = (
    record { level = refl; listed = λ own. ap (with_objects own) (matching_bare file.today file.entries blind r) },
    listed_bare rs,
  )

  unused_from : (es : List Entry) → AllByRecursion (IsBlindEntry file.today) es → (rs : List Record)
      → count_by (is_unused file (map bare rs)) es ≡ count_by (is_unused file rs) es
  unused_from [] each rs = refl
  unused_from (e ∷ es) each rs =
      sum_by-cons (λ x. cond (is_unused file (map bare rs) x) 1 0) e es
      ∙ ap₂ (λ b n. cond (not b) 1 0 + n) (any_bare file.today e each.0 rs) (unused_from es each.1 rs)
      ∙ sym (sum_by-cons (λ x. cond (is_unused file rs x) 1 0) e es)

  -- as many entries are unused
  pub unused_bare : (rs : List Record) → unused_of file (map bare rs) ≡ unused_of file rs
  unused_bare rs = unused_from file.entries blind rs

-- ---- states

bare_at : (bs : List Record) (partner : Option ℕ) (r : Record) → state_in Two (bare r) (partner_in (map bare bs) partner) ≡ state_in Two r (partner_in bs partner)
bare_at bs None r = refl
bare_at bs (Some j) r = found bs j
  where
    found : (bs : List Record) (j : ℕ) → state_in Two (bare r) (slice_get (map bare bs) j) ≡ state_in Two r (slice_get bs j)
    found [] j = refl
    found (b ∷ bs) zero = refl
    found (b ∷ bs) (suc j) = found bs j

bare_from : (bs : List Record) (partners : List (Option ℕ)) (n : ℕ) (rs : List Record)
    → states_from Two (map bare bs) partners n (map bare rs) ≡ states_from Two bs partners n rs
bare_from bs partners n [] = refl
bare_from bs partners n (r ∷ rs) = ap₂ (λ s ss. s ∷ ss) (bare_at bs (slice_index_or partners n None) r) (bare_from bs partners (n + 1) rs)

pub states_bare : (cs bs : List Record) → states_of Two (map bare cs) (map bare bs) ≡ states_of Two cs bs
states_bare cs bs = ap (λ partners. states_from Two (map bare bs) partners 0 (map bare cs)) (bare_both cs bs) ∙ bare_from bs (partners_of cs bs) 0 cs

pub taken_bare : (cs bs : List Record) → taken_of Two (map bare cs) (map bare bs) ≡ taken_of Two cs bs
taken_bare cs bs = ap₂ (λ partners n. map (is_taken partners) (range_with_len 0 n)) (bare_both cs bs) (length-map bs bare)

-- ---- absent results

same_written : (r : Record) (d : Data) → written (λ _ own. own) (bare r) Absent d ≡ written (λ _ own. own) r Absent d
same_written r null = refl
same_written r (boolean b) = refl
same_written r (number n) = refl
same_written r (string s) = refl
same_written r (array ds) = refl
same_written r (object ms) = refl

unmatched_bare : (rs : List Record) (taken : List Bool) (ds : List Data) → unmatched (map bare rs) taken ds ≡ unmatched rs taken ds
unmatched_bare [] taken ds = refl
unmatched_bare (r ∷ rs) [] ds = refl
unmatched_bare (r ∷ rs) (t ∷ taken) [] = refl
unmatched_bare (r ∷ rs) (t ∷ taken) (d ∷ ds) = ap₂ (λ x xs. keep_if (not t) x xs) (same_written r d) (unmatched_bare rs taken ds)

pub absent_bare : (rs : List Record) (taken : List Bool) (runs : List Data) → absent_runs (map bare rs) taken runs ≡ absent_runs rs taken runs
absent_bare rs taken [] = refl
absent_bare rs taken (run ∷ runs) =
    let ds = present (results_of run) in
    let n = length ds in
    ap₂ (λ xs more. if_any xs run more)
    (ap (λ l. unmatched l (take n taken) ds) (take-map bare n rs) ∙ unmatched_bare (take n rs) (take n taken) ds)
    (ap (λ l. absent_runs l (drop n taken) runs) (drop-map bare n rs) ∙ absent_bare (drop n rs) (drop n taken) runs)
