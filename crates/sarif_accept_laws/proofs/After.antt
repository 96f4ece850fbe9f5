-- What a longer file makes of results.
use Rattle.std.proofs.Common.{◌≡◌, ◌⊎◌, inl, inr, ℕ, ◌<◌, zero, suc, Bool, true, false, ◌&&◌, ◌||◌, not, List, [], ◌∷◌, ◌++◌, length, map, get_or, Option, None, refl, sym, ap, ◌∙◌, arith, if◌then◌else◌, true≢false, append_assoc, append-nil}
use Rattle.std.specs.Prelude.{filter}
use Rattle.std.specs.List.{list_any, list_all}
use Rattle.std.proofs.lemmas.List.{get_or-map, length-map, map-append}
use Rattle.std.proofs.lemmas.List.Elements.{filter-append}
use Rattle.std.proofs.lemmas.List.Folds.{list_all-append, list_any-append, list_any_at}
use Rattle.std.proofs.lemmas.Bool.{or_right, or_left, and_parts}
use Rattle.serde_json.specs.Data.{Data}
use Rattle.sarif_model.specs.declared.kinds.State.{State}
use Rattle.sarif_model.specs.declared.kinds.Status.{Status}
use Rattle.sarif_model.specs.declared.kinds.Status.TheVariants.{Accepted}
use Rattle.sarif_model.specs.declared.record.Record.{Record}
use Rattle.sarif_model.specs.Status.{is_accepted}
use Rattle.sarif_entries.specs.declared.entry.Entry.{Entry}
use Rattle.sarif_entries.specs.declared.condition.Condition.{Condition}
use Rattle.sarif_entries.specs.declared.condition.ConditionKind.TheVariants as kinds
use Rattle.sarif_entries.specs.Condition.{text_in}
use Rattle.sarif_entries.specs.File.{File}
use Rattle.sarif_entries.specs.Matching.{is_empty, matches, is_admitted, is_expired, hold}
use Rattle.sarif_suppress.specs.Suppressing.{matching, statuses_suppress, statuses_of, is_suppressed, is_unused}
use Rattle.sarif_entries.specs.Object.{is_object_of, object_of}
use Rattle.sarif_suppress.specs.Written.{with_object, with_objects, suppressions_of}
use Rattle.sarif_suppress.proofs.Numbered.{is_empty-append}
use Rattle.sarif_evidence.specs.Seen.{as_matched}
use Rattle.sarif_accept.specs.Entry.{conditions_for}
use Rattle.sarif_accept.specs.Keeping.{Heard, is_kept}
use Rattle.sarif_accept.specs.Adding.{as_read, How, MayBeHit, is_hit, stays, is_said, once_each, entry_read, accepted_among, added_for, file_after}
use Rattle.sarif_accept.specs.Choosing.{entries_read, file_adding, is_met}
use Rattle.sarif_accept.specs.Until.{IsUntil}
use Rattle.sarif_accept_laws.proofs.EntryMatches.{any_as, matches_is}
use Rattle.sarif_accept_laws.proofs.SameConditions.{same_conditions-Decides}

-- ---- results that are accepted by one entry

-- the entry of these conditions, as it is read
abbrev read_with : List Condition → Option (List ℕ) → Option ℕ → Entry
read_with cs reason until = record { conditions = map as_read cs; expires = until; status = Accepted; justification = reason; limit = None }

-- an entry that is made for another result that asks the same matches this one
pub said_matches : (today : Option ℕ) (reason : Option (List ℕ)) (until : Option ℕ) (r : Record) (rs : List Record) → IsUntil today until
    → list_any (is_said r) rs ≡ true → list_any (λ e. matches today e r) (map (λ x. entry_read x reason until) rs) ≡ true
said_matches today reason until r [] is said = said
said_matches today reason until r (x ∷ xs) is said =
    elim (is_said r x) as (λ b. is_said r x ≡ b → (b || list_any (is_said r) xs) ≡ true
    → (matches today (entry_read x reason until) r || list_any (λ e. matches today e r) (map (λ x. entry_read x reason until) xs)) ≡ true) [
      | true ↦ λ same _.
          let conditions : conditions_for x ≡ conditions_for r = (same_conditions-Decides (conditions_for x) (conditions_for r)).0 same in
          or_left (matches today (entry_read x reason until) r) _
          (ap (λ cs. matches today (read_with cs reason until) r) conditions ∙ matches_is r reason today until is)
      | false ↦ λ _ more. or_right _ _ (said_matches today reason until r xs is more)
    ] refl said

-- a record that is among the earlier ones is still found
found_before : (q : Record → Bool) (before rs : List Record) → list_any q before ≡ true → list_any q (before ++ once_each before rs) ≡ true
found_before q before rs is = list_any-append q before (once_each before rs) ∙ or_left _ _ is

said_itself : (r : Record) → is_said r r ≡ true
said_itself r = (same_conditions-Decides (conditions_for r) (conditions_for r)).1 refl

-- each result asks the same as one of those that are left once
pub once_said : (before rs : List Record) (r : Record) (i : ℕ) → i < length rs → get_or rs i r ≡ r → list_any (is_said r) (before ++ once_each before rs) ≡ true
once_said before [] r i within is = absurd (omega arith)
once_said before (x ∷ xs) r zero within is =
    elim (list_any (is_said x) before) as
    (λ b. list_any (is_said x) before ≡ b
    → list_any (is_said r) (before ++ (if b then once_each before xs else x ∷ once_each (before ++ x ∷ []) xs)) ≡ true) [
      | true ↦ λ there. found_before (is_said r) before xs (rw (← is) there)
      | false ↦ λ _. list_any-append (is_said r) before (x ∷ once_each (before ++ x ∷ []) xs)
          ∙ or_right (list_any (is_said r) before) _ (or_left (is_said r x) _ (ap (is_said r) is ∙ said_itself r))
    ] refl
once_said before (x ∷ xs) r (suc i) within is =
    elim (list_any (is_said x) before) as
    (λ b. list_any (is_said x) before ≡ b
    → list_any (is_said r) (before ++ (if b then once_each before xs else x ∷ once_each (before ++ x ∷ []) xs)) ≡ true) [
      | true ↦ λ there. once_said before xs r i (omega arith) is
      | false ↦ λ _. ap (list_any (is_said r)) (sym (append_assoc before (x ∷ []) (once_each (before ++ x ∷ []) xs)))
          ∙ once_said (before ++ x ∷ []) xs r i (omega arith) is
    ] refl

-- a hit that doesn't stay is among those that are accepted
pub among_accepted : (counts : MayBeHit) (file : File) (rs : List Record) (states : List State) (r : Record) (state : State) (i : ℕ)
    → i < length rs → i < length states → get_or rs i r ≡ r → get_or states i state ≡ state
    → (is_hit counts file r state && not (stays file r)) ≡ true
    → (j : ℕ) × (j < length (accepted_among counts file rs states)) × (get_or (accepted_among counts file rs states) j r ≡ r)
among_accepted counts file [] states r state i within inside is at hit = absurd (omega arith)
among_accepted counts file (x ∷ xs) [] r state i within inside is at hit = absurd (omega arith)
among_accepted counts file (x ∷ xs) (s ∷ ss) r state zero within inside is at hit =
    rw (is, at, hit) (0, omega arith, refl)
among_accepted counts file (x ∷ xs) (s ∷ ss) r state (suc i) within inside is at hit =
    let more = among_accepted counts file xs ss r state i (omega arith) (omega arith) is at hit in
    elim (is_hit counts file x s && not (stays file x)) as
    (λ b. let all = if b then x ∷ accepted_among counts file xs ss else accepted_among counts file xs ss in (j : ℕ) × (j < length all)
    × (get_or all j r ≡ r)) [
      | true ↦ (suc more.0, omega (arith, more.1), more.2)
      | false ↦ more
    ]

-- ---- suppressed by the longer file

-- a pruned entry matches no current result
keeps_matching : (prune : Bool) (heard : Heard) (file : File) (rs : List Record) (r : Record) (i : ℕ) → i < length rs → get_or rs i r ≡ r
    → (e : Entry) → matches file.today e r ≡ true → is_kept prune heard file rs e ≡ true
keeps_matching prune heard file rs r i within is e fits =
    let met = and_parts (is_admitted e.limit r) _ fits in
    let unexpired = and_parts (not (is_expired file.today e)) (hold e.conditions r) met.1 in
    let used : list_any (λ x. matches file.today e x) rs ≡ true = list_any_at (λ x. matches file.today e x) rs i r within (rw is fits) in
    ap (λ b. not (prune && (is_expired file.today e || (not b && heard (text_in kinds.Tool e.conditions))))) used
    ∙ by_tests prune (is_expired file.today e) unexpired.0
  where
    by_tests : (p x : Bool) → not x ≡ true → not (p && (x || false)) ≡ true
    by_tests p true e = absurd (true≢false (sym e))
    by_tests true false e = refl
    by_tests false false e = refl

filter_kept : (keep test : Entry → Bool) (es : List Entry) → ((e : Entry) → test e ≡ true → keep e ≡ true) → filter test (filter keep es) ≡ filter test es
filter_kept keep test [] all = refl
filter_kept keep test (e ∷ es) all =
    let more = filter_kept keep test es all in
    elim (test e) as (λ t. test e ≡ t
    → filter test (if keep e then e ∷ filter keep es else filter keep es) ≡ (if t then e ∷ filter test es else filter test es)) [
      | true ↦ λ yes. rw (all e yes, yes) (ap (λ l. e ∷ l) more)
      | false ↦ λ no. elim (keep e) as
          (λ k. filter test (if k then e ∷ filter keep es else filter keep es) ≡ filter test es) [ true ↦ rw no more | false ↦ more ]
    ] refl

-- the entries that match a current result are those of before, and then those of the added that do
pub matching_adding : (how : How) (file : File) (rs added : List Record) (r : Record) (i : ℕ) → i < length rs → get_or rs i r ≡ r
    → matching (file_adding how file rs added) r ≡ matching file r ++ filter (λ e. matches file.today e r) (entries_read how added)
matching_adding how file rs added r i within is =
    let test : Entry → Bool = λ e. matches file.today e r in
    let made = entries_read how added in
    filter-append test (filter (is_kept how.renewal.prune how.heard file rs) file.entries) made
    ∙ ap (λ l. l ++ filter test made)
    (filter_kept (is_kept how.renewal.prune how.heard file rs) test file.entries
    (keeps_matching how.renewal.prune how.heard file rs r i within is))

matching_after : (how : How) (counts : MayBeHit) (file : File) (rs : List Record) (states : List State) (r : Record) (i : ℕ) → i < length rs → get_or rs i r ≡ r
    → matching (file_after how counts file rs states) r
    ≡ matching file r ++ filter (λ e. matches file.today e r)
    (map (λ x. entry_read x how.renewal.reason how.renewal.until) (added_for how counts file rs states))
matching_after how counts file rs states r i within is = matching_adding how file rs (added_for how counts file rs states) r i within is

-- statuses of entries that are made are accepted
made_accepted : (test : Entry → Bool) (reason : Option (List ℕ)) (until : Option ℕ) (rs : List Record)
    → list_all is_accepted (map (λ e. e.status) (filter test (map (λ x. entry_read x reason until) rs))) ≡ true
made_accepted test reason until [] = refl
made_accepted test reason until (x ∷ xs) =
    elim (test (entry_read x reason until)) as
    (λ b. list_all is_accepted
    (map (λ e. e.status)
    (if b then entry_read x reason until ∷ filter test (map (λ x. entry_read x reason until) xs) else filter test
    (map (λ x. entry_read x reason until) xs))) ≡ true)
    [ true ↦ made_accepted test reason until xs | false ↦ made_accepted test reason until xs ]

none_made : (test : Entry → Bool) (es : List Entry) → is_empty (map (λ e. e.status) (filter test es)) ≡ not (list_any test es)
none_made test [] = refl
none_made test (e ∷ es) =
    elim (test e) as (λ b. is_empty (map (λ e. e.status) (if b then e ∷ filter test es else filter test es)) ≡ not (b || list_any test es))
    [ true ↦ refl | false ↦ none_made test es ]

-- with more statuses that are all accepted
with_accepted : (old new : List Status) → list_all is_accepted new ≡ true
    → statuses_suppress (old ++ new) ≡ (statuses_suppress old || (list_all is_accepted old && not (is_empty new)))
with_accepted old new all =
    rw (is_empty-append old new, list_all-append is_accepted old new, all) (by_tests (is_empty old) (list_all is_accepted old) (is_empty new))
  where
    by_tests : (a b c : Bool) → (not (a && c) && (b && true)) ≡ ((not a && b) || (b && not c))
    by_tests true true true = refl
    by_tests true true false = refl
    by_tests true false true = refl
    by_tests true false false = refl
    by_tests false true c = refl
    by_tests false false c = refl

-- a current result is suppressed afterwards where it was, or where all its suppressions are accepted and an added entry matches it
pub suppressed_adding : (how : How) (file : File) (rs added : List Record) (r : Record) (i : ℕ) → i < length rs → get_or rs i r ≡ r
    → is_suppressed (file_adding how file rs added) r
    ≡ (is_suppressed file r || (not (stays file r) && is_met file (entries_read how added) r))
suppressed_adding how file rs added r i within is =
    let test : Entry → Bool = λ e. matches file.today e r in
    let made = entries_read how added in
    let more = map (λ e. e.status) (filter test made) in
    let whole : statuses_of (file_adding how file rs added) r ≡ statuses_of file r ++ more =
    ap (λ es. r.held ++ map (λ e. e.status) es) (matching_adding how file rs added r i within is)
    ∙ ap (λ l. r.held ++ l) (map-append (λ e. e.status) (matching file r) (filter test made))
    ∙ sym (append_assoc r.held (map (λ e. e.status) (matching file r)) more) in
    ap statuses_suppress whole
    ∙ with_accepted (statuses_of file r) more (made_accepted test how.renewal.reason how.renewal.until added)
    ∙ ap (λ b. is_suppressed file r || (list_all is_accepted (statuses_of file r) && not b)) (none_made test made)
    ∙ twice (is_suppressed file r) (list_all is_accepted (statuses_of file r)) (list_any test made)
  where
    twice : (a b c : Bool) → (a || (b && not (not c))) ≡ (a || (not (not b) && c))
    twice true b c = refl
    twice false true true = refl
    twice false true false = refl
    twice false false c = refl

pub suppressed_after : (how : How) (counts : MayBeHit) (file : File) (rs : List Record) (states : List State) (r : Record) (i : ℕ)
    → i < length rs → get_or rs i r ≡ r
    → is_suppressed (file_after how counts file rs states) r
    ≡ (is_suppressed file r
    || (not (stays file r) && list_any (λ e. matches file.today e r)
    (map (λ x. entry_read x how.renewal.reason how.renewal.until) (added_for how counts file rs states))))
suppressed_after how counts file rs states r i within is =
    suppressed_adding how file rs (added_for how counts file rs states) r i within is

-- ---- the law of accepting, for one result

-- a current result that is a hit and doesn't stay is matched by an added entry
added_matches : (how : How) (counts : MayBeHit) (file : File) (rs : List Record) (states : List State) (r : Record) (state : State) (i : ℕ)
    → i < length rs → i < length states → get_or rs i r ≡ r → get_or states i state ≡ state
    → how.renewal.accept ≡ true → IsUntil file.today how.renewal.until → (is_hit counts file r state && not (stays file r)) ≡ true
    → list_any (λ e. matches file.today e r) (map (λ x. entry_read x how.renewal.reason how.renewal.until) (added_for how counts file rs states)) ≡ true
added_matches how counts file rs states r state i within inside is at accepts until hit =
    let place = among_accepted counts file rs states r state i within inside is at hit in
    let shown = as_matched how.matching in
    let accepted = accepted_among counts file rs states in
    let all = map shown accepted in
    let there : get_or all place.0 (shown r) ≡ shown r = get_or-map shown accepted place.0 r (shown r) place.1 ∙ ap shown place.2 in
    let inside_all : place.0 < length all = omega (arith, place.1, length-map accepted shown) in
    rw accepts
    (any_as how.matching file.today (map (λ x. entry_read x how.renewal.reason how.renewal.until) (once_each [] all)) r
    (said_matches file.today how.renewal.reason how.renewal.until (shown r) (once_each [] all) until
    (once_said [] all (shown r) place.0 inside_all there)))

-- the hits of afterwards are those of before that stay
pub hits_after : (how : How) (counts : MayBeHit) (file : File) (rs : List Record) (states : List State) (r : Record) (state : State) (i : ℕ)
    → i < length rs → i < length states → get_or rs i r ≡ r → get_or states i state ≡ state
    → how.renewal.accept ≡ true → IsUntil file.today how.renewal.until
    → is_hit counts (file_after how counts file rs states) r state ≡ (is_hit counts file r state && stays file r)
hits_after how counts file rs states r state i within inside is at accepts until =
    let m = list_any (λ e. matches file.today e r) (map (λ x. entry_read x how.renewal.reason how.renewal.until) (added_for how counts file rs states)) in
    ap (λ b. counts r state && not b) (suppressed_after how counts file rs states r i within is)
    ∙ by_tests (counts r state) (is_suppressed file r) (stays file r) m (added_matches how counts file rs states r state i within inside is at accepts until)
  where
    by_tests : (a b c m : Bool) → (((a && not b) && not c) ≡ true → m ≡ true) → (a && not (b || (not c && m))) ≡ ((a && not b) && c)
    by_tests true true c m so = refl
    by_tests true false true m so = refl
    by_tests true false false m so = rw (so refl) refl
    by_tests false b c m so = refl

-- a result that was suppressed is suppressed
pub still_suppressed : (how : How) (counts : MayBeHit) (file : File) (rs : List Record) (states : List State) (r : Record) (i : ℕ)
    → i < length rs → get_or rs i r ≡ r
    → is_suppressed file r ≡ true → is_suppressed (file_after how counts file rs states) r ≡ true
still_suppressed how counts file rs states r i within is was = suppressed_after how counts file rs states r i within is ∙ or_left (is_suppressed file r) _ was

-- ---- what is written

objects_behind : (list : List Data) (es : List Entry) → (rest : List Data) × (with_objects list es ≡ list ++ rest)
objects_behind list [] = ([], sym (append-nil list))
objects_behind list (e ∷ es) =
    elim (list_any (is_object_of e) list) as (λ b. (rest : List Data) × (with_objects (if b then list else list ++ object_of e ∷ []) es ≡ list ++ rest)) [
      | true ↦ objects_behind list es
      | false ↦ let more = objects_behind (list ++ object_of e ∷ []) es in (object_of e ∷ more.0, more.1 ∙ append_assoc list (object_of e ∷ []) more.0)
    ]

with_objects-append : (list : List Data) (es fs : List Entry) → with_objects list (es ++ fs) ≡ with_objects (with_objects list es) fs
with_objects-append list [] fs = refl
with_objects-append list (e ∷ es) fs = with_objects-append (with_object list e) es fs

-- the list of a current result begins with what it was
pub list_begins_adding : (how : How) (file : File) (rs added : List Record) (r : Record) (i : ℕ) (own : List Data)
    → i < length rs → get_or rs i r ≡ r
    → (rest : List Data) × (suppressions_of own (file_adding how file rs added) r ≡ suppressions_of own file r ++ rest)
list_begins_adding how file rs added r i own within is =
    let more = filter (λ e. matches file.today e r) (entries_read how added) in
    let behind = objects_behind (with_objects own (matching file r)) more in
    (behind.0, ap (with_objects own) (matching_adding how file rs added r i within is) ∙ with_objects-append own (matching file r) more ∙ behind.1)

pub list_begins : (how : How) (counts : MayBeHit) (file : File) (rs : List Record) (states : List State) (r : Record) (i : ℕ)
    (own : List Data) → i < length rs → get_or rs i r ≡ r
    → (rest : List Data) × (suppressions_of own (file_after how counts file rs states) r ≡ suppressions_of own file r ++ rest)
list_begins how counts file rs states r i own within is =
    list_begins_adding how file rs (added_for how counts file rs states) r i own within is

-- ---- pruning

pub same_list : (how : How) (counts : MayBeHit) (file : File) (rs : List Record) (states : List State) (r : Record) (i : ℕ)
    (own : List Data) → i < length rs → get_or rs i r ≡ r
    → how.renewal.accept ≡ false → suppressions_of own (file_after how counts file rs states) r ≡ suppressions_of own file r
same_list how counts file rs states r i own within is none =
    let nothing : added_for how counts file rs states ≡ [] = rw none refl in
    let test : Entry → Bool = λ e. matches file.today e r in
    ap (with_objects own) (matching_after how counts file rs states r i within is
    ∙ ap (λ l. matching file r ++ filter test (map (λ x. entry_read x how.renewal.reason how.renewal.until) l)) nothing ∙ append-nil (matching file r))

-- an entry that stays unused where the file was pruned isn't expired, and names no tool that was heard
pub unused_stays : (heard : Heard) (file : File) (rs : List Record) (e : Entry) → is_kept true heard file rs e ≡ true
    → is_unused file rs e ≡ true → (is_expired file.today e ≡ false) × (heard (text_in kinds.Tool e.conditions) ≡ false)
unused_stays heard file rs e kept unused =
    by_tests (is_expired file.today e) (is_unused file rs e) (heard (text_in kinds.Tool e.conditions)) kept unused
  where
    by_tests : (x u h : Bool) → not (x || (u && h)) ≡ true → u ≡ true → (x ≡ false) × (h ≡ false)
    by_tests true u h e f = absurd (true≢false (sym e))
    by_tests false true true e f = absurd (true≢false (sym e))
    by_tests false true false e f = (refl, refl)
    by_tests false false h e f = absurd (true≢false (sym f))

-- the other way: an entry stays if it isn't expired, and matches a result or names a tool that wasn't heard
pub unexpired_stays : (heard : Heard) (file : File) (rs : List Record) (e : Entry) → is_expired file.today e ≡ false
    → (is_unused file rs e ≡ false) ⊎ (heard (text_in kinds.Tool e.conditions) ≡ false)
    → is_kept true heard file rs e ≡ true
unexpired_stays heard file rs e valid why =
    by_tests (is_expired file.today e) (is_unused file rs e) (heard (text_in kinds.Tool e.conditions)) valid why
  where
    by_tests : (x u h : Bool) → x ≡ false → (u ≡ false) ⊎ (h ≡ false) → not (x || (u && h)) ≡ true
    by_tests true u h valid why = absurd (true≢false valid)
    by_tests false false h valid why = refl
    by_tests false true false valid why = refl
    by_tests false true true valid (inl used) = absurd (true≢false used)
    by_tests false true true valid (inr unheard) = absurd (true≢false unheard)
