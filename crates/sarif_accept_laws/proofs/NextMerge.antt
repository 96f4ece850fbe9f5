-- What the new file makes of the results of the next merge, each at its place.
use Rattle.std.proofs.Common.{◌≡◌, ℕ, zero, suc, ◌<◌, Bool, true, false, not, ◌&&◌, List, [], ◌∷◌, ◌++◌, filter, length, get_or, Option, Some, Ok, refl, sym, ap, ◌∙◌, cond, append-nil}
use Rattle.std.specs.Prelude.{slice_get}
use Rattle.std.proofs.lemmas.Option.{get_or_from_slice_get, same_Some, slice_get_within}
use Rattle.serde_json.specs.Data.{Data}
use Rattle.sarif_model.specs.declared.kinds.State.{State}
use Rattle.sarif_model.specs.declared.record.Record.{Record}
use Rattle.sarif_options.specs.declared.policy.Policy.{Policy}
use Rattle.sarif_options.specs.Policy.{are_hits}
use Rattle.sarif_entries.specs.declared.condition.ConditionKind.TheVariants as kinds
use Rattle.sarif_entries.specs.declared.entry.Entry.{Entry}
use Rattle.sarif_entries.specs.Condition.{text_in}
use Rattle.sarif_entries.specs.File.{File}
use Rattle.sarif_entries.specs.Given.{file_or_none}
use Rattle.sarif_entries.specs.Matching.{is_expired}
use Rattle.sarif_suppress.specs.Limited.{limited, limited_after}
use Rattle.sarif_suppress.specs.Suppressing.{is_suppressed, is_unused, statuses_of, statuses_suppress}
use Rattle.sarif_suppress.specs.Written.{suppressions_of}
use Rattle.sarif_accept.specs.Adding.{How, added_for, is_hit, may_hit, stays}
use Rattle.sarif_accept.specs.Choosing.{entries_read, file_adding, is_left}
use Rattle.sarif_accept.specs.Keeping.{is_kept}
use Rattle.sarif_accept.specs.Until.{IsUntil}
use Rattle.sarif_accept_laws.specs.Next.{after_others, next_adding, next_file}
use Rattle.sarif_accept_laws.proofs.After.{hits_after, list_begins_adding, same_list, unused_stays}
use Rattle.sarif_accept_laws.proofs.AfterChosen.{hits_left, still_adding}
use Rattle.sarif_accept_laws.proofs.Next.{entry_before, given_numbered, same_statuses, same_suppressions, same_unused}

-- a result of both merges is one after the same others
both_at : (file next : File) (before rs : List Record) (i : ℕ) (r later : Record) → slice_get (limited_after file before rs) i ≡ Some r
    → slice_get (limited_after next before rs) i ≡ Some later
    → (front : List Record) × (own : Record) × (after_others file front own ≡ r) × (after_others next front own ≡ later)
both_at file next before [] i r later at there = let never : ⊥ = cc in absurd never
both_at file next before (x ∷ xs) zero r later at there = (
  before,
  x,
  same_Some (after_others file before x) r at,
  same_Some (after_others next before x) later there,
)
both_at file next before (x ∷ xs) (suc i) r later at there = both_at file next (before ++ x ∷ []) xs i r later at there

module _ (how : How) (given : Option (List ℕ)) (today : Option ℕ) (file : File) (rs added : List Record)
    (is : file_or_none given today ≡ Ok file) (i : ℕ) (r later : Record) (at : slice_get (limited file rs) i ≡ Some r) where
  abbrev whole : File
  whole = file_adding how file (limited file rs) added

  abbrev next : File
  next = next_adding how file (limited file rs) added

  inside : i < length (limited file rs)
  inside = slice_get_within (limited file rs) i r at

  own : get_or (limited file rs) i r ≡ r
  own = get_or_from_slice_get (limited file rs) i r r at

  module _ (there : slice_get (limited next rs) i ≡ Some later) where
    statuses_at : statuses_of next later ≡ statuses_of whole r
    statuses_at =
        let both = both_at file next [] rs i r later at there in
        ap (statuses_of next) (sym both.3)
        ∙ same_statuses how file (limited file rs) added (given_numbered given today file is) both.0 both.1 ∙ ap (statuses_of whole) both.2

    suppressions_at : (held : List Data) → suppressions_of held next later ≡ suppressions_of held whole r
    suppressions_at held =
        let both = both_at file next [] rs i r later at there in
        ap (suppressions_of held next) (sym both.3)
        ∙ same_suppressions how file (limited file rs) added (given_numbered given today file is) held both.0 both.1 ∙ ap (suppressions_of held whole) both.2

    hit_at : (policy : Policy) (state : State) → is_hit (may_hit policy) next later state ≡ is_hit (may_hit policy) whole r state
    hit_at policy state =
        let both = both_at file next [] rs i r later at there in
        let level : later.level ≡ r.level = ap (λ (x : Record). x.level) (sym both.3) ∙ ap (λ (x : Record). x.level) both.2 in
        ap (λ l. are_hits policy state l && not (statuses_suppress (statuses_of next later))) level
        ∙ ap (λ statuses. are_hits policy state r.level && not (statuses_suppress statuses)) statuses_at

    -- the hits are those that stay, or that no added entry matches
    pub left_at : (policy : Policy) (state : State)
        → is_hit (may_hit policy) next later state ≡ is_left (may_hit policy) file (entries_read how added) r state
    left_at policy state = hit_at policy state ∙ hits_left how (may_hit policy) file (limited file rs) added r state i inside own

    pub suppressed_at : is_suppressed file r ≡ true → is_suppressed next later ≡ true
    suppressed_at was = ap statuses_suppress statuses_at ∙ still_adding how file (limited file rs) added r i inside own was

    pub begins_at : (held : List Data) → (rest : List Data) × (suppressions_of held next later ≡ suppressions_of held file r ++ rest)
    begins_at held =
        let begins = list_begins_adding how file (limited file rs) added r i held inside own in
        (begins.0, suppressions_at held ∙ begins.1)

-- ---- accepting and pruning

module _ (how : How) (policy : Policy) (given : Option (List ℕ)) (today : Option ℕ) (file : File) (rs : List Record) (states : List State)
    (is : file_or_none given today ≡ Ok file) where
  abbrev added : List Record
  added = added_for how (may_hit policy) file (limited file rs) states

  abbrev after : File
  after = next_file how policy file rs states

  pub hit_stays : (i : ℕ) (r later : Record) (state : State) → slice_get (limited file rs) i ≡ Some r → slice_get (limited after rs) i ≡ Some later
      → slice_get states i ≡ Some state → how.renewal.accept ≡ true → IsUntil file.today how.renewal.until
      → is_hit (may_hit policy) after later state ≡ (is_hit (may_hit policy) file r state && stays file r)
  hit_stays i r later state at there said accepts until =
      hit_at how given today file rs added is i r later at there policy state
      ∙ hits_after how (may_hit policy) file (limited file rs) states r state i (slice_get_within (limited file rs) i r at)
      (slice_get_within states i state said) (get_or_from_slice_get (limited file rs) i r r at) (get_or_from_slice_get states i state state said)
      accepts until

  pub pruned_list : (i : ℕ) (r later : Record) (held : List Data) → slice_get (limited file rs) i ≡ Some r → slice_get (limited after rs) i ≡ Some later
      → how.renewal.accept ≡ false → suppressions_of held after later ≡ suppressions_of held file r
  pruned_list i r later held at there none =
      suppressions_at how given today file rs added is i r later at there held
      ∙ same_list how (may_hit policy) file (limited file rs) states r i held (slice_get_within (limited file rs) i r at)
      (get_or_from_slice_get (limited file rs) i r r at) none

  -- an entry that is kept
  in_kept : (keep : Entry → Bool) (es : List Entry) (n : ℕ) (e : Entry) → slice_get (filter keep es) n ≡ Some e → keep e ≡ true
  in_kept keep [] n e at = let never : ⊥ = cc in absurd never
  in_kept keep (x ∷ es) n e at = by_test (keep x) refl n at (λ k there. in_kept keep es k e there)
    where
      by_test : (b : Bool) → keep x ≡ b → (n : ℕ) → slice_get (cond b (x ∷ filter keep es) (filter keep es)) n ≡ Some e
          → ((k : ℕ) → slice_get (filter keep es) k ≡ Some e → keep e ≡ true) → keep e ≡ true
      by_test true kept zero at more = ap keep (sym (same_Some x e at)) ∙ kept
      by_test true kept (suc n) at more = more n at
      by_test false kept n at more = more n at

  -- the entries of a file that is pruned are unused in the next merge only if their tool wasn't heard
  pub pruned_unused : (n : ℕ) (e : Entry) → slice_get after.entries n ≡ Some e → how.renewal.prune ≡ true → how.renewal.accept ≡ false
      → is_unused after (limited after rs) e ≡ true
      → (is_expired file.today e ≡ false) × (how.heard (text_in kinds.Tool e.conditions) ≡ false)
  pruned_unused n e at prunes none unused =
      let keep : Entry → Bool = is_kept how.renewal.prune how.heard file (limited file rs) in
      let nothing : added ≡ [] = rw none refl in
      let whole : List Entry = (file_adding how file (limited file rs) added).entries in
      let kept : whole ≡ filter keep file.entries =
      ap (λ l. filter keep file.entries ++ entries_read how l) nothing ∙ append-nil (filter keep file.entries) in
      let own = entry_before 0 whole n e at in
      let old : Entry = own.0 in
      let among : slice_get (filter keep file.entries) n ≡ Some old = ap (λ l. slice_get l n) (sym kept) ∙ own.1 in
      let is_kept_here : is_kept true how.heard file (limited file rs) old ≡ true =
      ap (λ b. is_kept b how.heard file (limited file rs) old) (sym prunes) ∙ in_kept keep file.entries n old among in
      let was : is_unused file (limited file rs) old ≡ true =
      sym (same_unused how file (limited file rs) added (given_numbered given today file is) rs n old e own.1 at) ∙ unused in
      let stayed = unused_stays how.heard file (limited file rs) old is_kept_here was in (
        ap (is_expired file.today) own.2 ∙ stayed.0,
        ap (λ (x : Entry). how.heard (text_in kinds.Tool x.conditions)) own.2 ∙ stayed.1,
      )
