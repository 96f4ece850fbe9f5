-- An entry that compares no snippet matches a result without its region and its snippet as it matches the result.
use Rattle.std.proofs.Common.{◌≡◌, ◌+◌, ℕ, Bool, true, false, ◌&&◌, not, ◌||◌, cond, List, [], ◌∷◌, ◌++◌, map, fold, filter, Option, Some, None, if◌then◌else◌, refl, sym, ap, ap₂, ◌∙◌}
use Rattle.std.specs.Prelude.{is_some, nat_le}
use Rattle.std.specs.List.{list_all, list_any}
use Rattle.std.specs.Option.{option_map_or}
use Rattle.std.proofs.lemmas.Bool.{and_parts}
use Rattle.std.proofs.lemmas.List.{map-append}
use Rattle.serde_json.specs.Data.{Data}
use Rattle.sarif_entries.specs.declared.condition.Condition.{Condition}
use Rattle.sarif_entries.specs.declared.condition.Condition.TheVariants.{Tool, RuleId, Uri, UriPrefix, Guid, Fingerprints, PartialFingerprints, Message, MessageId, MessageArguments, Snippet}
use Rattle.sarif_entries.specs.Condition.{holds}
use Rattle.sarif_entries.specs.declared.entry.Entry.{Entry}
use Rattle.sarif_entries.specs.declared.limit.Limit.{Limit}
use Rattle.sarif_entries.specs.File.{File}
use Rattle.sarif_entries.specs.Matching.{hold, is_admitted, is_expired, is_met, matches}
use Rattle.sarif_filing.specs.Numbers.{numbers_from}
use Rattle.sarif_model.specs.declared.record.Record.{Record}
use Rattle.sarif_suppress.specs.Limited.{has_room_after, is_used_up_by, limited, limited_after, met_by, admitted_after, with_admitted}
use Rattle.sarif_suppress.specs.Suppressing.{is_unused, unused_of}
use Rattle.sarif_suppress.specs.Written.{suppressions_of, with_objects}
use Rattle.sarif_laws_once.specs.Snippets.{compares_no_snippet, compares_none, is_no_snippet}
use Rattle.sarif_known_laws.proofs.BareRecords.{bare}

-- ---- conditions

holds_bare : (c : Condition) (r : Record) → is_no_snippet c ≡ true → holds c (bare r) ≡ holds c r
holds_bare (Tool text) r is = refl
holds_bare (RuleId text) r is = refl
holds_bare (Uri text) r is = refl
holds_bare (UriPrefix prefix) r is = refl
holds_bare (Guid guid) r is = refl
holds_bare (Fingerprints pairs) r is = refl
holds_bare (PartialFingerprints pairs) r is = refl
holds_bare (Message text) r is = refl
holds_bare (MessageId id) r is = refl
holds_bare (MessageArguments texts) r is = refl
holds_bare (Snippet text) r is = let never : ⊥ = cc in absurd never

hold_bare : (cs : List Condition) (r : Record) → list_all is_no_snippet cs ≡ true → hold cs (bare r) ≡ hold cs r
hold_bare [] r none = refl
hold_bare (c ∷ cs) r none =
    let both = and_parts (is_no_snippet c) (list_all is_no_snippet cs) none in
    ap₂ (λ a b. a && b) (holds_bare c r both.0) (hold_bare cs r both.1)

-- ---- entries

met_bare : (today : Option ℕ) (e : Entry) (r : Record) → compares_none e ≡ true → is_met today e (bare r) ≡ is_met today e r
met_bare today e r none = ap (λ b. not (is_expired today e) && b) (hold_bare e.conditions r none)

-- the numbers of the entries that admit a result stay
is_admitted_bare : (limit : Option Limit) (r : Record) → is_admitted limit (bare r) ≡ is_admitted limit r
is_admitted_bare None r = refl
is_admitted_bare (Some limit) r = refl

matches_bare : (today : Option ℕ) (e : Entry) (r : Record) → compares_none e ≡ true → matches today e (bare r) ≡ matches today e r
matches_bare today e r none = ap₂ (λ a b. a && b) (is_admitted_bare e.limit r) (met_bare today e r none)

counted_bare : (test : Record → Bool) → ((r : Record) → test (bare r) ≡ test r) → (n : ℕ) (rs : List Record)
    → fold (λ m r. m + cond (test r) 1 0) n (map bare rs) ≡ fold (λ m r. m + cond (test r) 1 0) n rs
counted_bare test same n [] = refl
counted_bare test same n (r ∷ rs) =
    ap (λ b. fold (λ m q. m + cond (test q) 1 0) (n + cond b 1 0) (map bare rs)) (same r)
    ∙ counted_bare test same (n + cond (test r) 1 0) rs

met_by_bare : (today : Option ℕ) (e : Entry) (rs : List Record) → compares_none e ≡ true → met_by today e (map bare rs) ≡ met_by today e rs
met_by_bare today e rs none = counted_bare (is_met today e) (λ r. met_bare today e r none) 0 rs

used_bare : (today : Option ℕ) (rs : List Record) (e : Entry) → compares_none e ≡ true → is_used_up_by today (map bare rs) e ≡ is_used_up_by today rs e
used_bare today rs e none = ap (λ n. option_map_or (λ limit. nat_le limit.most n) e.limit false) (met_by_bare today e rs none)

any_bare : (today : Option ℕ) (e : Entry) (rs : List Record) → compares_none e ≡ true
    → list_any (λ r. matches today e r) (map bare rs) ≡ list_any (λ r. matches today e r) rs
any_bare today e [] none = refl
any_bare today e (r ∷ rs) none =
    ap₂ (λ a b. a || b) (matches_bare today e r none) (any_bare today e rs none)

-- ---- lists of entries

module _ (f g : Entry → Bool) (same : (e : Entry) → compares_none e ≡ true → f e ≡ g e) where
  numbers_same : (n : ℕ) (es : List Entry) → list_all compares_none es ≡ true → numbers_from f n es ≡ numbers_from g n es
  numbers_same n [] none = refl
  numbers_same n (e ∷ es) none =
      let both = and_parts (compares_none e) (list_all compares_none es) none in
      ap₂ (λ b ns. if b then n ∷ ns else ns) (same e both.0) (numbers_same (n + 1) es both.1)

  filter_same : (es : List Entry) → list_all compares_none es ≡ true → filter f es ≡ filter g es
  filter_same [] none = refl
  filter_same (e ∷ es) none =
      let both = and_parts (compares_none e) (list_all compares_none es) none in
      ap₂ (λ b xs. cond b (e ∷ xs) xs) (same e both.0) (filter_same es both.1)

  count_same : (n : ℕ) (es : List Entry) → list_all compares_none es ≡ true
      → fold (λ m e. m + cond (f e) 1 0) n es ≡ fold (λ m e. m + cond (g e) 1 0) n es
  count_same n [] none = refl
  count_same n (e ∷ es) none =
      let both = and_parts (compares_none e) (list_all compares_none es) none in
      ap (λ b. fold (λ m x. m + cond (f x) 1 0) (n + cond b 1 0) es) (same e both.0)
      ∙ count_same (n + cond (g e) 1 0) es both.1

-- ---- the file

module _ (file : File) (none : compares_no_snippet file ≡ true) where
  admitted_bare : (before : List Record) (r : Record) → admitted_after file (map bare before) (bare r) ≡ admitted_after file before r
  admitted_bare before r =
      numbers_same (λ e. is_met file.today e (bare r) && has_room_after file.today (map bare before) e)
      (λ e. is_met file.today e r && has_room_after file.today before e)
      (λ e no. ap₂ (λ a b. a && (is_some e.limit && not b)) (met_bare file.today e r no) (used_bare file.today before e no)) 0 file.entries none

  limited_bare_after : (before rs : List Record) → limited_after file (map bare before) (map bare rs) ≡ map bare (limited_after file before rs)
  limited_bare_after before [] = refl
  limited_bare_after before (r ∷ rs) =
      ap₂ (λ numbers qs. with_admitted (bare r) numbers ∷ qs) (admitted_bare before r)
      (ap (λ qs. limited_after file qs (map bare rs)) (sym (map-append bare before (r ∷ []))) ∙ limited_bare_after (before ++ r ∷ []) rs)

  pub limited_bare : (rs : List Record) → limited file (map bare rs) ≡ map bare (limited file rs)
  limited_bare rs = limited_bare_after [] rs

  pub listed_bare : (r : Record) (own : List Data) → suppressions_of own file (bare r) ≡ suppressions_of own file r
  listed_bare r own =
      ap (with_objects own)
      (filter_same (λ e. matches file.today e (bare r)) (λ e. matches file.today e r) (λ e no. matches_bare file.today e r no) file.entries none)

  pub unused_bare : (rs : List Record) → unused_of file (map bare rs) ≡ unused_of file rs
  unused_bare rs =
      count_same (is_unused file (map bare rs)) (is_unused file rs) (λ e no. ap not (any_bare file.today e rs no)) 0 file.entries none
