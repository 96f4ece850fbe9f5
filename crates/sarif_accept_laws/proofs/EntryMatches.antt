-- The entry that is made for a result matches it until its expiry date.
use Rattle.std.proofs.Common.{◌≡◌, ℕ, ◌≤◌, ◌==◌, Bool, true, false, not, ◌||◌, true≢false, if◌then◌else◌, length, sym, List, [], ◌∷◌, map, Option, Some, None, refl, arith}
use Rattle.std.specs.Prelude.{nat_lt}
use Rattle.std.specs.List.{list_any}
use Rattle.std.specs.Option.{option_map_or}
use Rattle.std.proofs.lemmas.Bool.{and_from, and_parts, or_left, or_right}
use Rattle.std.proofs.lemmas.Bool.Decides.{nat_tests}
use Rattle.sarif_model.specs.declared.record.Record.{Record}
use Rattle.sarif_entries.specs.declared.condition.Condition.{Condition}
use Rattle.sarif_entries.specs.declared.condition.ConditionKind.{ConditionKind}
use Rattle.sarif_entries.specs.declared.entry.Entry.{Entry}
use Rattle.sarif_entries.specs.declared.limit.Limit.{Limit}
use Rattle.sarif_entries.specs.Condition.{all_kinds, are_among, holds, is_pair}
use Rattle.sarif_entries.specs.Entries.{with_condition}
use Rattle.sarif_entries.specs.Matching.{hold, is_expired, is_met, is_past, is_admitted, matches}
use Rattle.sarif_evidence.specs.Seen.{as_matched, filled}
use Rattle.sarif_evidence.specs.declared.version.MatchingVersion.{MatchingVersion}
use Rattle.sarif_evidence.specs.declared.version.MatchingVersion.TheVariants.{Two, Three}
use Rattle.sarif_entries.specs.declared.condition.Condition.TheVariants.{Tool, RuleId, Uri, UriPrefix, Guid, Fingerprints, PartialFingerprints, Message, MessageId, MessageArguments, Snippet}
use Rattle.sarif_accept.specs.Entry.{asked_of, named_by}
use Rattle.sarif_accept.specs.Adding.{as_read, entry_read}
use Rattle.sarif_accept.specs.Until.{IsUntil}
use Rattle.sarif_accept.proofs.EachCondition.{asked_held}

module _ (r : Record) where
  with_held : (o : Option Condition) (cs : List Condition) → option_map_or (λ c. holds (as_read c) r) o true ≡ true
      → hold (map as_read cs) r ≡ true → hold (map as_read (with_condition o cs)) r ≡ true
  with_held None cs one all = all
  with_held (Some c) cs one all = and_from _ _ one all

  named_held : (kinds : List ConditionKind) → hold (map as_read (named_by (asked_of r) kinds)) r ≡ true
  named_held [] = refl
  named_held (kind ∷ kinds) = with_held (asked_of r kind) (named_by (asked_of r) kinds) (asked_held r kind) (named_held kinds)

in_time : (today until : Option ℕ) → IsUntil today until → is_past today until ≡ false
in_time None None is = refl
in_time (Some day) None is = refl
in_time None (Some last) is = refl
in_time (Some day) (Some last) is = later day is.1 last (cc) is.3
  where
    later : (day known last : ℕ) → day ≡ known → known ≤ last → nat_lt last day ≡ false
    later day known last same fits = grind (arith, nat_tests)

pub matches_is : (r : Record) (reason : Option (List ℕ)) (today until : Option ℕ) → IsUntil today until → matches today (entry_read r reason until) r ≡ true
matches_is r reason today until is = rw (in_time today until is, named_held r all_kinds) refl

-- ---- what is true for the result as its entry sees it is true for the result

more_found : (q : List ℕ × List ℕ) (found : List (List ℕ × List ℕ)) → list_any (λ p. is_pair p q) (filled found) ≡ true
    → list_any (λ p. is_pair p q) found ≡ true
more_found q [] is = is
more_found q (p ∷ ps) is =
    elim (not (length p.1 == 0)) as
    (λ b. list_any (λ p. is_pair p q) (if b then p ∷ filled ps else filled ps) ≡ true → (is_pair p q || list_any (λ p. is_pair p q) ps) ≡ true) [
      | true ↦ λ is. in_either (is_pair p q) (list_any (λ p. is_pair p q) (filled ps)) _ (more_found q ps) is
      | false ↦ λ is. or_right (is_pair p q) _ (more_found q ps is)
    ] is
  where
    in_either : (a b c : Bool) → (b ≡ true → c ≡ true) → (a || b) ≡ true → (a || c) ≡ true
    in_either true b c so is = refl
    in_either false b c so is = so is

more_among : (wanted found : List (List ℕ × List ℕ)) → are_among wanted (filled found) ≡ true → are_among wanted found ≡ true
more_among [] found all = refl
more_among (q ∷ qs) found all =
    let both = and_parts (list_any (λ p. is_pair p q) (filled found)) (are_among qs (filled found)) all in
    and_from _ _ (more_found q found both.0) (more_among qs found both.1)

holds_as : (version : MatchingVersion) (c : Condition) (r : Record) → holds c (as_matched version r) ≡ true → holds c r ≡ true
holds_as Two (Tool text) r is = is
holds_as Two (RuleId text) r is = is
holds_as Two (Uri text) r is = is
holds_as Two (UriPrefix prefix) r is = is
holds_as Two (Guid guid) r is = is
holds_as Two (Fingerprints pairs) r is = is
holds_as Two (PartialFingerprints pairs) r is = is
holds_as Two (Message text) r is = is
holds_as Two (MessageId id) r is = is
holds_as Two (MessageArguments texts) r is = is
holds_as Two (Snippet text) r is = absurd (true≢false (sym is))
holds_as Three (Tool text) r is = is
holds_as Three (RuleId text) r is = is
holds_as Three (Uri text) r is = is
holds_as Three (UriPrefix prefix) r is = is
holds_as Three (Guid guid) r is = is
holds_as Three (Fingerprints pairs) r is = more_among pairs r.full is
holds_as Three (PartialFingerprints pairs) r is = more_among pairs r.partial is
holds_as Three (Message text) r is = is
holds_as Three (MessageId id) r is = is
holds_as Three (MessageArguments texts) r is = is
holds_as Three (Snippet text) r is = is

hold_as : (version : MatchingVersion) (cs : List Condition) (r : Record) → hold cs (as_matched version r) ≡ true → hold cs r ≡ true
hold_as version [] r all = refl
hold_as version (c ∷ cs) r all =
    let both = and_parts (holds c (as_matched version r)) (hold cs (as_matched version r)) all in
    and_from _ _ (holds_as version c r both.0) (hold_as version cs r both.1)

-- an entry that matches a result as its entry sees it matches the result
pub matches_as : (version : MatchingVersion) (today : Option ℕ) (e : Entry) (r : Record) → matches today e (as_matched version r) ≡ true → matches today e r ≡ true
matches_as version today e r is =
    let met = and_parts (is_admitted e.limit (as_matched version r)) (is_met today e (as_matched version r)) is in
    let both = and_parts (not (is_expired today e)) (hold e.conditions (as_matched version r)) met.1 in
    and_from _ _ (admitted_as version e.limit met.0) (and_from _ _ both.0 (hold_as version e.conditions r both.1))
  where
    admitted_as : (version : MatchingVersion) (limit : Option Limit) → is_admitted limit (as_matched version r) ≡ true → is_admitted limit r ≡ true
    admitted_as version None is = refl
    admitted_as Two (Some limit) is = is
    admitted_as Three (Some limit) is = is

pub any_as : (version : MatchingVersion) (today : Option ℕ) (es : List Entry) (r : Record)
    → list_any (λ e. matches today e (as_matched version r)) es ≡ true → list_any (λ e. matches today e r) es ≡ true
any_as version today [] r is = is
any_as version today (e ∷ es) r is =
    in_either (matches today e (as_matched version r)) _ _ _ (matches_as version today e r) (any_as version today es r) is
  where
    in_either : (a b c d : Bool) → (a ≡ true → c ≡ true) → (b ≡ true → d ≡ true) → (a || b) ≡ true → (c || d) ≡ true
    in_either true b c d first more is = or_left c d (first refl)
    in_either false b c d first more is = or_right c d (more is)

-- the entry that accepts a result, as a version of matching sees it, matches the result
pub own_matches : (version : MatchingVersion) (r : Record) (reason : Option (List ℕ)) (today until : Option ℕ) → IsUntil today until
    → matches today (entry_read (as_matched version r) reason until) r ≡ true
own_matches version r reason today until is =
    matches_as version today (entry_read (as_matched version r) reason until) r (matches_is (as_matched version r) reason today until is)
