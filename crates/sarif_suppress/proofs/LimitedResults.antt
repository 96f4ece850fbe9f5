-- Which results the entries with `max` match.
use Rattle.std.proofs.Common.{◌≡◌, ℕ, zero, suc, ◌+◌, ◌<◌, ◌≤◌, Bool, true, false, not, ◌&&◌, cond, List, [], ◌∷◌, ◌++◌, take, Option, Some, None, Ok, nat_le, refl, sym, ap, ◌∙◌, arith}
use mathlib.Core.Bool.{and-true}
use Rattle.std.specs.Prelude.{count_by, is_none, is_some, min, slice_get}
use Rattle.std.specs.List.{list_all}
use Rattle.std.specs.Option.{option_map_or}
use Rattle.std.proofs.lemmas.Bool.{and_parts}
use Rattle.std.proofs.lemmas.Bool.Decides.{nat_tests}
use Rattle.std.proofs.lemmas.List.{append-nil, append_assoc}
use Rattle.std.proofs.lemmas.List.Sums.{sum_by-append}
use Rattle.std.proofs.lemmas.Option.{same_Some}
use Rattle.sarif_model.specs.declared.record.Record.{Record}
use Rattle.sarif_entries.specs.declared.condition.Condition.{Condition}
use Rattle.sarif_entries.specs.declared.condition.Condition.TheVariants.{Tool, RuleId, Uri, UriPrefix, Guid, Fingerprints, PartialFingerprints, Message, MessageId, MessageArguments, Snippet}
use Rattle.sarif_entries.specs.declared.entry.Entry.{Entry}
use Rattle.sarif_entries.specs.declared.limit.Limit.{Limit}
use Rattle.sarif_entries.specs.Condition.{holds}
use Rattle.sarif_entries.specs.File.{File, file_of}
use Rattle.sarif_entries.specs.Matching.{hold, is_admitted, is_expired, is_met, matches}
use Rattle.sarif_entries.proofs.EntryLimits.{numbered}
use Rattle.sarif_filing.specs.Numbers.{numbers_from}
use Rattle.sarif_filing.proofs.Numbered.{has, has_from}
use Rattle.sarif_suppress.specs.Limited.{AreUnadmitted, has_room_after, is_unlimited, is_used_up_by, limited, limited_after, met_by, admitted_after, with_admitted}
use Rattle.sarif_suppress.proofs.Limits.{met_more}

-- ---- without limits

pub none_admitted : (test : Entry → Bool) (today : Option ℕ) (before : List Record) (n : ℕ) (es : List Entry)
    → list_all (λ (e : Entry). is_none e.limit) es ≡ true
    → numbers_from (λ e. test e && has_room_after today before e) n es ≡ []
none_admitted test today before n [] none = refl
none_admitted test today before n (e ∷ es) none =
    let both = and_parts (is_none e.limit) _ none in
    let unlimited : has_room_after today before e ≡ false = by_limit e.limit both.0 in
    let rest = none_admitted test today before (n + 1) es both.1 in
    let no : (test e && has_room_after today before e) ≡ false = rw unlimited (and_false (test e)) in
    rw no rest
  where
    by_limit : (limit : Option Limit) → is_none limit ≡ true
        → (is_some limit && not (option_map_or (λ (l : Limit). nat_le l.most (met_by today e before)) limit false)) ≡ false
    by_limit None is = refl
    by_limit (Some limit) is = let never : ⊥ = cc in absurd never

    and_false : (b : Bool) → (b && false) ≡ false
    and_false true = refl
    and_false false = refl

unlimited_after : (file : File) (before rs : List Record) → is_unlimited file ≡ true → AreUnadmitted rs → limited_after file before rs ≡ rs
unlimited_after file before [] none unadmitted = refl
unlimited_after file before (r ∷ rs) none unadmitted =
    let nothing : admitted_after file before r ≡ r.admitted = none_admitted (λ e. is_met file.today e r) file.today before 0 file.entries none ∙ sym unadmitted.0 in
    rw (nothing, unlimited_after file (before ++ r ∷ []) rs none unadmitted.1) refl

pub unlimited_same : (file : File) (rs : List Record) → is_unlimited file ≡ true → AreUnadmitted rs → limited file rs ≡ rs
unlimited_same file rs none unadmitted = unlimited_after file [] rs none unadmitted

-- ---- one result

-- conditions don't depend on the entries that admit the result
holds_admitted : (c : Condition) (r : Record) (numbers : List ℕ) → holds c (with_admitted r numbers) ≡ holds c r
holds_admitted (Tool text) r numbers = refl
holds_admitted (RuleId text) r numbers = refl
holds_admitted (Uri text) r numbers = refl
holds_admitted (UriPrefix prefix) r numbers = refl
holds_admitted (Guid guid) r numbers = refl
holds_admitted (Fingerprints pairs) r numbers = refl
holds_admitted (PartialFingerprints pairs) r numbers = refl
holds_admitted (Message text) r numbers = refl
holds_admitted (MessageId id) r numbers = refl
holds_admitted (MessageArguments texts) r numbers = refl
holds_admitted (Snippet text) r numbers = refl

hold_admitted : (cs : List Condition) (r : Record) (numbers : List ℕ) → hold cs (with_admitted r numbers) ≡ hold cs r
hold_admitted [] r numbers = refl
hold_admitted (c ∷ cs) r numbers = rw (holds_admitted c r numbers, hold_admitted cs r numbers) refl

pub met_admitted : (today : Option ℕ) (e : Entry) (r : Record) (numbers : List ℕ) → is_met today e (with_admitted r numbers) ≡ is_met today e r
met_admitted today e r numbers = ap (λ b. not (is_expired today e) && b) (hold_admitted e.conditions r numbers)

-- an entry whose limit has its number matches a result that meets it, unless the results before use it up
pub matches_first : (file : File) (before : List Record) (r : Record) (n : ℕ) (e : Entry) → slice_get file.entries n ≡ Some e
    → ((limit : Limit) → e.limit ≡ Some limit → limit.number ≡ n)
    → matches file.today e (with_admitted r (admitted_after file before r)) ≡ (is_met file.today e r && not (is_used_up_by file.today before e))
matches_first file before r n e at numbers =
    ap (λ b. is_admitted e.limit (with_admitted r (admitted_after file before r)) && b) (met_admitted file.today e r (admitted_after file before r))
    ∙ by_limit e.limit refl
  where
    twice : (a b : Bool) → ((a && b) && a) ≡ (a && b)
    twice true b = and-true b
    twice false b = refl

    by_limit : (limit : Option Limit) → e.limit ≡ limit
        → (is_admitted limit (with_admitted r (admitted_after file before r)) && is_met file.today e r)
        ≡ (is_met file.today e r && not (option_map_or (λ (l : Limit). nat_le l.most (met_by file.today e before)) limit false))
    by_limit None is = sym (and-true (is_met file.today e r))
    by_limit (Some limit) is =
        let test : Entry → Bool = λ x. is_met file.today x r && has_room_after file.today before x in
        let among : has limit.number (admitted_after file before r) ≡ test e = has_from test 0 limit.number n file.entries e (omega (arith, numbers limit is)) at in
        let room : has_room_after file.today before e ≡ not (nat_le limit.most (met_by file.today e before)) =
        ap (λ o. is_some o && not (option_map_or (λ (l : Limit). nat_le l.most (met_by file.today e before)) o false)) is in
        let met : Bool = is_met file.today e r in
        ap (λ b. b && met) (among ∙ ap (λ b. met && b) room) ∙ twice met (not (nat_le limit.most (met_by file.today e before)))

-- ---- all results

limited_at : (file : File) (before rs : List Record) (i : ℕ) (r found : Record) → slice_get rs i ≡ Some r
    → slice_get (limited_after file before rs) i ≡ Some found → found ≡ with_admitted r (admitted_after file (before ++ take i rs) r)
limited_at file before [] i r found at is = let never : ⊥ = cc in absurd never
limited_at file before (x ∷ rs) zero r found at is =
    let same : x ≡ r = same_Some x r at in
    let there : with_admitted x (admitted_after file before x) ≡ found = same_Some _ found is in
    sym there ∙ ap (λ q. with_admitted q (admitted_after file before q)) same ∙ ap (λ b. with_admitted r (admitted_after file b r)) (sym (append-nil before))
limited_at file before (x ∷ rs) (suc i) r found at is =
    limited_at file (before ++ x ∷ []) rs i r found at is
    ∙ ap (λ b. with_admitted r (admitted_after file b r)) (append_assoc before (x ∷ []) (take i rs))

pub first_match : (bytes : List ℕ) (today : Option ℕ) (file : File) (rs : List Record) (i n : ℕ) (r found : Record) (e : Entry)
    → file_of bytes today ≡ Ok file → slice_get file.entries n ≡ Some e → slice_get rs i ≡ Some r → slice_get (limited file rs) i ≡ Some found
    → matches file.today e found ≡ (is_met file.today e r && not (is_used_up_by file.today (take i rs) e))
first_match bytes today file rs i n r found e read at within is =
    ap (matches file.today e) (limited_at file [] rs i r found within is)
    ∙ matches_first file (take i rs) r n e at (λ limit has. (numbered bytes today file n e limit read at has).0)

-- ---- how many

-- how many of those that meet an entry match it
abbrev counted_by : Option Limit → ℕ → ℕ
counted_by limit met = option_map_or (λ (l : Limit). min met l.most) limit met

one_counted : (limit : Option Limit) (met : Bool) (before : ℕ)
    → counted_by limit before + cond (met && not (option_map_or (λ (l : Limit). nat_le l.most before) limit false)) 1 0
    ≡ counted_by limit (before + cond met 1 0)
one_counted None true before = refl
one_counted None false before = omega arith
one_counted (Some limit) false before = omega arith
one_counted (Some limit) true before = by_most before limit.most
  where
    by_most : (before most : ℕ) → min before most + cond (not (nat_le most before)) 1 0 ≡ min (before + 1) most
    by_most before most = by_test (nat_le most before) refl
      where
        by_test : (b : Bool) → nat_le most before ≡ b → min before most + cond (not b) 1 0 ≡ min (before + 1) most
        by_test true is =
            let past : most ≤ before = grind (arith, nat_tests) in
            omega (arith, past)
        by_test false is =
            let below : before < most = grind (arith, nat_tests) in
            omega (arith, below)

counted_after : (file : File) (before rs : List Record) (n : ℕ) (e : Entry) → slice_get file.entries n ≡ Some e
    → ((limit : Limit) → e.limit ≡ Some limit → limit.number ≡ n)
    → counted_by e.limit (met_by file.today e before) + count_by (matches file.today e) (limited_after file before rs)
    ≡ counted_by e.limit (met_by file.today e (before ++ rs))
counted_after file before [] n e at numbers =
    let none : counted_by e.limit (met_by file.today e before) + 0 ≡ counted_by e.limit (met_by file.today e before) = omega arith in
    none ∙ ap (λ b. counted_by e.limit (met_by file.today e b)) (sym (append-nil before))
counted_after file before (r ∷ rs) n e at numbers =
    let here = matches_first file before r n e at numbers in
    let met : ℕ = met_by file.today e before in
    let one : Bool = is_met file.today e r && not (is_used_up_by file.today before e) in
    let left : ℕ = count_by (matches file.today e) (limited_after file (before ++ r ∷ []) rs) in
    let found : Record = with_admitted r (admitted_after file before r) in
    let split : count_by (matches file.today e) (limited_after file before (r ∷ rs)) ≡ count_by (matches file.today e) (found ∷ []) + left =
    sum_by-append (λ q. cond (matches file.today e q) 1 0) (found ∷ []) (limited_after file (before ++ r ∷ []) rs) in
    let alone : count_by (matches file.today e) (found ∷ []) ≡ cond (matches file.today e found) 1 0 = omega arith in
    let first : count_by (matches file.today e) (limited_after file before (r ∷ rs)) ≡ cond one 1 0 + left =
    split ∙ ap (λ k. k + left) (alone ∙ ap (λ b. cond b 1 0) here) in
    let step : counted_by e.limit met + cond one 1 0 ≡ counted_by e.limit (met_by file.today e (before ++ r ∷ [])) =
    one_counted e.limit (is_met file.today e r) met ∙ ap (counted_by e.limit) (sym (met_more file.today e before r)) in
    let rest = counted_after file (before ++ r ∷ []) rs n e at numbers in
    let joined : counted_by e.limit met + (cond one 1 0 + left) ≡ counted_by e.limit (met_by file.today e (before ++ r ∷ [])) + left = omega (arith, step) in
    ap (λ k. counted_by e.limit met + k) first ∙ joined ∙ rest
    ∙ ap (λ b. counted_by e.limit (met_by file.today e b)) (append_assoc before (r ∷ []) rs)

pub as_many : (bytes : List ℕ) (today : Option ℕ) (file : File) (rs : List Record) (n : ℕ) (e : Entry) → file_of bytes today ≡ Ok file
    → slice_get file.entries n ≡ Some e
    → count_by (matches file.today e) (limited file rs) ≡ option_map_or (λ (limit : Limit). min (met_by file.today e rs) limit.most) e.limit (met_by file.today e rs)
as_many bytes today file rs n e read at =
    let all = counted_after file [] rs n e at (λ limit has. (numbered bytes today file n e limit read at has).0) in
    let none : counted_by e.limit 0 ≡ 0 = by_limit e.limit in
    let sum : counted_by e.limit 0 + count_by (matches file.today e) (limited file rs) ≡ counted_by e.limit (met_by file.today e rs) = all in
    let whole : count_by (matches file.today e) (limited file rs) ≡ counted_by e.limit (met_by file.today e rs) = omega (arith, none, sum) in
    whole
  where
    by_limit : (limit : Option Limit) → counted_by limit 0 ≡ 0
    by_limit None = refl
    by_limit (Some limit) = omega arith
