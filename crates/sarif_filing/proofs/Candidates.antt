-- The entries that may match a result: all that match it are among them.
use Rattle.std.proofs.Common.{◌≡◌, ℕ, Bool, true, false, not, ◌||◌, List, [], ◌∷◌, ◌++◌, Option, Some, None, is_some, nat_eq, bytes_eq, refl, sym, ap, ◌∙◌, arith, if◌then◌else◌}
use Rattle.std.proofs.lemmas.Bool.{and_parts, false≢true, or_left, or_right}
use Rattle.std.proofs.lemmas.Bool.Decides.{nat_tests}
use Rattle.std.specs.Cmp.Lexicographic.{pointwise}
use Rattle.std.specs.List.{flat_map, list_any}
use Rattle.std.specs.Option.{option_map_or}
use Rattle.std.specs.Prelude.{option_and_then, slice_get}
use Rattle.std.proofs.lemmas.List.{append_assoc}
use Rattle.std.proofs.lemmas.List.Folds.{list_any-append}
use Rattle.sarif_model.specs.declared.record.Record.{Record}
use Rattle.indexmap.specs.IndexMap.{get}
use Rattle.sarif_evidence.specs.Seen.{packed}
use Rattle.sarif_entries.specs.declared.condition.Condition.{Condition}
use Rattle.sarif_entries.specs.declared.condition.Condition.TheVariants as condition
use Rattle.sarif_entries.specs.declared.condition.ConditionKind.{ConditionKind}
use Rattle.sarif_entries.specs.declared.condition.ConditionKind.TheVariants as kinds
use Rattle.sarif_entries.specs.declared.entry.Entry.{Entry}
use Rattle.sarif_entries.specs.declared.limit.Limit.{Limit}
use Rattle.sarif_entries.specs.declared.filing.PairCondition.TheVariants.{Full, Partial}
use Rattle.sarif_entries.specs.declared.filing.TextCondition.TheVariants.{Uri, RuleId, Tool}
use Rattle.sarif_filing.specs.declared.prefixes.PrefixTable.{PrefixTable}
use Rattle.sarif_filing.specs.declared.table.Table.{Table}
use Rattle.sarif_entries.specs.Internal.Filing.{asks_for_guid, asks_for_snippet, asks_for_pair, asks_for_message, asks_for_text, asks_for_none, asks_for_number, key_of, key_of_pair, key_beside, filed, snippet_key, prefix_key, message_keys, keys_beside, guid_of, pairs_of, texts_of, guid_in, pairs_in, args_in}
use Rattle.sarif_filing.specs.Internal.Snippets.{Within, numbers_within, found_within}
use Rattle.sarif_filing.specs.Internal.Table.{candidates, under_snippet}
use Rattle.sarif_entries.specs.Condition.{is_text, begins, is_guid, is_snippet, is_pair, are_among, holds, kind_of, is_kind, of_kind, text_of, text_in}
use Rattle.sarif_entries.specs.Matching.{hold, is_empty, is_admitted, is_expired, is_met, matches}
use Rattle.sarif_filing.specs.Numbers.{numbers_from, numbers_at}
use Rattle.sarif_filing.specs.Internal.Prefixes.{IsPrefixTable, found_for}
use Rattle.sarif_filing.specs.Internal.Table.{IsTable}
use Rattle.sarif_filing.proofs.Begun.{found_begun}
use Rattle.sarif_entries.proofs.Meaning.{pair_means}
use Rattle.sarif_entries.proofs.MessageKeys.{is_there, are_wanted, in_message_keys, in_keys_beside}
use Rattle.sarif_filing.proofs.Numbered.{has, has_from}

flat_same : {K : Type 0} (f g : K → List ℕ) (ks : List K) → ((k : K) → f k ≡ g k) → flat_map f ks ≡ flat_map g ks
flat_same f g [] same = refl
flat_same f g (k ∷ ks) same = rw (same k, flat_same f g ks same) refl

there_same : {K : Type 0} (f g : K → List ℕ) (o : Option K) → ((k : K) → f k ≡ g k) → option_map_or f o [] ≡ option_map_or g o []
there_same f g None same = refl
there_same f g (Some k) same = same k

nothing : (keys : List (List (List ℕ))) → flat_map {X = List (List ℕ)} {A = ℕ} (λ key. []) keys ≡ []
nothing [] = refl
nothing (key ∷ keys) = nothing keys

-- the numbers for one snippet are those for it and each key
each_key : {S : Type 0} (table : Within S) (snippet : List ℕ) (keys : List (List (List ℕ)))
    → found_within table snippet keys ≡ flat_map (numbers_within table snippet) keys
each_key table snippet keys =
    elim (get bytes_eq table snippet) as (λ o. option_map_or (λ keyed. flat_map (numbers_at (pointwise bytes_eq) keyed) keys) o []
    ≡ flat_map (λ key. option_map_or (λ keyed. numbers_at (pointwise bytes_eq) keyed key) o []) keys) [
      | None ↦ sym (nothing keys)
      | Some keyed ↦ refl
    ]

nested : (a s b c d e f g l h : List ℕ)
    → ((((((((a ++ s) ++ b) ++ c) ++ d) ++ e) ++ f) ++ g) ++ l) ++ h ≡ a ++ (s ++ (b ++ (c ++ (d ++ (e ++ (f ++ (g ++ (l ++ h))))))))
nested a s b c d e f g l h =
    rw (append_assoc, append_assoc, append_assoc, append_assoc, append_assoc, append_assoc, append_assoc, append_assoc) refl

-- what the tables have for a result
pub from_tables : {S H : Type 0} (entries : List Entry) (table : Table S H) (r : Record) → IsTable entries table
    →
    ((((((((option_map_or (numbers_at nat_eq table.guids) r.guid []
    ++ option_map_or (λ text. found_within table.snippets (packed text) (keys_beside r)) r.snippet [])
    ++ flat_map (numbers_at is_pair table.pairs.full) r.full)
    ++ flat_map (numbers_at is_pair table.pairs.partial) r.partial)
    ++ flat_map (numbers_at (pointwise bytes_eq) table.texts.messages) (message_keys r))
    ++ option_map_or (numbers_at bytes_eq table.texts.uris) r.place.uri []) ++ numbers_at bytes_eq table.texts.rules r.rule_id)
    ++ numbers_at bytes_eq table.texts.tools r.tool) ++ flat_map (numbers_at nat_eq table.limited) r.admitted) ++ table.others.items ≡ candidates entries r
from_tables entries table r is =
    nested (option_map_or (numbers_at nat_eq table.guids) r.guid [])
    (option_map_or (λ text. found_within table.snippets (packed text) (keys_beside r)) r.snippet [])
    (flat_map (numbers_at is_pair table.pairs.full) r.full)
    (flat_map (numbers_at is_pair table.pairs.partial) r.partial)
    (flat_map (numbers_at (pointwise bytes_eq) table.texts.messages) (message_keys r))
    (option_map_or (numbers_at bytes_eq table.texts.uris) r.place.uri []) (numbers_at bytes_eq table.texts.rules r.rule_id)
    (numbers_at bytes_eq table.texts.tools r.tool) (flat_map (numbers_at nat_eq table.limited) r.admitted) table.others.items
    ∙ rw (
      there_same _ _ r.guid is.guids,
      there_same _ _ r.snippet beside,
      flat_same _ _ r.full is.pairs.full,
      flat_same _ _ r.partial is.pairs.partial,
      flat_same _ _ (message_keys r) is.texts.messages,
      there_same _ _ r.place.uri is.texts.uris,
      is.texts.rules r.rule_id,
      is.texts.tools r.tool,
      flat_same _ _ r.admitted is.limited,
      is.rest,
    ) refl
  where
    beside : (text : List ℕ) → found_within table.snippets (packed text) (keys_beside r) ≡ under_snippet entries (packed text) (keys_beside r)
    beside text =
        each_key table.snippets (packed text) (keys_beside r) ∙ flat_same _ _ (keys_beside r) (is.snippets (packed text))

-- the result has what the entry is filed under
abbrev is_asked : Entry → Record → Bool
is_asked e r =
    option_map_or (λ guid. asks_for_guid guid e) r.guid false
    || (option_map_or (λ text. list_any (λ key. asks_for_snippet (packed text) key e) (keys_beside r)) r.snippet false
    || (list_any (λ pair. asks_for_pair Full pair e) r.full
    || (list_any (λ pair. asks_for_pair Partial pair e) r.partial
    || (list_any (λ key. asks_for_message key e) (message_keys r)
    || (option_map_or (λ uri. asks_for_text Uri uri e) r.place.uri false
    || (asks_for_text RuleId r.rule_id e || (asks_for_text Tool r.tool e
    || (list_any (λ number. asks_for_number number e) r.admitted || asks_for_none e))))))))

has_flat : {K : Type 0} (n : ℕ) (under : K → List ℕ) (test : K → Bool) (ks : List K) → ((k : K) → has n (under k) ≡ test k)
    → has n (flat_map under ks) ≡ list_any test ks
has_flat n under test [] is = refl
has_flat n under test (k ∷ ks) is =
    list_any-append (λ m. nat_eq m n) (under k) (flat_map under ks) ∙ rw (is k, has_flat n under test ks is) refl

has_there : {K : Type 0} (n : ℕ) (under : K → List ℕ) (test : K → Bool) (o : Option K) → ((k : K) → has n (under k) ≡ test k)
    → has n (option_map_or under o []) ≡ option_map_or test o false
has_there n under test None is = refl
has_there n under test (Some k) is = is k

has_candidates : (es : List Entry) (r : Record) (n : ℕ) (e : Entry) → slice_get es n ≡ Some e → has n (candidates es r) ≡ is_asked e r
has_candidates es r n e is =
    let at : (test : Entry → Bool) → has n (numbers_from test 0 es) ≡ test e = λ test. has_from test 0 n n es e (omega arith) is in
    rw (
      list_any-append,
      list_any-append,
      list_any-append,
      list_any-append,
      list_any-append,
      list_any-append,
      list_any-append,
      list_any-append,
      list_any-append,
    )
    (rw (
      has_there n (λ guid. numbers_from (asks_for_guid guid) 0 es) (λ guid. asks_for_guid guid e) r.guid (λ guid. at (asks_for_guid guid)),
      has_there n (λ text. under_snippet es (packed text) (keys_beside r)) (λ text. list_any (λ key. asks_for_snippet (packed text) key e) (keys_beside r))
          r.snippet (λ text. has_flat n (λ key. numbers_from (asks_for_snippet (packed text) key) 0 es)
          (λ key. asks_for_snippet (packed text) key e) (keys_beside r) (λ key. at (asks_for_snippet (packed text) key))),
      has_flat n (λ pair. numbers_from (asks_for_pair Full pair) 0 es) (λ pair. asks_for_pair Full pair e) r.full
          (λ pair. at (asks_for_pair Full pair)),
      has_flat n (λ pair. numbers_from (asks_for_pair Partial pair) 0 es) (λ pair. asks_for_pair Partial pair e) r.partial
          (λ pair. at (asks_for_pair Partial pair)),
      has_flat n (λ key. numbers_from (asks_for_message key) 0 es) (λ key. asks_for_message key e) (message_keys r)
          (λ key. at (asks_for_message key)),
      has_there n (λ uri. numbers_from (asks_for_text Uri uri) 0 es) (λ uri. asks_for_text Uri uri e) r.place.uri
          (λ uri. at (asks_for_text Uri uri)),
      at (asks_for_text RuleId r.rule_id),
      at (asks_for_text Tool r.tool),
      has_flat n (λ number. numbers_from (asks_for_number number) 0 es) (λ number. asks_for_number number e) r.admitted
          (λ number. at (asks_for_number number)),
      at asks_for_none,
    ) refl)

-- ---- an entry that matches is filed under what the result has

its_guid : (g : ℕ) (found : Option ℕ) → is_guid g found ≡ true → option_map_or (λ guid. nat_eq g guid) found false ≡ true
its_guid g None t = t
its_guid g (Some guid) t = t

its_text : (u : List ℕ) (found : Option (List ℕ)) → is_text u found ≡ true → option_map_or (λ text. bytes_eq u text) found false ≡ true
its_text u None t = t
its_text u (Some text) t = t

its_pair : (p : List ℕ × List ℕ) (found : List (List ℕ × List ℕ)) → list_any (λ q. is_pair q p) found ≡ true → list_any (λ q. is_pair p q) found ≡ true
its_pair p [] t = t
its_pair p (q ∷ qs) t =
    elim (is_pair q p) as (λ b. is_pair q p ≡ b → (b || list_any (λ q. is_pair q p) qs) ≡ true → (is_pair p q || list_any (λ q. is_pair p q) qs) ≡ true) [
      | true ↦ λ same _. or_left (is_pair p q) _ (turned same)
      | false ↦ λ _ rest. or_right (is_pair p q) _ (its_pair p qs rest)
    ] refl t
  where
    turned : is_pair q p ≡ true → is_pair p q ≡ true
    turned same = (pair_means p q).1 (sym ((pair_means q p).0 same))

-- what the entry names is true for the result
record Parts (g : Option ℕ) (sn : Option (List ℕ)) (f p : List (List ℕ × List ℕ)) (m u ru px t i : Option (List ℕ)) (ws : List (List ℕ)) (r : Record)
    : Type 0 where
  snippet : option_map_or (λ text. is_snippet text r.snippet) sn true ≡ true
  guid : option_map_or (λ guid. is_guid guid r.guid) g true ≡ true
  full : are_among f r.full ≡ true
  partial : are_among p r.partial ≡ true
  message : is_there m r.message.text ≡ true
  uri : is_there u r.place.uri ≡ true
  rule : option_map_or (λ text. bytes_eq text r.rule_id) ru true ≡ true
  prefix : option_map_or (λ prefix. begins prefix r.place.uri) px true ≡ true
  tool : option_map_or (λ text. bytes_eq text r.tool) t true ≡ true
  id : is_there i r.message.id ≡ true
  args : are_wanted ws r.message.args ≡ true

-- a test of the condition of a kind that is true if there is none, and for each that is true for the result
module _ (r : Record) where
  first_holds : (kind : ConditionKind) (test : Option Condition → Bool) → test None ≡ true
      → ((c : Condition) → is_kind (kind_of c) kind ≡ true → holds c r ≡ true → test (Some c) ≡ true)
      → (cs : List Condition) → hold cs r ≡ true → test (of_kind kind cs) ≡ true
  first_holds kind test none each [] all = none
  first_holds kind test none each (c ∷ cs) all =
      let both = and_parts (holds c r) (hold cs r) all in
      elim (is_kind (kind_of c) kind) as (λ b. is_kind (kind_of c) kind ≡ b → test (if b then Some c else of_kind kind cs) ≡ true) [
        | true ↦ λ same. each c same both.0
        | false ↦ λ _. first_holds kind test none each cs both.1
      ] refl

  abbrev guid_test : Option Condition → Bool
  guid_test = λ o. option_map_or (λ guid. is_guid guid r.guid) (option_and_then guid_of o) true

  guid_holds : (c : Condition) → is_kind (kind_of c) kinds.Guid ≡ true → holds c r ≡ true → guid_test (Some c) ≡ true
  guid_holds (condition.Guid x) is h = h
  guid_holds c is h = absurd (false≢true is)

  abbrev snippet_test : Option Condition → Bool
  snippet_test = λ o. option_map_or (λ text. is_snippet text r.snippet) (option_and_then text_of o) true

  snippet_holds : (c : Condition) → is_kind (kind_of c) kinds.Snippet ≡ true → holds c r ≡ true → snippet_test (Some c) ≡ true
  snippet_holds (condition.Snippet x) is h = h
  snippet_holds c is h = absurd (false≢true is)

  abbrev full_test : Option Condition → Bool
  full_test = λ o. are_among (option_map_or pairs_of o []) r.full

  full_holds : (c : Condition) → is_kind (kind_of c) kinds.Fingerprints ≡ true → holds c r ≡ true → full_test (Some c) ≡ true
  full_holds (condition.Fingerprints x) is h = h
  full_holds c is h = absurd (false≢true is)

  abbrev partial_test : Option Condition → Bool
  partial_test = λ o. are_among (option_map_or pairs_of o []) r.partial

  partial_holds : (c : Condition) → is_kind (kind_of c) kinds.PartialFingerprints ≡ true → holds c r ≡ true → partial_test (Some c) ≡ true
  partial_holds (condition.PartialFingerprints x) is h = h
  partial_holds c is h = absurd (false≢true is)

  abbrev message_test : Option Condition → Bool
  message_test = λ o. is_there (option_and_then text_of o) r.message.text

  message_holds : (c : Condition) → is_kind (kind_of c) kinds.Message ≡ true → holds c r ≡ true → message_test (Some c) ≡ true
  message_holds (condition.Message x) is h = h
  message_holds c is h = absurd (false≢true is)

  abbrev uri_test : Option Condition → Bool
  uri_test = λ o. is_there (option_and_then text_of o) r.place.uri

  uri_holds : (c : Condition) → is_kind (kind_of c) kinds.Uri ≡ true → holds c r ≡ true → uri_test (Some c) ≡ true
  uri_holds (condition.Uri x) is h = h
  uri_holds c is h = absurd (false≢true is)

  abbrev rule_test : Option Condition → Bool
  rule_test = λ o. option_map_or (λ text. bytes_eq text r.rule_id) (option_and_then text_of o) true

  rule_holds : (c : Condition) → is_kind (kind_of c) kinds.RuleId ≡ true → holds c r ≡ true → rule_test (Some c) ≡ true
  rule_holds (condition.RuleId x) is h = h
  rule_holds c is h = absurd (false≢true is)

  abbrev prefix_test : Option Condition → Bool
  prefix_test = λ o. option_map_or (λ prefix. begins prefix r.place.uri) (option_and_then text_of o) true

  prefix_holds : (c : Condition) → is_kind (kind_of c) kinds.UriPrefix ≡ true → holds c r ≡ true → prefix_test (Some c) ≡ true
  prefix_holds (condition.UriPrefix x) is h = h
  prefix_holds c is h = absurd (false≢true is)

  abbrev tool_test : Option Condition → Bool
  tool_test = λ o. option_map_or (λ text. bytes_eq text r.tool) (option_and_then text_of o) true

  tool_holds : (c : Condition) → is_kind (kind_of c) kinds.Tool ≡ true → holds c r ≡ true → tool_test (Some c) ≡ true
  tool_holds (condition.Tool x) is h = h
  tool_holds c is h = absurd (false≢true is)

  abbrev id_test : Option Condition → Bool
  id_test = λ o. is_there (option_and_then text_of o) r.message.id

  id_holds : (c : Condition) → is_kind (kind_of c) kinds.MessageId ≡ true → holds c r ≡ true → id_test (Some c) ≡ true
  id_holds (condition.MessageId x) is h = h
  id_holds c is h = absurd (false≢true is)

  abbrev args_test : Option Condition → Bool
  args_test = λ o. are_wanted (option_map_or texts_of o []) r.message.args

  args_holds : (c : Condition) → is_kind (kind_of c) kinds.MessageArguments ≡ true → holds c r ≡ true → args_test (Some c) ≡ true
  args_holds (condition.MessageArguments []) is h = refl
  args_holds (condition.MessageArguments (w ∷ ws)) is h = h
  args_holds c is h = absurd (false≢true is)

  parts_of : (cs : List Condition) → hold cs r ≡ true
      → Parts (guid_in cs) (text_in kinds.Snippet cs) (pairs_in kinds.Fingerprints cs) (pairs_in kinds.PartialFingerprints cs) (text_in kinds.Message cs)
      (text_in kinds.Uri cs) (text_in kinds.RuleId cs) (text_in kinds.UriPrefix cs) (text_in kinds.Tool cs)
      (text_in kinds.MessageId cs) (args_in cs) r
  parts_of cs all = record {
    snippet = first_holds kinds.Snippet snippet_test refl snippet_holds cs all;
    guid = first_holds kinds.Guid guid_test refl guid_holds cs all;
    full = first_holds kinds.Fingerprints full_test refl full_holds cs all;
    partial = first_holds kinds.PartialFingerprints partial_test refl partial_holds cs all;
    message = first_holds kinds.Message message_test refl message_holds cs all;
    uri = first_holds kinds.Uri uri_test refl uri_holds cs all;
    rule = first_holds kinds.RuleId rule_test refl rule_holds cs all;
    prefix = first_holds kinds.UriPrefix prefix_test refl prefix_holds cs all;
    tool = first_holds kinds.Tool tool_test refl tool_holds cs all;
    id = first_holds kinds.MessageId id_test refl id_holds cs all;
    args = first_holds kinds.MessageArguments args_test refl args_holds cs all;
  }

-- a condition that one of these satisfies
module _ (g s f p m u ru t l o : Bool) where
  abbrev one_of : Bool
  one_of = g || (s || (f || (p || (m || (u || (ru || (t || (l || o))))))))

  in_snippet : s ≡ true → one_of ≡ true
  in_snippet is = or_right g _ (or_left s _ is)

  behind_snippet : (f || (p || (m || (u || (ru || (t || (l || o))))))) ≡ true → one_of ≡ true
  behind_snippet is = or_right g _ (or_right s _ is)

  in_full : f ≡ true → one_of ≡ true
  in_full is = behind_snippet (or_left f _ is)

  in_partial : p ≡ true → one_of ≡ true
  in_partial is = behind_snippet (or_right f _ (or_left p _ is))

  in_message : m ≡ true → one_of ≡ true
  in_message is = behind_snippet (or_right f _ (or_right p _ (or_left m _ is)))

  behind_message : (u || (ru || (t || (l || o)))) ≡ true → one_of ≡ true
  behind_message is = behind_snippet (or_right f _ (or_right p _ (or_right m _ is)))

  in_uri : u ≡ true → one_of ≡ true
  in_uri is = behind_message (or_left u _ is)

  in_rule : ru ≡ true → one_of ≡ true
  in_rule is = behind_message (or_right u _ (or_left ru _ is))

  in_tool : t ≡ true → one_of ≡ true
  in_tool is = behind_message (or_right u _ (or_right ru _ (or_left t _ is)))

  in_limited : l ≡ true → one_of ≡ true
  in_limited is = behind_message (or_right u _ (or_right ru _ (or_right t _ (or_left l _ is))))

  in_none : o ≡ true → one_of ≡ true
  in_none is = behind_message (or_right u _ (or_right ru _ (or_right t _ (or_right l _ is))))

-- the entry names exactly these
record Names (cs : List Condition) (g : Option ℕ) (sn : Option (List ℕ)) (f p : List (List ℕ × List ℕ)) (m u ru px t i : Option (List ℕ))
    (ws : List (List ℕ)) : Type 0 where
  guid : guid_in cs ≡ g
  snippet : text_in kinds.Snippet cs ≡ sn
  full : pairs_in kinds.Fingerprints cs ≡ f
  partial : pairs_in kinds.PartialFingerprints cs ≡ p
  message : text_in kinds.Message cs ≡ m
  uri : text_in kinds.Uri cs ≡ u
  rule : text_in kinds.RuleId cs ≡ ru
  prefix : text_in kinds.UriPrefix cs ≡ px
  tool : text_in kinds.Tool cs ≡ t
  id : text_in kinds.MessageId cs ≡ i
  args : args_in cs ≡ ws

-- an entry that is filed under a snippet and a key is found with the snippet and these keys
its_snippet : (e : Entry) (wanted : List ℕ) (key : List (List ℕ)) (keys : List (List (List ℕ))) (found : Option (List ℕ))
    → filed e (snippet_key e.conditions) ≡ Some (packed wanted) → key_beside e.conditions ≡ key → is_snippet wanted found ≡ true
    → list_any (λ k. pointwise bytes_eq key k) keys ≡ true
    → option_map_or (λ text. list_any (λ k. asks_for_snippet (packed text) k e) keys) found false ≡ true
its_snippet e wanted key keys None filed beside s is = absurd (false≢true s)
its_snippet e wanted key keys (Some text) filed beside s is = rw (filed, beside, s) is

module _ (e : Entry) (r : Record) (begun : Bool) where
  abbrev by_guid : Bool
  by_guid = option_map_or (λ guid. asks_for_guid guid e) r.guid false

  abbrev by_snippet : Bool
  by_snippet =
      option_map_or (λ text. list_any (λ key. asks_for_snippet (packed text) key e) (keys_beside r)) r.snippet false

  abbrev by_full : Bool
  by_full = list_any (λ pair. asks_for_pair Full pair e) r.full

  abbrev by_partial : Bool
  by_partial = list_any (λ pair. asks_for_pair Partial pair e) r.partial

  abbrev by_message : Bool
  by_message = list_any (λ key. asks_for_message key e) (message_keys r)

  abbrev by_uri : Bool
  by_uri = option_map_or (λ uri. asks_for_text Uri uri e) r.place.uri false

  abbrev by_rule : Bool
  by_rule = asks_for_text RuleId r.rule_id e

  abbrev by_tool : Bool
  by_tool = asks_for_text Tool r.tool e

  abbrev by_number : Bool
  by_number = list_any (λ number. asks_for_number number e) r.admitted

  -- an entry without `max`, whose prefix is found if the URI begins with it, is filed under a value of the result
  is_filed : e.limit ≡ None → (g : Option ℕ) (sn : Option (List ℕ)) (f p : List (List ℕ × List ℕ)) (m u ru px t i : Option (List ℕ)) (ws : List (List ℕ))
      → Names e.conditions g sn f p m u ru px t i ws → Parts g sn f p m u ru px t i ws r
      → ((prefix : List ℕ) → filed e (prefix_key e.conditions) ≡ Some prefix → begins prefix r.place.uri ≡ true → begun ≡ true)
      → (is_asked e r || begun) ≡ true
  is_filed free (Some g) sn f p m u ru px t i ws n parts found =
      or_left (is_asked e r) begun (or_left by_guid _ (rw (free, n.guid) (its_guid g r.guid parts.guid)))
  is_filed free None (Some sn) f p m u ru px t i ws n parts found =
      or_left (is_asked e r) begun
      (in_snippet by_guid by_snippet by_full by_partial by_message by_uri by_rule by_tool by_number (asks_for_none e)
      (its_snippet e sn
      (option_map_or (key_of_pair u) (if is_empty f then slice_get p 0 else slice_get f 0) (key_of u (if is_some m then m else i) ws))
      (keys_beside r) r.snippet (rw (free, n.guid, n.snippet) refl) (rw (n.full, n.partial, n.uri, n.message, n.id, n.args) refl) parts.snippet
      (in_keys_beside r f p u m i ws parts.full parts.partial parts.uri parts.message parts.id parts.args)))
  is_filed free None None (q ∷ f) p m u ru px t i ws n parts found =
      or_left (is_asked e r) begun
      (in_full by_guid by_snippet by_full by_partial by_message by_uri by_rule by_tool by_number (asks_for_none e)
      (rw (free, n.guid, n.snippet, n.full) (its_pair q r.full (and_parts (list_any (λ o. is_pair o q) r.full) (are_among f r.full) parts.full).0)))
  is_filed free None None [] (q ∷ p) m u ru px t i ws n parts found =
      or_left (is_asked e r) begun
      (in_partial by_guid by_snippet by_full by_partial by_message by_uri by_rule by_tool by_number (asks_for_none e)
      (rw (free, n.guid, n.snippet, n.full, n.partial)
      (its_pair q r.partial (and_parts (list_any (λ o. is_pair o q) r.partial) (are_among p r.partial) parts.partial).0)))
  is_filed free None None [] [] (Some m) u ru px t i ws n parts found =
      or_left (is_asked e r) begun
      (in_message by_guid by_snippet by_full by_partial by_message by_uri by_rule by_tool by_number (asks_for_none e)
      (rw (free, n.guid, n.snippet, n.full, n.partial, n.message, n.uri, n.args)
      (in_message_keys r u (Some m) i ws parts.uri parts.message parts.id parts.args refl)))
  is_filed free None None [] [] None u ru px t (Some i) ws n parts found =
      or_left (is_asked e r) begun
      (in_message by_guid by_snippet by_full by_partial by_message by_uri by_rule by_tool by_number (asks_for_none e)
      (rw (free, n.guid, n.snippet, n.full, n.partial, n.message, n.uri, n.id, n.args)
      (in_message_keys r u None (Some i) ws parts.uri parts.message parts.id parts.args refl)))
  is_filed free None None [] [] None u ru px t None (w ∷ ws) n parts found =
      or_left (is_asked e r) begun
      (in_message by_guid by_snippet by_full by_partial by_message by_uri by_rule by_tool by_number (asks_for_none e)
      (rw (free, n.guid, n.snippet, n.full, n.partial, n.message, n.uri, n.id, n.args)
      (in_message_keys r u None None (w ∷ ws) parts.uri parts.message parts.id parts.args refl)))
  is_filed free None None [] [] None (Some u) ru px t None [] n parts found =
      or_left (is_asked e r) begun
      (in_uri by_guid by_snippet by_full by_partial by_message by_uri by_rule by_tool by_number (asks_for_none e)
      (rw (free, n.guid, n.snippet, n.full, n.partial, n.message, n.uri, n.id, n.args) (its_text u r.place.uri parts.uri)))
  is_filed free None None [] [] None None (Some ru) px t None [] n parts found =
      or_left (is_asked e r) begun
      (in_rule by_guid by_snippet by_full by_partial by_message by_uri by_rule by_tool by_number (asks_for_none e)
      (rw (free, n.guid, n.snippet, n.full, n.partial, n.message, n.uri, n.id, n.args, n.rule) parts.rule))
  is_filed free None None [] [] None None None (Some px) t None [] n parts found =
      or_right (is_asked e r) begun (found px (rw (free, n.guid, n.snippet, n.full, n.partial, n.message, n.uri, n.id, n.args, n.rule, n.prefix) refl) parts.prefix)
  is_filed free None None [] [] None None None None (Some t) None [] n parts found =
      or_left (is_asked e r) begun
      (in_tool by_guid by_snippet by_full by_partial by_message by_uri by_rule by_tool by_number (asks_for_none e)
      (rw (free, n.guid, n.snippet, n.full, n.partial, n.message, n.uri, n.id, n.args, n.rule, n.prefix, n.tool) parts.tool))
  is_filed free None None [] [] None None None None None None [] n parts found =
      or_left (is_asked e r) begun
      (in_none by_guid by_snippet by_full by_partial by_message by_uri by_rule by_tool by_number (asks_for_none e)
      (rw (free, n.guid, n.snippet, n.full, n.partial, n.message, n.uri, n.id, n.args, n.rule, n.prefix, n.tool) refl))

-- all entries that match a result are among the candidates and those whose prefix is found
pub among : {S H : Type 0} (today : Option ℕ) (r : Record) (es : List Entry) (table : PrefixTable S H) → IsPrefixTable es table
    → (n : ℕ) (e : Entry) → slice_get es n ≡ Some e → matches today e r ≡ true
    → has n (candidates es r ++ option_map_or (found_for table) r.place.uri []) ≡ true
among today r es table is n e at match =
    let beginning : List ℕ = option_map_or (found_for table) r.place.uri [] in
    let cs : List Condition = e.conditions in
    let begun : (prefix : List ℕ) → filed e (prefix_key cs) ≡ Some prefix → begins prefix r.place.uri ≡ true
    → has n beginning ≡ true = λ prefix key begins. found_begun es table n e prefix r.place.uri is at key begins in
    let met : is_met today e r ≡ true = (and_parts (is_admitted e.limit r) (is_met today e r) match).1 in
    let all : hold cs r ≡ true = (and_parts (not (is_expired today e)) (hold cs r) met).1 in
    let names : Names cs (guid_in cs) (text_in kinds.Snippet cs) (pairs_in kinds.Fingerprints cs) (pairs_in kinds.PartialFingerprints cs) (text_in kinds.Message cs)
    (text_in kinds.Uri cs) (text_in kinds.RuleId cs) (text_in kinds.UriPrefix cs) (text_in kinds.Tool cs) (text_in kinds.MessageId cs)
    (args_in cs) =
    record {
      guid = refl;
      snippet = refl;
      full = refl;
      partial = refl;
      message = refl;
      uri = refl;
      rule = refl;
      prefix = refl;
      tool =
          refl;
      id = refl;
      args = refl;
    } in
    list_any-append (λ m. nat_eq m n) (candidates es r) beginning
    ∙ ap (λ b. b || has n beginning) (has_candidates es r n e at)
    ∙ by_limit e.limit refl (and_parts (is_admitted e.limit r) (is_met today e r) match).0
    (λ free. is_filed e r (has n beginning) free (guid_in cs) (text_in kinds.Snippet cs) (pairs_in kinds.Fingerprints cs) (pairs_in kinds.PartialFingerprints cs)
    (text_in kinds.Message cs) (text_in kinds.Uri cs) (text_in kinds.RuleId cs) (text_in kinds.UriPrefix cs) (text_in kinds.Tool cs)
    (text_in kinds.MessageId cs) (args_in cs) names (parts_of r cs all) begun)
  where
    other_way : (m k : ℕ) → nat_eq m k ≡ true → nat_eq k m ≡ true
    other_way m k same = grind (arith, nat_tests)

    turned : (numbers : List ℕ) (number : ℕ) → list_any (λ m. nat_eq m number) numbers ≡ true → list_any (λ m. nat_eq number m) numbers ≡ true
    turned [] number is = is
    turned (m ∷ ms) number is =
        elim (nat_eq m number) as (λ b. nat_eq m number ≡ b → (b || list_any (λ k. nat_eq k number) ms) ≡ true
        → (nat_eq number m || list_any (λ k. nat_eq number k) ms) ≡ true) [
          | true ↦ λ same _. or_left (nat_eq number m) _ (other_way m number same)
          | false ↦ λ _ rest. or_right (nat_eq number m) _ (turned ms number rest)
        ] refl is

    -- an entry with `max` has a number that the result has
    by_limit : (limit : Option Limit) → e.limit ≡ limit → is_admitted limit r ≡ true
        → (e.limit ≡ None → (is_asked e r || has n (option_map_or (found_for table) r.place.uri [])) ≡ true)
        → (is_asked e r || has n (option_map_or (found_for table) r.place.uri [])) ≡ true
    by_limit None is admits otherwise = otherwise is
    by_limit (Some limit) is admits otherwise =
        let begun : Bool = has n (option_map_or (found_for table) r.place.uri []) in
        or_left (is_asked e r) begun
        (in_limited (by_guid e r begun) (by_snippet e r begun) (by_full e r begun) (by_partial e r begun) (by_message e r begun) (by_uri e r begun)
        (by_rule e r begun) (by_tool e r begun) (by_number e r begun) (asks_for_none e) (rw is (turned r.admitted limit.number admits)))
