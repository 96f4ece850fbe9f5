-- Under which condition an entry is filed: the most specific one. So a result is compared only with entries that may
-- match it.
use Rattle.std.specs.Prelude.{ℕ, Bool, false, not, ◌&&◌, List, [], ◌∷◌, ◌++◌, Option, Some, None, option_and_then, option_map, is_none, is_some, map, nat_eq, bytes_eq, slice_get, if◌then◌else◌}
use Rattle.std.specs.Cmp.Lexicographic.{pointwise}
use Rattle.std.specs.Option.{option_map_or}
use Rattle.sarif_evidence.specs.Seen.{packed}
use Rattle.sarif_model.specs.declared.message.Message.{Message}
use Rattle.sarif_model.specs.declared.record.Record.{Record}
use Rattle.sarif_entries.specs.declared.condition.Condition.{Condition}
use Rattle.sarif_entries.specs.declared.condition.Condition.TheVariants.{Guid, Fingerprints, PartialFingerprints, MessageArguments}
use Rattle.sarif_entries.specs.declared.condition.ConditionKind.{ConditionKind}
use Rattle.sarif_entries.specs.declared.condition.ConditionKind.TheVariants as kinds
use Rattle.sarif_entries.specs.declared.entry.Entry.{Entry}
use Rattle.sarif_entries.specs.declared.limit.Limit.{Limit}
use Rattle.sarif_entries.specs.declared.filing.TextCondition.{TextCondition}
use Rattle.sarif_entries.specs.declared.filing.TextCondition.TheVariants.{Uri, RuleId, Tool}
use Rattle.sarif_entries.specs.declared.filing.PairCondition.{PairCondition}
use Rattle.sarif_entries.specs.declared.filing.PairCondition.TheVariants.{Full, Partial}
use Rattle.sarif_entries.specs.Condition.{is_pair, of_kind, text_in}
use Rattle.sarif_entries.specs.Matching.{is_empty}

-- ---- entries with `max`

-- an entry with `max` is filed under no condition: it is found by the results that it admits
abbrev pub filed : {A : Type 0} → Entry → Option A → Option A
filed e key = if is_none e.limit then key else None

-- ---- what the conditions name

abbrev pub guid_of : Condition → Option ℕ
guid_of (Guid guid) = Some guid
guid_of _ = None

abbrev pub pairs_of : Condition → List (List ℕ × List ℕ)
pairs_of (Fingerprints pairs) = pairs
pairs_of (PartialFingerprints pairs) = pairs
pairs_of _ = []

abbrev pub texts_of : Condition → List (List ℕ)
texts_of (MessageArguments texts) = texts
texts_of _ = []

-- the named GUID, if there is one
abbrev pub guid_in : List Condition → Option ℕ
guid_in cs = option_and_then guid_of (of_kind kinds.Guid cs)

-- the named fingerprints of that kind
abbrev pub pairs_in : ConditionKind → List Condition → List (List ℕ × List ℕ)
pairs_in kind cs = option_map_or pairs_of (of_kind kind cs) []

-- the named arguments of a message
abbrev pub args_in : List Condition → List (List ℕ)
args_in cs = option_map_or texts_of (of_kind kinds.MessageArguments cs) []

-- ---- the condition under which an entry is filed

-- the entry names neither a GUID nor a snippet
abbrev pub has_no_guid_or_snippet : List Condition → Bool
has_no_guid_or_snippet cs = is_none (guid_in cs) && is_none (text_in kinds.Snippet cs)

-- the entry names none of a GUID, a snippet and full fingerprints
abbrev pub has_no_guid_or_full : List Condition → Bool
has_no_guid_or_full cs =
    has_no_guid_or_snippet cs && is_empty (pairs_in kinds.Fingerprints cs)

-- the entry names none of a GUID, a snippet and fingerprints
abbrev pub is_unmarked : List Condition → Bool
is_unmarked cs = has_no_guid_or_full cs && is_empty (pairs_in kinds.PartialFingerprints cs)

-- the first named fingerprint, if it is the most specific condition
abbrev pub pair_key : PairCondition → List Condition → Option (List ℕ × List ℕ)
pair_key Full cs =
    if has_no_guid_or_snippet cs then slice_get (pairs_in kinds.Fingerprints cs) 0 else None
pair_key Partial cs =
    if has_no_guid_or_full cs then slice_get (pairs_in kinds.PartialFingerprints cs) 0 else None

-- the entry names nothing of the message
abbrev pub has_no_message : List Condition → Bool
has_no_message cs =
    is_none (text_in kinds.Message cs)
    && (is_none (text_in kinds.MessageId cs) && is_empty (args_in cs))

-- a string as a list, if there is one
abbrev pub listed : Option (List ℕ) → List (List ℕ)
listed None = []
listed (Some text) = text ∷ []

-- the key of a URI, if there is one, of a message's text or id, if there is one, and of arguments. Two of these may
-- have one key
abbrev pub key_of : Option (List ℕ) → Option (List ℕ) → List (List ℕ) → List (List ℕ)
key_of uri head args = (listed uri ++ listed head) ++ args

-- the named text of the message, otherwise its named id
abbrev pub head_of : List Condition → Option (List ℕ)
head_of cs =
    if is_some (text_in kinds.Message cs) then text_in kinds.Message cs
    else text_in kinds.MessageId cs

-- the key of what is named of the message, with the named URI, if it is the most specific condition
abbrev pub message_key : List Condition → Option (List (List ℕ))
message_key cs =
    if is_unmarked cs && not (has_no_message cs)
    then Some (key_of (text_in kinds.Uri cs) (head_of cs) (args_in cs)) else None

-- the named snippet without white space, if it is the most specific condition
abbrev pub snippet_key : List Condition → Option (List ℕ)
snippet_key cs =
    if is_none (guid_in cs) then option_map packed (text_in kinds.Snippet cs) else None

-- the key of a fingerprint and of a URI, if there is one
abbrev pub key_of_pair : Option (List ℕ) → List ℕ × List ℕ → List (List ℕ)
key_of_pair uri pair = key_of uri (Some pair.0) (pair.1 ∷ [])

-- the first named fingerprint, otherwise the first named partial fingerprint
abbrev pub first_pair : List Condition → Option (List ℕ × List ℕ)
first_pair cs =
    if is_empty (pairs_in kinds.Fingerprints cs)
    then slice_get (pairs_in kinds.PartialFingerprints cs) 0
    else slice_get (pairs_in kinds.Fingerprints cs) 0

-- the key of an entry among those of its snippet: that of its first fingerprint, otherwise that of what it names of the
-- message, each with the named URI. It may be empty
abbrev pub key_beside : List Condition → List (List ℕ)
key_beside cs =
    option_map_or (key_of_pair (text_in kinds.Uri cs)) (first_pair cs)
    (key_of (text_in kinds.Uri cs) (head_of cs) (args_in cs))

-- a result's keys for its text or its id: without its arguments and, if it has some, with them
abbrev pub keys_under : Option (List ℕ) → Option (List ℕ) → List (List ℕ) → List (List (List ℕ))
keys_under uri head args =
    key_of uri head [] ∷ (if is_empty args then [] else key_of uri head args ∷ [])

-- a result's keys for its text, for its id, and for its arguments alone
abbrev pub keys_at : Option (List ℕ) → Message → List (List (List ℕ))
keys_at uri m =
    ((if is_some m.text then keys_under uri m.text m.args else [])
    ++ (if is_some m.id then keys_under uri m.id m.args else []))
    ++ (if is_empty m.args then [] else key_of uri None m.args ∷ [])

-- a result's keys for its message: without its URI and, if it has one, with it
abbrev pub message_keys : Record → List (List (List ℕ))
message_keys r =
    keys_at None r.message ++ (if is_some r.place.uri then keys_at r.place.uri r.message else [])

-- the keys for a URI without a message: the empty key and, if there is a URI, its own
abbrev pub keys_of_uri : Option (List ℕ) → List (List (List ℕ))
keys_of_uri uri = key_of None None [] ∷ (if is_some uri then key_of uri None [] ∷ [] else [])

-- the keys of fingerprints: without a URI and, if there is one, with it
abbrev pub keys_of_pairs : Option (List ℕ) → List (List ℕ × List ℕ) → List (List (List ℕ))
keys_of_pairs uri pairs =
    map (key_of_pair None) pairs ++ (if is_some uri then map (key_of_pair uri) pairs else [])

-- a result's keys among the entries of its snippet: for its message, its URI and its fingerprints
abbrev pub keys_beside : Record → List (List (List ℕ))
keys_beside r =
    ((message_keys r ++ keys_of_uri r.place.uri) ++ keys_of_pairs r.place.uri r.full)
    ++ keys_of_pairs r.place.uri r.partial

-- the entry names neither a message nor a URI
abbrev pub has_no_message_or_uri : List Condition → Bool
has_no_message_or_uri cs = has_no_message cs && is_none (text_in kinds.Uri cs)

-- the entry names none of a message, a URI, a URI prefix and a rule id
abbrev pub has_tool_alone : List Condition → Bool
has_tool_alone cs =
    has_no_message_or_uri cs
    && (is_none (text_in kinds.RuleId cs) && is_none (text_in kinds.UriPrefix cs))

-- the named string, if it is the most specific condition
abbrev pub text_key : TextCondition → List Condition → Option (List ℕ)
text_key Uri cs =
    if is_unmarked cs && has_no_message cs then text_in kinds.Uri cs else None
text_key RuleId cs =
    if is_unmarked cs && has_no_message_or_uri cs then text_in kinds.RuleId cs else None
text_key Tool cs =
    if is_unmarked cs && has_tool_alone cs then text_in kinds.Tool cs else None

-- the named prefix, if it is the most specific condition
abbrev pub prefix_key : List Condition → Option (List ℕ)
prefix_key cs =
    if is_unmarked cs && (has_no_message_or_uri cs && is_none (text_in kinds.RuleId cs))
    then text_in kinds.UriPrefix cs else None

-- none of these is the most specific condition
abbrev pub has_no_key : List Condition → Bool
has_no_key cs = is_unmarked cs && (has_tool_alone cs && is_none (text_in kinds.Tool cs))

-- the entry is filed under that GUID, that snippet and key, that pair of strings, that key of a message, that string, or
-- not at all
abbrev pub asks_for_guid : ℕ → Entry → Bool
asks_for_guid guid e =
    option_map_or (λ own. nat_eq own guid) (filed e (guid_in e.conditions)) false

abbrev pub asks_for_snippet : List ℕ → List (List ℕ) → Entry → Bool
asks_for_snippet snippet key e =
    option_map_or (λ own. bytes_eq own snippet) (filed e (snippet_key e.conditions)) false
    && pointwise bytes_eq (key_beside e.conditions) key

abbrev pub asks_for_pair : PairCondition → List ℕ × List ℕ → Entry → Bool
asks_for_pair which pair e =
    option_map_or (λ own. is_pair own pair) (filed e (pair_key which e.conditions)) false

abbrev pub asks_for_message : List (List ℕ) → Entry → Bool
asks_for_message key e =
    option_map_or (λ own. pointwise bytes_eq own key) (filed e (message_key e.conditions)) false

abbrev pub asks_for_text : TextCondition → List ℕ → Entry → Bool
asks_for_text which text e =
    option_map_or (λ own. bytes_eq own text) (filed e (text_key which e.conditions)) false

abbrev pub asks_for_none : Entry → Bool
asks_for_none e = is_none e.limit && has_no_key e.conditions

-- the entry has a `max` and that number
abbrev pub asks_for_number : ℕ → Entry → Bool
asks_for_number n e = option_map_or (λ (own : Limit). nat_eq own.number n) e.limit false
