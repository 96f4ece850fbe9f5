-- The conditions that an entry may have: the member that has each, how its value is read, and which results meet it.
use Rattle.std.specs.Prelude.{◌≡◌, ℕ, Bool, false, ◌&&◌, List, [], ◌∷◌, ◌++◌, Option, Some, None, Contains, nat_eq, bytes_eq, codes, option_map, option_and_then, if◌then◌else◌}
use Rattle.std.specs.Cmp.Lexicographic.{pointwise}
use Rattle.std.specs.List.{list_any, list_all, starts_with}
use Rattle.sarif_evidence.specs.Seen.{packed}
use Rattle.sarif_model.specs.declared.record.Record.{Record}
use Rattle.sarif_entries.specs.contracts.condition.ConditionKindPartialEq.TheImpl as derived
use Rattle.sarif_entries.specs.contracts.condition.ConditionPartialEq.TheImpl as derived_condition
use Rattle.sarif_entries.specs.declared.condition.Condition.{Condition}
use Rattle.sarif_entries.specs.declared.condition.Condition.TheVariants.{Tool, RuleId, Uri, UriPrefix, Guid, Fingerprints, PartialFingerprints, Message, MessageId, MessageArguments, Snippet}
use Rattle.sarif_entries.specs.declared.condition.ConditionKind.{ConditionKind}
use Rattle.sarif_entries.specs.declared.condition.ConditionKind.TheVariants as kinds
use Rattle.sarif_entries.specs.declared.version.Version.{Version}
use Rattle.sarif_entries.specs.declared.version.Version.TheVariants.{First, Second, Fourth, Fifth}

-- ---- the kinds of conditions

-- all of them, in the order in which they are read
abbrev pub all_kinds : List ConditionKind
all_kinds =
    kinds.Tool
    ∷ kinds.RuleId
    ∷ kinds.Uri
    ∷ kinds.UriPrefix
    ∷ kinds.Guid
    ∷ kinds.Fingerprints
    ∷ kinds.PartialFingerprints
    ∷ kinds.Message
    ∷ kinds.MessageId
    ∷ kinds.MessageArguments
    ∷ kinds.Snippet
    ∷ []

-- the name of the member of an entry that has the condition
abbrev pub name_of : ConditionKind → List ℕ
name_of kinds.Tool = codes "tool"
name_of kinds.RuleId = codes "ruleId"
name_of kinds.Uri = codes "uri"
name_of kinds.UriPrefix = codes "uriPrefix"
name_of kinds.Guid = codes "guid"
name_of kinds.Fingerprints = codes "fingerprints"
name_of kinds.PartialFingerprints = codes "partialFingerprints"
name_of kinds.Message = codes "message"
name_of kinds.MessageId = codes "messageId"
name_of kinds.MessageArguments = codes "messageArguments"
name_of kinds.Snippet = codes "snippet"

-- the first version of the file whose entries may have it
abbrev pub since : ConditionKind → Version
since kinds.Tool = First
since kinds.RuleId = First
since kinds.Uri = First
since kinds.UriPrefix = Second
since kinds.Guid = First
since kinds.Fingerprints = First
since kinds.PartialFingerprints = First
since kinds.Message = Fourth
since kinds.MessageId = Fourth
since kinds.MessageArguments = Fourth
since kinds.Snippet = Fifth

-- the type of the value: a string, a GUID, an object of strings or an array of strings. The last two make no
-- condition if they are empty
pub data Form : Type 0 where
  a_text : (List ℕ → Condition) → Form
  a_guid : (ℕ → Condition) → Form
  some_pairs : (List (List ℕ × List ℕ) → Condition) → Form
  some_texts : (List (List ℕ) → Condition) → Form

abbrev pub form_of : ConditionKind → Form
form_of kinds.Tool = a_text Tool
form_of kinds.RuleId = a_text RuleId
form_of kinds.Uri = a_text Uri
form_of kinds.UriPrefix = a_text UriPrefix
form_of kinds.Guid = a_guid Guid
form_of kinds.Fingerprints = some_pairs Fingerprints
form_of kinds.PartialFingerprints = some_pairs PartialFingerprints
form_of kinds.Message = a_text Message
form_of kinds.MessageId = a_text MessageId
form_of kinds.MessageArguments = some_texts MessageArguments
form_of kinds.Snippet = a_text Snippet

abbrev pub if_any : {A : Type 0} → List A → Option (List A)
if_any [] = None
if_any (x ∷ xs) = Some (x ∷ xs)

-- the condition of a list, unless the list is empty
abbrev pub unless_empty : {A : Type 0} → (List A → Condition) → List A → Option Condition
unless_empty make xs = option_map make (if_any xs)

-- ---- the conditions of a kind in a list

abbrev pub kind_of : Condition → ConditionKind
kind_of (Tool text) = kinds.Tool
kind_of (RuleId text) = kinds.RuleId
kind_of (Uri text) = kinds.Uri
kind_of (UriPrefix prefix) = kinds.UriPrefix
kind_of (Guid guid) = kinds.Guid
kind_of (Fingerprints pairs) = kinds.Fingerprints
kind_of (PartialFingerprints pairs) = kinds.PartialFingerprints
kind_of (Message text) = kinds.Message
kind_of (MessageId id) = kinds.MessageId
kind_of (MessageArguments texts) = kinds.MessageArguments
kind_of (Snippet text) = kinds.Snippet

abbrev pub is_kind : ConditionKind → ConditionKind → Bool
is_kind = derived.ghosts.eq

-- the first condition of that kind
abbrev pub of_kind : ConditionKind → List Condition → Option Condition
of_kind kind [] = None
of_kind kind (c ∷ cs) = if is_kind (kind_of c) kind then Some c else of_kind kind cs

-- its value, if it is a string
abbrev pub text_of : Condition → Option (List ℕ)
text_of (Tool text) = Some text
text_of (RuleId text) = Some text
text_of (Uri text) = Some text
text_of (UriPrefix prefix) = Some prefix
text_of (Message text) = Some text
text_of (MessageId id) = Some id
text_of (Snippet text) = Some text
text_of _ = None

-- the string that a condition of that kind names, if there is one
abbrev pub text_in : ConditionKind → List Condition → Option (List ℕ)
text_in kind cs = option_and_then text_of (of_kind kind cs)

-- both are of one kind and name the same value
abbrev pub is_same : Condition → Condition → Bool
is_same = derived_condition.ghosts.eq

-- ---- which results meet a condition

-- there is a string, and it is this one
abbrev pub is_text : List ℕ → Option (List ℕ) → Bool
is_text text None = false
is_text text (Some found) = bytes_eq text found

-- there is a string, and it begins with the prefix
abbrev pub begins : List ℕ → Option (List ℕ) → Bool
begins prefix None = false
begins prefix (Some found) = starts_with nat_eq found prefix

-- there is a GUID, and it is this one
abbrev pub is_guid : ℕ → Option ℕ → Bool
is_guid guid None = false
is_guid guid (Some found) = nat_eq guid found

-- the same name with the same value
abbrev pub is_pair : List ℕ × List ℕ → List ℕ × List ℕ → Bool
is_pair a b = bytes_eq a.0 b.0 && bytes_eq a.1 b.1

-- there is a snippet, and it is this one, except for white space
abbrev pub is_snippet : List ℕ → Option (List ℕ) → Bool
is_snippet text None = false
is_snippet text (Some found) = bytes_eq (packed text) (packed found)

-- each required pair is among the pairs of the result
abbrev pub are_among : List (List ℕ × List ℕ) → List (List ℕ × List ℕ) → Bool
are_among wanted found = list_all (λ pair. list_any (λ p. is_pair p pair) found) wanted

-- the condition is true for the result
abbrev pub holds : Condition → Record → Bool
holds (Tool text) r = bytes_eq text r.tool
holds (RuleId text) r = bytes_eq text r.rule_id
holds (Uri text) r = is_text text r.place.uri
holds (UriPrefix prefix) r = begins prefix r.place.uri
holds (Guid guid) r = is_guid guid r.guid
holds (Fingerprints pairs) r = are_among pairs r.full
holds (PartialFingerprints pairs) r = are_among pairs r.partial
holds (Message text) r = is_text text r.message.text
holds (MessageId id) r = is_text id r.message.id
holds (MessageArguments texts) r = pointwise bytes_eq texts r.message.args
holds (Snippet text) r = is_snippet text r.snippet

-- ---- the same as a proposition

-- the result has what the condition requires
abbrev pub Holds : Condition → Record → Type 0
Holds (Tool text) r = r.tool ≡ text
Holds (RuleId text) r = r.rule_id ≡ text
Holds (Uri text) r = r.place.uri ≡ Some text
Holds (UriPrefix prefix) r = (rest : List ℕ) × (r.place.uri ≡ Some (prefix ++ rest))
Holds (Guid guid) r = r.guid ≡ Some guid
Holds (Fingerprints pairs) r =
    (pair : List ℕ × List ℕ) → Contains pairs pair → Contains r.full pair
Holds (PartialFingerprints pairs) r =
    (pair : List ℕ × List ℕ) → Contains pairs pair → Contains r.partial pair
Holds (Message text) r = r.message.text ≡ Some text
Holds (MessageId id) r = r.message.id ≡ Some id
Holds (MessageArguments texts) r = r.message.args ≡ texts
Holds (Snippet text) r =
    (found : List ℕ) × (r.snippet ≡ Some found) × (packed found ≡ packed text)

-- ---- the condition of a kind that a result itself has, if it has one

abbrev pub own_of : ConditionKind → Record → Option Condition
own_of kinds.Tool r = Some (Tool r.tool)
own_of kinds.RuleId r = Some (RuleId r.rule_id)
own_of kinds.Uri r = option_map Uri r.place.uri
own_of kinds.UriPrefix r = None
own_of kinds.Guid r = option_map Guid r.guid
own_of kinds.Fingerprints r = unless_empty Fingerprints r.full
own_of kinds.PartialFingerprints r = unless_empty PartialFingerprints r.partial
own_of kinds.Message r = option_map Message r.message.text
own_of kinds.MessageId r = option_map MessageId r.message.id
own_of kinds.MessageArguments r = unless_empty MessageArguments r.message.args
own_of kinds.Snippet r = option_map Snippet r.snippet
