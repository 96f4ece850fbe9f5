-- The entry of the suppression file that accepts a result: it names what a baseline would match with the same finding
-- in the same file.
use Rattle.std.specs.Prelude.{ℕ, Bool, true, false, ◌&&◌, List, [], ◌∷◌, map, Option, None, is_none, is_some, option_map, codes, if◌then◌else◌}
use Rattle.serde_json.specs.Data.{Data, number, unsigned, string, array, object, Members, no_members, put}
use Rattle.serde_json.specs.View.{items_of}
use Rattle.sarif_model.specs.Guid.{guid_text}
use Rattle.sarif_model.specs.Written.{Row, with_value}
use Rattle.sarif_model.specs.declared.record.Record.{Record}
use Rattle.sarif_entries.specs.declared.condition.Condition.{Condition}
use Rattle.sarif_entries.specs.declared.condition.Condition.TheVariants.{Tool, RuleId, Uri, UriPrefix, Guid, Fingerprints, PartialFingerprints, Message, MessageId, MessageArguments, Snippet}
use Rattle.sarif_entries.specs.declared.condition.ConditionKind.{ConditionKind}
use Rattle.sarif_entries.specs.declared.condition.ConditionKind.TheVariants as kinds
use Rattle.sarif_entries.specs.declared.version.Version.{Version}
use Rattle.sarif_entries.specs.declared.version.Version.TheVariants.{Fourth, Fifth}
use Rattle.sarif_entries.specs.Condition.{all_kinds, name_of, own_of}
use Rattle.sarif_entries.specs.Entries.{with_condition}
use Rattle.sarif_entries.specs.Matching.{is_empty}

-- ---- its conditions

-- the result has neither a GUID nor full fingerprints
abbrev pub has_no_guid_or_full : Record → Bool
has_no_guid_or_full r = is_none r.guid && is_empty r.full

-- the result has neither a GUID nor fingerprints
abbrev pub is_unmarked : Record → Bool
is_unmarked r = has_no_guid_or_full r && is_empty r.partial

-- whether the entry names what the result has of that kind: its tool, its rule and its snippet, and besides what it
-- has first of its GUID, its fingerprints, its partial fingerprints and its message, the last three with its URI
abbrev pub is_asked : ConditionKind → Record → Bool
is_asked kinds.Tool r = true
is_asked kinds.RuleId r = true
is_asked kinds.Uri r = is_none r.guid
is_asked kinds.UriPrefix r = false
is_asked kinds.Guid r = true
is_asked kinds.Fingerprints r = is_none r.guid
is_asked kinds.PartialFingerprints r = has_no_guid_or_full r
is_asked kinds.Message r = is_unmarked r
is_asked kinds.MessageId r = is_unmarked r
is_asked kinds.MessageArguments r = is_unmarked r
is_asked kinds.Snippet r = true

-- the condition of that kind that the entry names, if it names one
abbrev pub asked_of : Record → ConditionKind → Option Condition
asked_of r kind = if is_asked kind r then own_of kind r else None

-- the conditions that there are, in the order of these kinds
abbrev pub named_by : (ConditionKind → Option Condition) → List ConditionKind → List Condition
named_by f [] = []
named_by f (kind ∷ rest) = with_condition (f kind) (named_by f rest)

abbrev pub conditions_for : Record → List Condition
conditions_for r = named_by (asked_of r) all_kinds

-- ---- its members

-- the members that have a value
abbrev pub members_from : List Row → Members
members_from [] = no_members
members_from (row ∷ rows) = with_value row.0 row.1 (members_from rows)

-- members, with those of a map of strings
abbrev pub texts_into : Members → List (List ℕ × List ℕ) → Members
texts_into ms [] = ms
texts_into ms (p ∷ ps) = texts_into (put p.0 (string p.1) ms) ps

-- the members of a map of strings
abbrev pub texts_put : List (List ℕ × List ℕ) → Members
texts_put ps = texts_into no_members ps

-- the value of the member that has a condition
abbrev pub value_of : Condition → Data
value_of (Tool text) = string text
value_of (RuleId text) = string text
value_of (Uri text) = string text
value_of (UriPrefix prefix) = string prefix
value_of (Guid guid) = string (guid_text guid)
value_of (Fingerprints pairs) = object (texts_put pairs)
value_of (PartialFingerprints pairs) = object (texts_put pairs)
value_of (Message text) = string text
value_of (MessageId id) = string id
value_of (MessageArguments texts) = array (items_of (map string texts))
value_of (Snippet text) = string text

-- the members of the conditions of these kinds
abbrev pub rows_of : (ConditionKind → Option Condition) → List ConditionKind → List Row
rows_of f some_kinds = map (λ kind. (name_of kind, option_map value_of (f kind))) some_kinds

-- the members of an entry with these conditions, with an expiry date and a justification if there are
abbrev pub entry_rows : (ConditionKind → Option Condition) → Option (List ℕ) → Option ℕ
    → List Row
entry_rows f reason until =
    (codes "expires", option_map (λ n. number (unsigned n)) until)
    ∷ (codes "justification", option_map string reason)
    ∷ rows_of f all_kinds

-- the entry that accepts the result
abbrev pub entry_for : Record → Option (List ℕ) → Option ℕ → Data
entry_for r reason until = object (members_from (entry_rows (asked_of r) reason until))

-- the first version of the file that may have it: 5 if the result has a snippet
abbrev pub version_for : Record → Version
version_for r = if is_some r.snippet then Fifth else Fourth
