-- The state of a result in version 3: it is unchanged only if there is evidence that its match is the same result.
use Rattle.std.specs.Prelude.{ℕ, List, Bool, false, not, Option, Some, None, ◌&&◌, ◌||◌, ◌==◌, bytes_eq, if◌then◌else◌}
use Rattle.std.specs.List.{list_any}
use Rattle.sarif_model.specs.declared.record.Record.{Record}
use Rattle.sarif_model.specs.declared.kinds.State.{State}
use Rattle.sarif_model.specs.declared.kinds.State.TheVariants.{New, Unchanged, Updated}
use Rattle.sarif_evidence.specs.declared.version.MatchingVersion.{MatchingVersion}
use Rattle.sarif_evidence.specs.declared.version.MatchingVersion.TheVariants.{Two, Three}
use Rattle.sarif_evidence.specs.EqualParts.{is_empty, pairs_eq}
use Rattle.sarif_evidence.specs.Seen.{seen}
use Rattle.sarif_evidence.specs.State.{is_unchanged, state_of}

-- whether both have a GUID, and the same one
abbrev pub is_same_guid : Option ℕ → Option ℕ → Bool
is_same_guid (Some guid) (Some other) = guid == other
is_same_guid (Some guid) None = false
is_same_guid None other = false

-- whether a name has the same value in both
abbrev pub share_member : List (List ℕ × List ℕ) → List (List ℕ × List ℕ) → Bool
share_member members others =
    list_any
    (λ member. list_any (λ other. bytes_eq other.0 member.0 && bytes_eq other.1 member.1) others)
    members

-- whether both have the same members, at least one
abbrev pub are_same_members : List (List ℕ × List ℕ) → List (List ℕ × List ℕ) → Bool
are_same_members members others = not (is_empty members) && pairs_eq members others

-- whether a result has neither fingerprints nor partial fingerprints
abbrev pub has_no_members : Record → Bool
has_no_members r = is_empty r.full && is_empty r.partial

-- whether a GUID, a fingerprint or all partial fingerprints are the same, or neither has a fingerprint of either type
abbrev pub has_other_evidence : Record → Record → Bool
has_other_evidence current partner =
    is_same_guid current.guid partner.guid
    || (share_member current.full partner.full
    || (are_same_members current.partial partner.partial
    || (has_no_members current && has_no_members partner)))

-- two snippets decide; without them the rest does
abbrev pub by_snippets : Option (List ℕ) → Option (List ℕ) → Bool → Bool
by_snippets (Some snippet) (Some other) rest = bytes_eq snippet other
by_snippets (Some snippet) None rest = rest
by_snippets None other rest = rest

-- whether there is evidence that two results are the same, given them as version 3 sees them
abbrev pub has_evidence : Record → Record → Bool
has_evidence current partner =
    by_snippets current.snippet partner.snippet (has_other_evidence current partner)

-- the state of a current result with this match in a version
abbrev pub state_in : MatchingVersion → Record → Option Record → State
state_in Two current partner = state_of current partner
state_in Three current None = New
state_in Three current (Some partner) =
    if is_unchanged current partner && has_evidence (seen current) (seen partner) then Unchanged
    else Updated
