-- The key of a result at each tier.
use Rattle.std.specs.Prelude.{ℕ, List, Bool, Option, Some, None, option_map, if◌then◌else◌, is_some, ◌&&◌, not, bytes_eq}
use Rattle.std.specs.Map.{lookup}
use Rattle.sarif_model.specs.declared.record.Record.{Record}
use Rattle.sarif_match.specs.declared.tier.Tier.{Tier}
use Rattle.sarif_match.specs.declared.tier.Tier.TheVariants.{Guid, Same, SameText, FingerprintHere, Fingerprint, PartialHere, PartialMoved, PlaceText, Place, PlaceLeft}
use Rattle.sarif_evidence.specs.declared.version.MatchingVersion.{MatchingVersion}
use Rattle.sarif_evidence.specs.declared.version.MatchingVersion.TheVariants.{Two, Three}
use Rattle.sarif_match.specs.KeyParts.{Group, KeyParts, guid_parts, fingerprint_parts, partial_here_parts, partial_moved_parts, place_parts, region_parts, text_parts, fingerprint_here_parts, place_text_parts, place_left_parts}
use Rattle.sarif_evidence.specs.EqualParts.{is_empty}
use Rattle.sarif_evidence.specs.Seen.{seen}

-- the value of the fingerprint with this name (SARIF 2.1.0, "fingerprints property")
abbrev pub value_of : List ℕ → List (List ℕ × List ℕ) → Option (List ℕ)
value_of name pairs = lookup (λ own. bytes_eq own name) pairs

-- whether a result has neither a GUID nor fingerprints nor partial fingerprints
abbrev pub is_unnamed : Record → Bool
is_unnamed r = not (is_some r.guid) && (is_empty r.full && is_empty r.partial)

-- the group of a result
abbrev pub group_of : Record → Group
group_of r = record { tool = r.tool; rule_id = r.rule_id; place = r.place; message = r.message }

-- a key that only a result without a GUID has
abbrev pub without_guid : {K : Type 0} → Record → Option K → Option K
without_guid r key = if is_some r.guid then None else key

-- the key of a result at a tier, if it has one
abbrev pub key_of : Record → Tier → Option KeyParts
key_of r Guid = option_map (λ guid. guid_parts r.tool guid) r.guid
key_of r (Fingerprint name) =
    option_map (λ value. fingerprint_parts r.tool name value) (value_of name r.full)
key_of r PartialHere =
    if is_empty r.partial then None
    else Some (partial_here_parts r.tool r.rule_id r.place r.partial)
key_of r PartialMoved =
    if is_empty r.partial then None else Some (partial_moved_parts r.tool r.rule_id r.partial)
key_of r Place =
    if is_unnamed r then Some (place_parts r.tool r.rule_id r.place r.message) else None
key_of r Same =
    without_guid r
    (option_map (λ region. region_parts (group_of r) r.full r.partial r.snippet region) r.region)
key_of r SameText =
    without_guid r
    (option_map (λ snippet. text_parts (group_of r) r.full r.partial snippet) r.snippet)
key_of r (FingerprintHere name) =
    option_map (λ value. fingerprint_here_parts (group_of r) name value) (value_of name r.full)
key_of r PlaceText =
    without_guid r (option_map (λ snippet. place_text_parts (group_of r) snippet) r.snippet)
key_of r PlaceLeft = without_guid r (Some (place_left_parts (group_of r)))

-- the key of a result at a tier in a version: version 3 sees a result without what says nothing about it
abbrev pub key_in : MatchingVersion → Record → Tier → Option KeyParts
key_in Two r tier = key_of r tier
key_in Three r tier = key_of (seen r) tier
