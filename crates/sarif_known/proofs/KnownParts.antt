-- The members of a known result are read as they were written.
use Rattle.std.proofs.Common.{◌≡◌, ℕ, ◌<◌, ◌^◌, Bool, true, List, [], ◌∷◌, map, Option, Some, None, option_map, codes, refl, ap, arith}
use Rattle.std.specs.Prelude.{Ok, option_and_then, unwrap_or, IfSome, nat_lt}
use Rattle.std.proofs.lemmas.Bool.Decides.{nat_tests}
use Rattle.serde_json.specs.Data.{string}
use Rattle.serde_json.specs.Find.{get_member, as_str, as_object, as_array}
use Rattle.sarif_model.specs.declared.fault.Fault.TheVariants.{BadKind, BadLevel, BadGuid, BadFingerprint, BadSuppression, BadMember}
use Rattle.sarif_model.specs.declared.kinds.Kind.{Kind}
use Rattle.sarif_model.specs.declared.kinds.Kind.TheVariants.{Pass, Undecided, Informational, NotApplicable, Review, Fail}
use Rattle.sarif_model.specs.declared.kinds.Level.{Level}
use Rattle.sarif_model.specs.declared.kinds.Level.TheVariants.{NoLevel, Note, Warning, Error}
use Rattle.sarif_model.specs.declared.kinds.Status.{Status}
use Rattle.sarif_model.specs.declared.kinds.Status.TheVariants.{Accepted, UnderReview, Rejected}
use Rattle.sarif_model.specs.declared.place.Place.{Place}
use Rattle.sarif_model.specs.declared.record.Record.{Record}
use Rattle.sarif_members.specs.declared.parts.Parts.{Parts}
use Rattle.sarif_members.specs.Fingerprints.{pairs_among, pairs_of}
use Rattle.sarif_model.specs.Members.{◌>>=◌, result_map, of_kind, or_wrong, unless_null, are_objects, elements_of, if_objects, read_each, none_if_empty}
use Rattle.sarif_model.specs.Suppression.{status_of}
use Rattle.sarif_model.proofs.Elements.{items_back}
use Rattle.sarif_model.proofs.Guids.{guid_back}
use Rattle.sarif_members.specs.OwnMembers.{check_present, as_kind, own_kind, as_level, own_level, as_guid, own_guid, own_fingerprints, own_statuses, text_of, own_message, own_rule_id, own_message_and_rule, own_indexes, own_location, parts_of}
use Rattle.sarif_members.specs.Regions.{own_region}
use Rattle.std.specs.Option.{option_or}
use Rattle.sarif_model.specs.Guid.{guid_text}
use Rattle.sarif_model.specs.Written.{text_members, list_if_any}
use Rattle.sarif_known.specs.KnownResult.{members_from, message_rows, texts_if_any, kind_unless_fail, level_if_fail, suppression_for, unless_empty, result_rows, known_result}
use Rattle.sarif_accept.proofs.Rows.{found, text_back}
use Rattle.sarif_known.proofs.Rows.{get_row}

abbrev pub level_read : Kind → Level → Option Level
level_read Pass level = None
level_read Undecided level = None
level_read Informational level = None
level_read NotApplicable level = None
level_read Review level = None
level_read Fail level = Some level

abbrev pub uri_read : Place → Option ℕ → Option (List ℕ)
uri_read place (Some n) = None
uri_read place None = place.uri

abbrev pub if_uri : Option (List ℕ) → Option (List ℕ) → Option (List ℕ)
if_uri None base = None
if_uri (Some uri) base = base

abbrev pub base_read : Place → Option ℕ → Option (List ℕ)
base_read place (Some n) = None
base_read place None = if_uri place.uri place.base

-- the members of a known result, as they are read
abbrev pub known_parts : Record → Option ℕ → Parts
known_parts r artifact = record {
  kind = r.kind;
  level = level_read r.kind r.level;
  rule_id = none_if_empty r.rule_id;
  rule_index = None;
  component = None;
  invocation = None;
  message = r.message;
  uri = uri_read r.place artifact;
  base = base_read r.place artifact;
  artifact = artifact;
  guid = r.guid;
  full = r.full;
  partial = r.partial;
  held = r.held;
  region = r.region;
  snippet = r.snippet;
}

kind_back : (kind : Kind) → result_map (λ k. unwrap_or k Fail) (of_kind BadKind as_kind (option_and_then unless_null (kind_unless_fail kind))) ≡ Ok kind
kind_back Pass = refl
kind_back Undecided = refl
kind_back Informational = refl
kind_back NotApplicable = refl
kind_back Review = refl
kind_back Fail = refl

level_back : (kind : Kind) (level : Level) → of_kind BadLevel as_level (option_and_then unless_null (level_if_fail kind level)) ≡ Ok (level_read kind level)
level_back Pass level = refl
level_back Undecided level = refl
level_back Informational level = refl
level_back NotApplicable level = refl
level_back Review level = refl
level_back Fail NoLevel = refl
level_back Fail Note = refl
level_back Fail Warning = refl
level_back Fail Error = refl

some_guid_back : (o : Option ℕ) → IfSome o (λ guid. guid < 2 ^ 128)
    → of_kind BadGuid as_guid (option_and_then unless_null (option_map (λ n. string (guid_text n)) o)) ≡ Ok o
some_guid_back None fits = refl
some_guid_back (Some guid) fits = ap (or_wrong BadGuid) (guid_back guid fits)

pairs_each : (ps : List (List ℕ × List ℕ)) → pairs_among (text_members ps) ≡ Ok ps
pairs_each [] = refl
pairs_each (p ∷ ps) = rw (pairs_each ps) refl

pairs_back : (ps : List (List ℕ × List ℕ)) → (of_kind BadFingerprint as_object (option_and_then unless_null (texts_if_any ps)) >>= pairs_of) ≡ Ok ps
pairs_back [] = refl
pairs_back (p ∷ ps) = pairs_each (p ∷ ps)

all_objects : (held : List Status) → are_objects (map suppression_for held) ≡ true
all_objects [] = refl
all_objects (s ∷ ss) = all_objects ss

status_back : (s : Status) → status_of (suppression_for s) ≡ Ok s
status_back Accepted = refl
status_back UnderReview = refl
status_back Rejected = refl

statuses_each : (held : List Status) → read_each status_of (map suppression_for held) ≡ Ok held
statuses_each [] = refl
statuses_each (s ∷ ss) = rw (status_back s, statuses_each ss) refl

statuses_back : (held : List Status)
    →
    ((elements_of (of_kind BadSuppression as_array (option_and_then unless_null (list_if_any (map suppression_for held)))) >>= if_objects
    BadSuppression) >>= read_each status_of) ≡ Ok held
statuses_back [] = refl
statuses_back (s ∷ ss) = rw (items_back (map suppression_for ss), all_objects ss) (statuses_each (s ∷ ss))

texts_each : (texts : List (List ℕ)) → read_each text_of (map string texts) ≡ Ok texts
texts_each [] = refl
texts_each (t ∷ ts) = rw (texts_each ts) refl

texts_back : (texts : List (List ℕ))
    → (elements_of (of_kind BadMember as_array (option_and_then unless_null (list_if_any (map string texts)))) >>= read_each text_of)
    ≡ Ok texts
texts_back [] = refl
texts_back (t ∷ ts) = rw (items_back (map string ts)) (texts_each (t ∷ ts))

id_back : (id : List ℕ) → of_kind BadMember as_str (option_and_then unless_null (unless_empty id)) ≡ Ok (none_if_empty id)
id_back [] = refl
id_back (b ∷ bs) = refl

own_alone : (o : Option (List ℕ)) → option_or o None ≡ o
own_alone None = refl
own_alone (Some id) = refl

module _ (r : Record) (artifact : Option ℕ) where
  at : (q : List ℕ) → get_member q (members_from (result_rows r artifact)) ≡ found q (result_rows r artifact)
  at q = get_row q (result_rows r artifact) refl

  at_message : (q : List ℕ) → get_member q (members_from (message_rows r.message)) ≡ found q (message_rows r.message)
  at_message q = get_row q (message_rows r.message) refl

  pub present_is : check_present (known_result r artifact) ≡ Ok tt
  present_is = rw (at (codes "baselineState")) refl

  kind_is : own_kind (known_result r artifact) ≡ Ok r.kind
  kind_is = rw (at (codes "kind")) (kind_back r.kind)

  level_is : own_level (known_result r artifact) ≡ Ok (level_read r.kind r.level)
  level_is = rw (at (codes "level")) (level_back r.kind r.level)

  guid_is : IfSome r.guid (λ guid. guid < 2 ^ 128) → own_guid (known_result r artifact) ≡ Ok r.guid
  guid_is fits = rw (at (codes "correlationGuid")) (some_guid_back r.guid fits)

  fingerprints_is : own_fingerprints (known_result r artifact) ≡ Ok (record { full = r.full; partial = r.partial })
  unfolding own_fingerprints
  fingerprints_is = rw (at (codes "fingerprints"), at (codes "partialFingerprints"), pairs_back r.full, pairs_back r.partial) refl

  statuses_is : own_statuses (known_result r artifact) ≡ Ok r.held
  unfolding own_statuses
  statuses_is = rw (at (codes "suppressions")) (statuses_back r.held)

  message_is : own_message (known_result r artifact) ≡ Ok r.message
  unfolding own_message
  message_is =
      rw (
        at (codes "message"),
        at_message (codes "text"),
        at_message (codes "id"),
        at_message (codes "arguments"),
        text_back BadMember r.message.text,
        text_back BadMember r.message.id,
        texts_back r.message.args,
      ) refl

  rule_is : own_rule_id (known_result r artifact) ≡ Ok (none_if_empty r.rule_id)
  unfolding own_rule_id
  rule_is = rw (at (codes "ruleId"), at (codes "rule"), id_back r.rule_id) (ap Ok (own_alone (none_if_empty r.rule_id)))

  message_and_rule_is : own_message_and_rule (known_result r artifact) ≡ Ok (record { message = r.message; rule_id = none_if_empty r.rule_id })
  unfolding own_message_and_rule
  message_and_rule_is = rw (message_is, rule_is, at (codes "provenance")) refl

  indexes_is : own_indexes (known_result r artifact) ≡ Ok (record { rule_index = None; component = None; invocation = None })
  unfolding own_indexes
  indexes_is = rw (at (codes "ruleIndex"), at (codes "rule"), at (codes "provenance")) refl

small : (n : ℕ) → n < 2 ^ 32 → nat_lt n (2 ^ 63) ≡ true
small n fits = grind (arith, nat_tests)

small_index : (n : ℕ) → n < 2 ^ 32 → nat_lt n (2 ^ 32) ≡ true
small_index n fits = grind (arith, nat_tests)

location_at : (r : Record) (uri base : Option (List ℕ)) → r.place.uri ≡ uri → r.place.base ≡ base
    → own_location (known_result r None) ≡ Ok (record { uri = r.place.uri; base = if_uri r.place.uri r.place.base; artifact = None })
unfolding own_location
location_at r None base has based = rw (at r None (codes "locations"), has) refl
location_at r (Some uri) None has based = rw (at r None (codes "locations"), has, based) refl
location_at r (Some uri) (Some base) has based = rw (at r None (codes "locations"), has, based) refl

location_is : (r : Record) (artifact : Option ℕ) → IfSome artifact (λ n. n < 2 ^ 32)
    → own_location (known_result r artifact)
    ≡ Ok (record { uri = uri_read r.place artifact; base = base_read r.place artifact; artifact = artifact })
unfolding own_location
location_is r (Some n) fits = rw (at r (Some n) (codes "locations"), small n fits, small_index n fits) refl
location_is r None fits = location_at r r.place.uri r.place.base refl refl

module _ (r : Record) (artifact : Option ℕ) where
  -- the members of a known result are those of the record that it was written from
  pub parts_is : (regions : Bool) → IfSome r.guid (λ guid. guid < 2 ^ 128) → IfSome artifact (λ n. n < 2 ^ 32)
      → (own_region regions (known_result r artifact)).region ≡ r.region
      → (own_region regions (known_result r artifact)).snippet ≡ r.snippet
      → parts_of regions (known_result r artifact) ≡ Ok (known_parts r artifact)
  unfolding parts_of
  parts_is regions fits index region_here snippet_here =
      rw (
        present_is r artifact,
        kind_is r artifact,
        level_is r artifact,
        guid_is r artifact fits,
        fingerprints_is r artifact,
        statuses_is r artifact,
        message_and_rule_is r artifact,
        indexes_is r artifact,
        location_is r artifact index,
        region_here,
        snippet_here,
      ) refl
