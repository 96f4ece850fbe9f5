-- The members of a result without the fingerprints of some names.
use Rattle.std.proofs.Common.{◌≡◌, ℕ, Bool, List, codes, refl}
use Rattle.std.specs.Prelude.{Result, Ok, Err}
use Rattle.serde_json.specs.Data.{Data}
use Rattle.sarif_members.specs.Fingerprints.{Pair, pairs_at}
use Rattle.sarif_members.specs.declared.parts.Parts.{Parts}
use Rattle.sarif_model.specs.Members.{◌>>=◌, result_map}
use Rattle.sarif_members.specs.OwnMembers.{check_present, own_kind, own_level, own_guid, own_fingerprints, own_statuses, own_message_and_rule, own_indexes, own_location, parts_of}
use Rattle.sarif_members.proofs.AlikeMembers.{AreAlikeBeside, guid_same, indexes_same, kind_same, level_same, location_same, present_same, region_same, said_same, statuses_same}
use Rattle.sarif_read.proofs.WholeRuns.{bind_ok}
use Rattle.sarif_runs.specs.Ignoring.{without_names}

-- the members of a result without the fingerprints of these names
abbrev pub parts_without : List (List ℕ) → Parts → Parts
parts_without names parts = record {
  kind = parts.kind;
  level = parts.level;
  rule_id = parts.rule_id;
  rule_index = parts.rule_index;
  component = parts.component;
  invocation = parts.invocation;
  message = parts.message;
  uri = parts.uri;
  base = parts.base;
  artifact = parts.artifact;
  guid = parts.guid;
  full = without_names names parts.full;
  partial = without_names names parts.partial;
  held = parts.held;
  region = parts.region;
  snippet = parts.snippet;
}

bind_map : {A B C E : Type 0} (h : B → C) (r : Result A E) (f : A → Result C E) (g : A → Result B E) → ((a : A) → f a ≡ result_map h (g a))
    → (r >>= f) ≡ result_map h (r >>= g)
bind_map h (Ok a) f g same = same a
bind_map h (Err e) f g same = refl

-- both maps of fingerprints of a result, as they are read
pub record HasFingerprints (x : Data) (full partial : List Pair) : Type 0 where
  pub full_is : pairs_at (codes "fingerprints") x ≡ Ok full
  pub partial_is : pairs_at (codes "partialFingerprints") x ≡ Ok partial

pub parts_fewer : (names : List (List ℕ)) (regions : Bool) (x y : Data) (full partial : List Pair) → AreAlikeBeside y x
    → HasFingerprints x full partial → HasFingerprints y (without_names names full) (without_names names partial)
    → parts_of regions y ≡ result_map (parts_without names) (parts_of regions x)
unfolding parts_of own_fingerprints
parts_fewer names regions x y full partial same one other =
    rw (
      present_same y x same,
      kind_same y x same,
      level_same y x same,
      guid_same y x same,
      other.full_is,
      other.partial_is,
      one.full_is,
      one.partial_is,
      statuses_same y x same,
      said_same y x same,
      indexes_same y x same,
      location_same y x same,
      region_same regions y x same,
    )
    (bind_map (parts_without names) (check_present x) _ _
    (λ _. bind_map (parts_without names) (own_kind x) _ _
    (λ kind. bind_map (parts_without names) (own_level x) _ _
    (λ level. bind_map (parts_without names) (own_guid x) _ _
    (λ guid. bind_map (parts_without names) (own_statuses x) _ _
    (λ held. bind_map (parts_without names) (own_message_and_rule x) _ _
    (λ said. bind_map (parts_without names) (own_indexes x) _ _
    (λ indexes. bind_map (parts_without names) (own_location x) _ _ (λ location. refl)))))))))

-- the fingerprints of a result that is read
pub record AreFound (x : Data) : Type 0 where
  pub full : List Pair
  pub partial : List Pair
  pub are : HasFingerprints x full partial

pub fingerprints_read : (regions : Bool) (x : Data) (parts : Parts) → parts_of regions x ≡ Ok parts → AreFound x
unfolding parts_of own_fingerprints
fingerprints_read regions x parts is =
    let present = bind_ok (check_present x) _ parts is in
    let kind = bind_ok (own_kind x) _ parts present.2 in
    let level = bind_ok (own_level x) _ parts kind.2 in
    let guid = bind_ok (own_guid x) _ parts level.2 in
    let found = bind_ok (own_fingerprints x) _ parts guid.2 in
    let full = bind_ok (pairs_at (codes "fingerprints") x) _ found.0 found.1 in
    let partial = bind_ok (pairs_at (codes "partialFingerprints") x) _ found.0 full.2 in
    record { full = full.0; partial = partial.0; are = record { full_is = full.1; partial_is = partial.1 } }
