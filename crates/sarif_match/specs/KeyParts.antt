use Rattle.std.specs.Prelude.{ℕ, List, Bool, false, Option, ◌&&◌, ◌==◌, bytes_eq}
use Rattle.std.specs.Option.{option_eq}
use Rattle.sarif_model.specs.declared.message.Message.{Message}
use Rattle.sarif_model.specs.declared.place.Place.{Place}
use Rattle.sarif_model.specs.declared.region.Region.{Region}
use Rattle.sarif_evidence.specs.EqualParts.{message_eq, pairs_eq, place_eq, region_eq}
use Rattle.sarif_match.specs.declared.group.Group as lent
use Rattle.sarif_match.specs.declared.tier_key.Key as borrowed
use Rattle.sarif_match.specs.declared.tier_key.Key.TheVariants.{Guid, Same, SameText, FingerprintHere, Fingerprint, PartialHere, PartialMoved, PlaceText, Place as AtPlace, PlaceLeft}

-- the parts that distinguish the groups of results
pub record Group : Type 0 where
  pub tool : List ℕ
  pub rule_id : List ℕ
  pub place : Place
  pub message : Message

-- what two results have in common that are paired at a tier; keys of different tiers differ
pub data KeyParts : Type 0 where
  guid_parts : (tool : List ℕ) → (guid : ℕ) → KeyParts
  fingerprint_parts : (tool name value : List ℕ) → KeyParts
  partial_here_parts : (tool rule_id : List ℕ) → (place : Place)
      → (partial : List (List ℕ × List ℕ)) → KeyParts
  partial_moved_parts : (tool rule_id : List ℕ) → (partial : List (List ℕ × List ℕ)) → KeyParts
  place_parts : (tool rule_id : List ℕ) → (place : Place) → (message : Message) → KeyParts
  region_parts : (group : Group) → (full partial : List (List ℕ × List ℕ))
      → (snippet : Option (List ℕ)) → (region : Region) → KeyParts
  text_parts : (group : Group) → (full partial : List (List ℕ × List ℕ)) → (snippet : List ℕ)
      → KeyParts
  fingerprint_here_parts : (group : Group) → (name value : List ℕ) → KeyParts
  place_text_parts : (group : Group) → (snippet : List ℕ) → KeyParts
  place_left_parts : (group : Group) → KeyParts

-- the group that a key borrows
abbrev pub borrowed_group : lent.Group → Group
borrowed_group g =
    record { tool = g.tool.now; rule_id = g.rule_id.now; place = g.place.now; message = g.message.now }

-- the parts that a key borrows
abbrev pub parts_of : borrowed.Key → KeyParts
parts_of (Guid tool guid) = guid_parts tool.now guid
parts_of (Fingerprint tool name value) = fingerprint_parts tool.now name.now value.now
parts_of (PartialHere tool rule_id place partial) =
    partial_here_parts tool.now rule_id.now place.now partial.now
parts_of (PartialMoved tool rule_id partial) = partial_moved_parts tool.now rule_id.now partial.now
parts_of (AtPlace tool rule_id place message) =
    place_parts tool.now rule_id.now place.now message.now
parts_of (Same group full partial snippet region) =
    region_parts (borrowed_group group) full.now partial.now snippet.now region
parts_of (SameText group full partial snippet) =
    text_parts (borrowed_group group) full.now partial.now snippet.now
parts_of (FingerprintHere group member) =
    fingerprint_here_parts (borrowed_group group) member.now.0 member.now.1
parts_of (PlaceText group snippet) = place_text_parts (borrowed_group group) snippet.now
parts_of (PlaceLeft group) = place_left_parts (borrowed_group group)

abbrev pub group_eq : Group → Group → Bool
group_eq a b =
    bytes_eq a.tool b.tool
    && (bytes_eq a.rule_id b.rule_id && (place_eq a.place b.place && message_eq a.message b.message))

-- whether two keys are of one tier and all their parts are equal
abbrev pub same_parts : KeyParts → KeyParts → Bool
same_parts (guid_parts t g) (guid_parts t' g') = bytes_eq t t' && (g == g')
same_parts (fingerprint_parts t n v) (fingerprint_parts t' n' v') =
    bytes_eq t t' && (bytes_eq n n' && bytes_eq v v')
same_parts (partial_here_parts t r p m) (partial_here_parts t' r' p' m') =
    bytes_eq t t' && (bytes_eq r r' && (place_eq p p' && pairs_eq m m'))
same_parts (partial_moved_parts t r m) (partial_moved_parts t' r' m') =
    bytes_eq t t' && (bytes_eq r r' && pairs_eq m m')
same_parts (place_parts t r p m) (place_parts t' r' p' m') =
    bytes_eq t t' && (bytes_eq r r' && (place_eq p p' && message_eq m m'))
same_parts (region_parts g f m s l) (region_parts g' f' m' s' l') =
    group_eq g g'
    && (pairs_eq f f' && (pairs_eq m m' && (option_eq bytes_eq s s' && region_eq l l')))
same_parts (text_parts g f m s) (text_parts g' f' m' s') =
    group_eq g g' && (pairs_eq f f' && (pairs_eq m m' && bytes_eq s s'))
same_parts (fingerprint_here_parts g n v) (fingerprint_here_parts g' n' v') =
    group_eq g g' && (bytes_eq n n' && bytes_eq v v')
same_parts (place_text_parts g s) (place_text_parts g' s') = group_eq g g' && bytes_eq s s'
same_parts (place_left_parts g) (place_left_parts g') = group_eq g g'
same_parts _ _ = false
