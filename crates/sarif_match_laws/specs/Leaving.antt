-- How many results of each group are left without a match.
use Rattle.std.specs.Prelude.{◌≡◌, ℕ, suc, ◌+◌, List, [], ◌∷◌, ◌++◌, Bool, not, ◌&&◌, Option, None, length, map, if◌then◌else◌}
use Rattle.std.specs.List.{AllByRecursion, count_by}
use Rattle.sarif_model.specs.declared.record.Record.{Record}
use Rattle.sarif_match.specs.declared.tier.Tier.{Tier}
use Rattle.sarif_match.specs.declared.tier.Tier.TheVariants.{Guid, Same, SameText, FingerprintHere, Fingerprint, PartialHere, PartialMoved, PlaceLeft}
use Rattle.sarif_match.specs.Key.{group_of}
use Rattle.sarif_match.specs.KeyParts.{Group, group_eq}
use Rattle.sarif_match.specs.Partners.{has_partner, is_taken, partners_after, seen_from_end, turned}
use Rattle.sarif_evidence.specs.Seen.{seen}
use Rattle.sarif_match.specs.Tiers.{falling_names}

-- how many of these results pass the test and are not done; the first has number n
abbrev pub count_left : (Record → Bool) → (ℕ → Bool) → ℕ → List Record → ℕ
count_left test is_done n [] = 0
count_left test is_done n (r ∷ rs) =
    (if test r && not (is_done n) then 1 else 0) + count_left test is_done (suc n) rs

-- whether a result is of this group
abbrev pub is_of : Group → Record → Bool
is_of group r = group_eq (group_of r) group

-- as many current results of each group have no match, and as many baseline results are the match of none
pub record LeaveAsMany (current baseline : List Record) (one other : List (Option ℕ)) : Type 0 where
  pub new : (group : Group) → count_left (is_of group) (has_partner one) 0 current
      ≡ count_left (is_of group) (has_partner other) 0 current
  pub absent : (group : Group) → count_left (is_of group) (is_taken one) 0 baseline
      ≡ count_left (is_of group) (is_taken other) 0 baseline

-- the matches of version 3, if it had these tiers
abbrev pub partners_by : List Tier → List Record → List Record → List (Option ℕ)
partners_by tiers current baseline =
    turned (length baseline) (partners_after (seen_from_end current) (seen_from_end baseline) tiers)

-- the tiers of version 3 without PlaceText and Place
abbrev pub tiers_without_places : List Record → List Record → List Tier
tiers_without_places cs bs =
    let names = falling_names (map seen cs) (map seen bs) in
    Guid ∷ (Same ∷ (SameText ∷ (map FingerprintHere names
    ++ PartialHere ∷ (map Fingerprint names ++ PartialMoved ∷ (PlaceLeft ∷ [])))))

-- the result has neither a GUID nor fingerprints of either type
abbrev pub HasNoNames : Record → Type 0
HasNoNames r = (r.guid ≡ None) × (r.full ≡ []) × (r.partial ≡ [])

-- no result has a GUID or fingerprints of either type
abbrev pub AreWithoutNames : List Record → Type 0
AreWithoutNames rs = AllByRecursion HasNoNames rs

-- the result without region and snippet
abbrev pub without_text : Record → Record
without_text r = record {
  tool = r.tool;
  rule_id = r.rule_id;
  kind = r.kind;
  level = r.level;
  message = r.message;
  place = r.place;
  guid = r.guid;
  full = r.full;
  partial = r.partial;
  held = r.held;
  region = None;
  snippet = None;
  admitted = r.admitted;
}

-- each result is as often in one list as in the other: as many of both pass any test
abbrev pub AreReordered : List Record → List Record → Type 0
AreReordered one other = (test : Record → Bool) → count_by test one ≡ count_by test other
