use Rattle.std.proofs.Common.{◌≡◌, refl}
use Rattle.sarif_match.specs.declared.tier_key.Key.{Key}
use Rattle.sarif_match.specs.declared.tier_key.Key.TheVariants.{Guid, Same, SameText, FingerprintHere, Fingerprint, PartialHere, PartialMoved, PlaceText, Place as AtPlace, PlaceLeft}
use Rattle.sarif_match.specs.KeyParts.{parts_of, same_parts}
use Rattle.sarif_match.specs.contracts.tier_key.KeyPartialEq.TheImpl as derived

pub eq-is_same_parts : (a b : Key) → derived.ghosts.eq a b ≡ same_parts (parts_of a) (parts_of b)
eq-is_same_parts (Guid t g) (Guid t' g') = refl
eq-is_same_parts (Fingerprint t n v) (Fingerprint t' n' v') = refl
eq-is_same_parts (PartialHere t r p m) (PartialHere t' r' p' m') = refl
eq-is_same_parts (PartialMoved t r m) (PartialMoved t' r' m') = refl
eq-is_same_parts (AtPlace t r p m) (AtPlace t' r' p' m') = refl
eq-is_same_parts (Same g f m s l) (Same g' f' m' s' l') = refl
eq-is_same_parts (SameText g f m s) (SameText g' f' m' s') = refl
eq-is_same_parts (FingerprintHere g m) (FingerprintHere g' m') = refl
eq-is_same_parts (PlaceText g s) (PlaceText g' s') = refl
eq-is_same_parts (PlaceLeft g) (PlaceLeft g') = refl
eq-is_same_parts _ _ = refl
