-- The tiers of a merge, in order.
use Rattle.std.specs.Prelude.{ℕ, Bool, List, bytes_eq, [], ◌∷◌, ◌++◌, map, fold, reverse}
use Rattle.std.specs.List.{flat_map, list_any}
use Rattle.std.specs.Ordering.{nat_cmp}
use Rattle.std.specs.Cmp.Lexicographic.{slice_cmp}
use Rattle.std.specs.BTreeSet.{insert_key}
use Rattle.sarif_model.specs.declared.record.Record.{Record}
use Rattle.sarif_match.specs.declared.tier.Tier.{Tier}
use Rattle.sarif_match.specs.declared.tier.Tier.TheVariants.{Guid, Same, SameText, FingerprintHere, Fingerprint, PartialHere, PartialMoved, PlaceText, Place, PlaceLeft}
use Rattle.sarif_evidence.specs.declared.version.MatchingVersion.{MatchingVersion}
use Rattle.sarif_evidence.specs.declared.version.MatchingVersion.TheVariants.{Two, Three}
use Rattle.sarif_evidence.specs.Seen.{seen}

-- the names of the fingerprints of these results, unchanged (SARIF 2.1.0, "fingerprints property")
abbrev pub names_of : List Record → List (List ℕ)
names_of rs = flat_map (λ r. map (λ pair. pair.0) r.full) rs

-- whether the name is among these
abbrev pub has_name : List ℕ → List (List ℕ) → Bool
has_name name names = list_any (λ own. bytes_eq own name) names

-- the names of a list added to strictly rising names, each once, in byte order
abbrev pub with_names : List (List ℕ) → List (List ℕ) → List (List ℕ)
with_names rising names = fold (insert_key (slice_cmp nat_cmp)) rising names

-- the names in any result of either list, each once, in strictly rising byte order
abbrev pub rising_names : List Record → List Record → List (List ℕ)
rising_names cs bs = with_names (with_names [] (names_of cs)) (names_of bs)

-- these names in strictly decreasing byte order
abbrev pub falling_names : List Record → List Record → List (List ℕ)
falling_names cs bs = reverse (rising_names cs bs)

-- the tiers of version 2 in the order in which a merge goes through them
abbrev pub tiers_of : List Record → List Record → List Tier
tiers_of cs bs =
    Guid ∷ (map Fingerprint (falling_names cs bs) ++ PartialHere ∷ (PartialMoved ∷ (Place ∷ [])))

-- the tiers of version 3 for names of fingerprints: a result that did not move comes before one that moved
abbrev pub finer_tiers : List (List ℕ) → List Tier
finer_tiers names =
    Guid ∷ (Same ∷ (SameText ∷ (map FingerprintHere names
    ++ PartialHere ∷ (map Fingerprint names
    ++ PartialMoved ∷ (PlaceText ∷ (Place ∷ (PlaceLeft ∷ [])))))))

-- the tiers of a version in order
abbrev pub tiers_in : MatchingVersion → List Record → List Record → List Tier
tiers_in Two cs bs = tiers_of cs bs
tiers_in Three cs bs = finer_tiers (falling_names (map seen cs) (map seen bs))
