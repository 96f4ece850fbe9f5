-- An index of results by the names of their fingerprints, as the contracts of its functions see it.
use Rattle.std.specs.Prelude.{ℕ, ◌-◌, ◌<◌, List, [], ◌∷◌, ◌++◌, Bool, false, Option, ◌==◌, if◌then◌else◌, map, length, slice_get, slice_index_or, filter, not, bytes_eq}
use Rattle.std.specs.Borrow.{Bor}
use Rattle.std.specs.Option.{option_map_or}
use Rattle.std.specs.declared.alloc.Global.{Global}
use Rattle.std.specs.declared.vec.Vec.{Vec}
use Rattle.std.specs.HashMap.{get_by, HashMap}
use Rattle.sarif_match.specs.declared.tier_key.Key.{Key}
use Rattle.sarif_model.specs.declared.record.Record.{Record}
use Rattle.sarif_match.specs.declared.tier.Tier.{Tier}
use Rattle.sarif_match.specs.KeyParts.{KeyParts, parts_of}
use Rattle.sarif_match.specs.Internal.Paired.{key_at}
use Rattle.sarif_match.specs.Partners.{with_key}

-- numbered keys, as numbered parts
abbrev pub with_parts : List (ℕ × Key) → List (ℕ × KeyParts)
with_parts keyed = map (λ e. (e.0, parts_of e.1)) keyed

-- the results of a group, if there is one
abbrev pub group_of : Option (Vec (ℕ × Key) Global) → List (ℕ × Key)
group_of group = option_map_or (λ group. group.items) group []

-- the results that have a fingerprint with this name
abbrev pub group_at : {S : Type 0} → HashMap (Bor (List ℕ)) (Vec (ℕ × Key) Global) S → List ℕ
    → List (ℕ × Key)
group_at named name = group_of (get_by (λ own. bytes_eq name own.now) named)

-- whether the last of these results has this number
abbrev pub ends_with : {K : Type 0} → ℕ → List (ℕ × K) → Bool
ends_with number keyed =
    option_map_or (λ e. e.0 == number) (slice_get keyed (length keyed - 1)) false

-- the results, with one more at the end, unless it is the last already
abbrev pub put_once : {K : Type 0} → ℕ → K → List (ℕ × K) → List (ℕ × K)
put_once number key keyed =
    if ends_with number keyed then keyed else (keyed ++ ((number, key) ∷ []))

-- all these results have numbers below n
abbrev pub AreNumberedBelow : {K : Type 0} → ℕ → List (ℕ × K) → Type 0
AreNumberedBelow n [] = Unit {0}
AreNumberedBelow n (e ∷ es) = (e.0 < n) × AreNumberedBelow n es

-- the results that have no mark; past the end nothing is marked
abbrev pub unmarked : {K : Type 0} → List Bool → List (ℕ × K) → List (ℕ × K)
unmarked marks keyed = filter (λ e. not (slice_index_or marks e.0 false)) keyed

-- the results with the numbers of these, each with its key at a tier, if it has one
abbrev pub keyed_at : {K : Type 0} → Tier → List Record → List (ℕ × K) → List (ℕ × KeyParts)
keyed_at tier rs [] = []
keyed_at tier rs (e ∷ es) = with_key e.0 (key_at tier rs e.0) (keyed_at tier rs es)
