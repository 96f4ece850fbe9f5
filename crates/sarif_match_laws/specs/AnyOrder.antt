-- Results that are unchanged in any order.
use Rattle.std.specs.Prelude.{◌≡◌, ℕ, List, [], Some, None, slice_get}
use Rattle.std.specs.List.{AllByRecursion}
use Rattle.sarif_model.specs.declared.record.Record.{Record}
use Rattle.sarif_match.specs.Key.{group_of}
use Rattle.sarif_evidence.specs.Seen.{seen}

-- no result has a GUID, or a partial fingerprint whose value isn't the empty string
abbrev pub AreWithoutPartials : List Record → Type 0
AreWithoutPartials rs = AllByRecursion (λ r. (r.guid ≡ None) × ((seen r).partial ≡ [])) rs

-- two results of one group have the same kind and the same effective level
abbrev pub HaveOneLevel : List Record → List Record → Type 0
HaveOneLevel current baseline =
    (i j : ℕ) (r b : Record) → slice_get current i ≡ Some r → slice_get baseline j ≡ Some b
    → group_of r ≡ group_of b → (r.kind ≡ b.kind) × (r.level ≡ b.level)
