-- What is read or written, and the bytes that are kept.
use Rattle.std.specs.Prelude.{◌≡◌, ℕ, ◌++◌, List, ⊤, Option, Some, None, option_map}
use Rattle.sarif_streams.specs.declared.kept.Kept.{Kept}

abbrev pub kept_in : {D : Type 0} → Kept D → D
kept_in kept = kept.inner

-- the bytes that were read and kept; None if none are kept
abbrev pub kept_bytes : {D : Type 0} → Kept D → Option (List ℕ)
kept_bytes kept = option_map (λ v. v.items) kept.bytes

-- more bytes are kept after those that were kept, unless none are kept any more
abbrev pub KeepsMore : Option (List ℕ) → Option (List ℕ) → List ℕ → Type 0
KeepsMore old None more = ⊤
KeepsMore None (Some bytes) more = ⊥
KeepsMore (Some earlier) (Some bytes) more = bytes ≡ earlier ++ more
