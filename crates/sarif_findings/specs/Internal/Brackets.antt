-- Brackets of a message that are not in pairs.
use Rattle.std.specs.Prelude.{ℕ, Bool, false, not, ◌&&◌, ◌==◌, List, [], ◌∷◌}
use Rattle.serde_json.specs.Data.{Data}
use Rattle.sarif_findings.specs.Links.{is_escapable, begins_target}

-- any other byte than `[`, `]` and the backslash
abbrev pub is_ordinary : ℕ → Bool
is_ordinary b = not (is_escapable b)

-- from its first bracket that is not in a pair on: whether that is a `]` with `(N)` after it
abbrev pub closes_link : List Data → List ℕ → Bool
closes_link args [] = false
closes_link args (c ∷ cs) = c == 93 && begins_target args cs
