-- Which entries stay and which lines the unused ones have, by the marks of those that are used.
use Rattle.std.specs.Prelude.{ℕ, ◌+◌, Bool, false, not, ◌&&◌, ◌||◌, List, [], ◌∷◌, ◌++◌, Option, Some, None, slice_get, if◌then◌else◌}
use Rattle.std.specs.Option.{option_map_or}
use Rattle.serde_json.specs.Data.{Data}
use Rattle.sarif_entries.specs.declared.entry.Entry.{Entry}
use Rattle.sarif_entries.specs.declared.condition.ConditionKind.TheVariants as kinds
use Rattle.sarif_entries.specs.Condition.{text_in}
use Rattle.sarif_entries.specs.Matching.{is_expired}
use Rattle.sarif_accept.specs.Keeping.{Heard}
use Rattle.sarif_accept.specs.Unused.{line_of}

-- whether that number is marked
abbrev pub mark_at : List Bool → ℕ → Bool
mark_at marks n = option_map_or (λ mark. mark) (slice_get marks n) false

abbrev pub is_dropped : Heard → Option ℕ → Entry → Bool → Bool
is_dropped heard today e used =
    is_expired today e || (not used && heard (text_in kinds.Tool e.conditions))

-- a value, if it is marked
abbrev pub if_marked : Bool → Data → List Data
if_marked mark d = if mark then d ∷ [] else []

-- the line of an entry that is not marked, if it has a value
abbrev pub line_at : List Bool → ℕ → Bool → Option Data → List ℕ
line_at marks n expired None = []
line_at marks n expired (Some d) = if mark_at marks n then [] else line_of n expired d

module _ (today : Option ℕ) (marks : List Bool) where
  -- for each of these entries, the first with number n, whether it stays
  abbrev pub flags_by : Bool → Heard → ℕ → List Entry → List Bool
  flags_by prune heard n [] = []
  flags_by prune heard n (e ∷ es) =
      not (prune && is_dropped heard today e (mark_at marks n))
      ∷ flags_by prune heard (n + 1) es

  -- the lines of these entries, the first with number n
  abbrev pub lines_by : ℕ → List Entry → List Data → List ℕ
  lines_by n [] ds = []
  lines_by n (e ∷ es) [] = []
  lines_by n (e ∷ es) (d ∷ ds) =
      line_at marks n (is_expired today e) (Some d) ++ lines_by (n + 1) es ds
