-- What is outside of a change.
use Rattle.std.specs.Prelude.{◌≡◌, ◌⊎◌, ℕ, ◌≤◌, Bool, true, false, not, ◌&&◌, nat_le, List, [], ◌∷◌, Option, Some, None, option_map, unwrap_or, if◌then◌else◌}
use Rattle.std.specs.List.{list_any, list_all, Contains}
use Rattle.std.specs.Option.{option_and_then}
use Rattle.sarif_diff.specs.declared.section.Section.{Section}
use Rattle.sarif_diff.specs.declared.section.Span.{Span}
use Rattle.sarif_model.specs.declared.region.Region.{Region}
use Rattle.sarif_change.specs.Meeting.{may_be, meets}
use Rattle.sarif_change.specs.declared.spots.Scope.{Scope}
use Rattle.sarif_change.specs.declared.spots.Scope.TheVariants.{Lines, Files}
use Rattle.sarif_change.specs.declared.spots.Spot.{Spot}
use Rattle.sarif_change.specs.declared.spots.Spots.{Spots}

-- ---- lines

abbrev pub last_of : Region → ℕ
last_of r = unwrap_or r.end_line r.start_line

-- the lines of a region, if its numbers are those of lines
abbrev pub lines_of : Region → Option Span
lines_of r =
    if nat_le 1 r.start_line && nat_le r.start_line (last_of r)
    then Some (record { first = r.start_line; last = last_of r }) else None

-- the lines that count: none in the scope of files
abbrev pub lines_in : Scope → Option Region → Option Span
lines_in Lines region = option_and_then lines_of region
lines_in Files region = None

-- ---- places

module _ (sections : List Section) (roots : List (List ℕ)) (scope : Scope) where
  -- whether a place meets the change, if it has a path
  abbrev pub meeting : Spot → Option Bool
  meeting spot =
      option_map (λ uri. meets sections roots uri (lines_in scope spot.region)) spot.uri

  -- whether a place has a path, and meets the change
  abbrev pub is_met : Spot → Bool
  is_met spot = unwrap_or (meeting spot) false

  -- whether a place has a path, and doesn't meet the change
  abbrev pub is_missed : Spot → Bool
  is_missed spot = not (unwrap_or (meeting spot) true)

  -- whether there are locations, and each is missed
  abbrev pub are_missed : List Spot → Bool
  are_missed [] = false
  are_missed (spot ∷ spots) = list_all is_missed (spot ∷ spots)

  -- whether a result with these places is outside of the change
  abbrev pub is_outside : Spots → Bool
  is_outside spots =
      are_missed spots.locations && not (list_any is_met spots.others) && not spots.elsewhere

-- ---- what is never outside

-- a line is one of these
abbrev pub IsLineOf : Span → ℕ → Type 0
IsLineOf span n = (span.first ≤ n) × (n ≤ span.last)

-- a section changes a line of these lines
pub record Covers (section : Section) (lines : Span) : Type 0 where
  pub span : Span
  pub is_changed : Contains section.spans span
  pub line : ℕ
  pub in_span : IsLineOf span line
  pub in_lines : IsLineOf lines line

-- a place with these lines covers a changed line of the section, has no lines, or its file is changed whole
abbrev pub IsChangedAt : Option Span → Section → Type 0
IsChangedAt None section = Unit {0}
IsChangedAt (Some lines) section = (section.whole ≡ true) ⊎ Covers section lines

-- a place has a URI that may be a changed file, and the file is changed there
pub record IsInChange (sections : List Section) (roots : List (List ℕ)) (scope : Scope) (spot : Spot) : Type 0 where
  pub uri : List ℕ
  pub has_uri : spot.uri ≡ Some uri
  pub section : Section
  pub is_section : Contains sections section
  pub may : may_be roots uri section ≡ true
  pub is_changed : IsChangedAt (lines_in scope spot.region) section
