-- What a change says about the artifacts of a run, and the places of its results.
use Rattle.std.proofs.Common.{◌≡◌, ◌<◌, ◌≤◌, ℕ, zero, suc, List, [], ◌∷◌, length, map, get_or, Option, Some, None, refl, sym, ap, ◌∙◌}
use Rattle.std.specs.Prelude.{slice_get, option_and_then}
use Rattle.std.proofs.lemmas.Option.{slice_get_past, slice_get_read}
use Rattle.sarif_diff.specs.declared.section.Section.{Section}
use Rattle.sarif_diff.specs.declared.section.Span.{Span}
use Rattle.sarif_model.specs.declared.place.Place.{Place}
use Rattle.sarif_change.specs.Known.{AreKnown, artifact_meets, known_meets, uri_meets}
use Rattle.sarif_change.specs.Places.{uri_at}
use Rattle.sarif_change.specs.declared.known.KnownPath.{KnownPath}

-- ---- an artifact by its number

abbrev flat : {Y : Type 0} → Option (Option Y) → Option Y
flat None = None
flat (Some o) = o

get_map : {X Y : Type 0} (f : X → Option Y) (xs : List X) (n : ℕ) → option_and_then f (slice_get xs n) ≡ flat (slice_get (map f xs) n)
get_map f [] n = refl
get_map f (x ∷ xs) zero = refl
get_map f (x ∷ xs) (suc n) = get_map f xs n

uri_there : (sections : List Section) (roots : List (List ℕ)) (lines : Option Span) (artifact : Option Place)
    → option_and_then (artifact_meets sections roots lines) artifact ≡ uri_meets sections roots lines (option_and_then (λ (a : Place). a.uri) artifact)
uri_there sections roots lines None = refl
uri_there sections roots lines (Some a) = refl

pub known_there : (sections : List Section) (roots : List (List ℕ)) (artifacts : List Place) (paths : List KnownPath)
    → AreKnown sections roots artifacts paths
    → (n : ℕ) (lines : Option Span) → option_and_then (known_meets lines) (slice_get paths n) ≡ uri_meets sections roots lines (uri_at artifacts n)
known_there sections roots artifacts paths known n lines =
    get_map (known_meets lines) paths n
    ∙ (ap (λ os. flat (slice_get os n)) (known lines)
    ∙ (sym (get_map (artifact_meets sections roots lines) artifacts n) ∙ uri_there sections roots lines (slice_get artifacts n)))

module _ (sections : List Section) (roots : List (List ℕ)) (artifacts : List Place) (paths : List KnownPath) (known : AreKnown sections roots artifacts paths) where
  pub none_there : (n : ℕ) (lines : Option Span) → slice_get paths n ≡ None → None ≡ uri_meets sections roots lines (uri_at artifacts n)
  none_there n lines h =
      ap (λ (p : Option KnownPath). option_and_then (known_meets lines) p) (sym h) ∙ known_there sections roots artifacts paths known n lines

  pub some_there : (n : ℕ) (lines : Option Span) (path : KnownPath) → slice_get paths n ≡ Some path
      → known_meets lines path ≡ uri_meets sections roots lines (uri_at artifacts n)
  some_there n lines path h =
      ap (λ (p : Option KnownPath). option_and_then (known_meets lines) p) (sym h) ∙ known_there sections roots artifacts paths known n lines

  pub none_past : (n : ℕ) (lines : Option Span) → length paths ≤ n → None ≡ uri_meets sections roots lines (uri_at artifacts n)
  none_past n lines past = none_there n lines (slice_get_past paths n past)

  pub one_within : (n : ℕ) (lines : Option Span) (path : KnownPath) → n < length paths → path ≡ get_or paths n path
      → known_meets lines path ≡ uri_meets sections roots lines (uri_at artifacts n)
  one_within n lines path within is = some_there n lines path (slice_get_read paths (length paths) n path refl within is)
