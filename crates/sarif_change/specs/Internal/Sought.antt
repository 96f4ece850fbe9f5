-- The paths that a URI may represent, by their keys.
use Rattle.std.specs.Prelude.{ℕ, Bool, ◌||◌, ◌==◌, List, [], ◌∷◌, map, Option, Some, None}
use Rattle.sarif_change.specs.Uri.{Path, after_root, own_path, relative_path}
use Rattle.sarif_change.specs.Internal.Keys.{joined}
use Rattle.sarif_change.specs.declared.uri.SoughtPath.{SoughtPath}
use Rattle.sarif_change.specs.declared.uri.UriReadings.{UriReadings}

abbrev pub seen : SoughtPath → Bool × List ℕ
seen path = (path.absolute, path.key.items)

abbrev pub keyed : Path → Bool × List ℕ
keyed path = (path.0, joined path.1)

-- the paths of what follows roots
abbrev pub rooted_keys : List (List ℕ) → List (Bool × List ℕ)
rooted_keys rests = map keyed (map relative_path rests)

abbrev pub all_readings : UriReadings → List (List ℕ)
all_readings r = r.whole.now ∷ r.cut.now ∷ r.decoded.items ∷ r.cut_decoded.items ∷ []

-- a byte at which a URI is cut, or that may begin an escape
abbrev pub is_special : ℕ → Bool
is_special b = (b == 37 || b == 63) || b == 35

-- all readings of a URI in which nothing is cut or decoded
abbrev pub four_times : List ℕ → List (List ℕ)
four_times uri = uri ∷ uri ∷ uri ∷ uri ∷ []

-- the path of such a URI
abbrev pub plain_by : List ℕ → Option (List ℕ) → Path
plain_by uri None = own_path uri
plain_by uri (Some rest) = relative_path rest

abbrev pub plain_path : List (List ℕ) → List ℕ → Path
plain_path roots uri = plain_by uri (after_root roots uri)
